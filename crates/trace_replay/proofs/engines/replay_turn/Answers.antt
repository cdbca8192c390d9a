use Rattle.std.proofs.Common.{◌∙◌, ℕ, List, length, ap, subst, sym}
use Rattle.std.proofs.lemmas.Result.{err_from_is_err_and}
use Rattle.node_states.proofs.Chunks.{on_err}
use Rattle.trace_turns.specs.declared.told.Mark.{Mark}
use Rattle.trace_turns.specs.Answering.{BufferState}
use Rattle.trace_turns.specs.Marks.{AreWithin, HaveMarked}
use Rattle.trace_replay.specs.Replaying.{score_over}
use Rattle.trace_replay.proofs.Playback.{feeders_long, has_played, marks_fit, marks_low, may_replay, readers_long}
use Rattle.trace_replay.proofs.engines.replay_turn.Goals as goal

pub resume_run-requires-clause-feeders : goal.resume_run-requires-clause-feeders
resume_run-requires-clause-feeders g c = ap (λ (l : List ℕ). length l) c.deref.ensures.value ∙ feeders_long c.requires.play.2

pub resume_run-requires-clause-readers : goal.resume_run-requires-clause-readers
resume_run-requires-clause-readers g c = ap (λ (l : List ℕ). length l) c.deref-2.ensures.value ∙ readers_long c.requires.play.2

pub resume_run-requires-clause-marks : goal.resume_run-requires-clause-marks
resume_run-requires-clause-marks g c = ap (λ (l : List Mark). length l) c.deref-3.ensures.value ∙ c.requires.play.2.rests.many

pub resume_run-requires-clause-within : goal.resume_run-requires-clause-within
resume_run-requires-clause-within g c = subst (λ (l : List Mark). AreWithin c.args.taps.now.buffers.items l) (sym c.deref-3.ensures.value) (marks_low c.requires.play.2)

pub replay_clock-requires-clause-play : goal.replay_clock-requires-clause-play
replay_clock-requires-clause-play g c = (let p = c.requires.play in (
  score_over p.0 p.2.full,
  p.0.ticks,
  p.1,
  may_replay p.2 c.clock.ensures c.deref.ensures.value c.deref-2.ensures.value c.deref-3.ensures.value c.resume_run.new.buffers.items c.resume_run.ensures.many c.resume_run.ensures.resumed,
))

pub mark_run-requires : goal.mark_run-requires
mark_run-requires g c = marks_fit c.requires.play.2 c.resume_run.new.buffers.items c.replay_clock.new.taps.buffers.items c.resume_run.ensures.many c.in_ok-replay_clock.ensures.same ∙ ap (λ (l : List BufferState). length l) (sym c.deref-4.ensures.value)

pub returns-clause-done : goal.returns-clause-done
returns-clause-done g c = λ tale first may.
    has_played may c.clock.ensures c.deref.ensures.value c.deref-2.ensures.value c.deref-3.ensures.value c.resume_run.new.buffers.items c.resume_run.ensures.many c.resume_run.ensures.resumed
    c.in_ok-replay_clock.ensures.same
    (c.in_ok-replay_clock.ensures.done (score_over tale may.full) tale.ticks first
    (may_replay may c.clock.ensures c.deref.ensures.value c.deref-2.ensures.value c.deref-3.ensures.value c.resume_run.new.buffers.items c.resume_run.ensures.many c.resume_run.ensures.resumed))
    c.mark_run.new.marks.items c.mark_run.ensures.many (subst (λ (l : List BufferState). HaveMarked l c.mark_run.new.marks.items) c.deref-4.ensures.value c.mark_run.ensures.marked)
    c.let_go_run.new.buffers.items c.let_go_run.ensures.many c.let_go_run.ensures.gone

pub returns-in_err-replay_clock-clause-part : goal.returns-in_err-replay_clock-clause-part
returns-in_err-replay_clock-clause-part g c = on_err c.from_residual.result (λ tale first may.
    c.in_err-replay_clock.ensures.part (score_over tale may.full) tale.ticks first
    (may_replay may c.clock.ensures c.deref.ensures.value c.deref-2.ensures.value c.deref-3.ensures.value c.resume_run.new.buffers.items c.resume_run.ensures.many c.resume_run.ensures.resumed))

pub returns-in_err-replay_clock-clause-cause : goal.returns-in_err-replay_clock-clause-cause
returns-in_err-replay_clock-clause-cause g c =
    let p = err_from_is_err_and c.from_residual.result c.from_residual.ensures.1 in rw (p.1, p.2) (λ tale first sink may e.
    c.in_err-replay_clock.ensures.cause (score_over tale may.full) tale.ticks first sink
    (may_replay may c.clock.ensures c.deref.ensures.value c.deref-2.ensures.value c.deref-3.ensures.value c.resume_run.new.buffers.items c.resume_run.ensures.many c.resume_run.ensures.resumed) e)
