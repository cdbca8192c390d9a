use Rattle.std.proofs.Common.{◌∙◌, List, rules, subst, sym}
use Rattle.trace_turns.specs.declared.told.Mark.{Mark}
use Rattle.trace_turns.specs.Answering.{BufferState}
use Rattle.trace_turns.specs.Marks.{AreWithin, HaveMarked}
use Rattle.trace_turns.proofs.Flowing.{fit_behind, has_flown, may_flow, score_full, stays_unlost, within_thin}
use Rattle.trace_turns.proofs.Resuming.{marks_within}
use Rattle.trace_turns.proofs.onward.live_turn.Goals as goal

pub resume_run-requires-clause-within : goal.resume_run-requires-clause-within
resume_run-requires-clause-within c =
    let s = c.requires.turn.0 in let may = c.requires.turn.1 in
    subst (λ (l : List Mark). AreWithin c.args.taps.now.buffers.items l) (sym c.deref-3.ensures.value)
    (within_thin c.args.taps.now.buffers.items s.full c.args.live.now.marks.items may.fills
    (marks_within s.base s.text c.args.sides.now.feeders.items c.args.sides.now.readers.items may.sides c.args.window c.args.ticks c.args.live.now.engine.parts.clock c.args.from c.args.live.now.engine.parts c.args.live.now.marks.items
    s.full may.paused))

pub go_on-requires : goal.go_on-requires
go_on-requires c = let s = c.requires.turn.0 in let may = c.requires.turn.1 in record {
  some = c.requires.some;
  few = c.requires.few;
  within = c.requires.within;
  goes = search rules;
  turn = (
    score_full c.args.window c.args.ticks c.args.live.now.engine.parts.clock c.clock.result c.clock.ensures c.args.sides.now.feeders.items c.args.sides.now.readers.items c.deref.result.now c.deref-2.result.now c.deref.ensures.value c.deref-2.ensures.value
        c.args.live.now.marks.items c.deref-3.result.now c.deref-3.ensures.value c.args.ends.now c.args.taps.now.buffers.items c.resume_run.new.buffers.items c.resume_run.ensures.many c.resume_run.ensures.resumed c.requires.long
        s.full may.fills s.base s.clocks may.setting s.text may.sides may.fit,
    may_flow c.args.window c.args.ticks c.args.live.now.engine.parts.clock c.clock.result c.clock.ensures c.args.sides.now.feeders.items c.args.sides.now.readers.items c.deref.result.now c.deref-2.result.now c.deref.ensures.value c.deref-2.ensures.value
        c.args.live.now.marks.items c.deref-3.result.now c.deref-3.ensures.value c.args.ends.now c.args.taps.now.buffers.items c.resume_run.new.buffers.items c.resume_run.ensures.many c.resume_run.ensures.resumed c.requires.long
        s.full may.fills s.base s.clocks may.setting s.text may.sides may.fit c.args.from c.args.live.now.engine.parts may.unlost may.paused,
  );
}

pub returns-clause-refused : goal.returns-clause-refused
returns-clause-refused c = λ score e may.
    c.in_ok-reached.ensures.refused
    (score_full c.args.window c.args.ticks c.args.live.now.engine.parts.clock c.clock.result c.clock.ensures c.args.sides.now.feeders.items c.args.sides.now.readers.items c.deref.result.now c.deref-2.result.now c.deref.ensures.value c.deref-2.ensures.value
    c.args.live.now.marks.items c.deref-3.result.now c.deref-3.ensures.value c.args.ends.now c.args.taps.now.buffers.items c.resume_run.new.buffers.items c.resume_run.ensures.many c.resume_run.ensures.resumed c.requires.long
    score.full may.fills score.base score.clocks may.setting score.text may.sides may.fit) e
    (may_flow c.args.window c.args.ticks c.args.live.now.engine.parts.clock c.clock.result c.clock.ensures c.args.sides.now.feeders.items c.args.sides.now.readers.items c.deref.result.now c.deref-2.result.now c.deref.ensures.value c.deref-2.ensures.value
    c.args.live.now.marks.items c.deref-3.result.now c.deref-3.ensures.value c.args.ends.now c.args.taps.now.buffers.items c.resume_run.new.buffers.items c.resume_run.ensures.many c.resume_run.ensures.resumed c.requires.long
    score.full may.fills score.base score.clocks may.setting score.text may.sides may.fit c.args.from c.args.live.now.engine.parts may.unlost may.paused)

pub returns-clause-gone : goal.returns-clause-gone
returns-clause-gone c = λ n score e may.
    has_flown c.args.window c.args.ticks c.args.live.now.engine.parts.clock c.clock.result c.clock.ensures c.args.sides.now.feeders.items c.args.sides.now.readers.items c.deref.result.now c.deref-2.result.now c.deref.ensures.value c.deref-2.ensures.value
    c.args.live.now.marks.items c.deref-3.result.now c.deref-3.ensures.value c.args.ends.now c.args.taps.now.buffers.items c.resume_run.new.buffers.items c.resume_run.ensures.many c.resume_run.ensures.resumed c.requires.long
    score.full may.fills score.base score.clocks may.setting score.text may.sides may.fit c.args.from n (c.in_ok-reached.ensures.within n e) c.args.live.now.engine.parts c.go_on.new.engine.parts c.mark_run.new.marks.items c.go_on.new.taps.buffers.items c.let_go_run.new.buffers.items may.unlost may.paused
    (λ it can. c.in_ok-reached.ensures.made n it e can) (subst (λ (l : List BufferState). HaveMarked l c.mark_run.new.marks.items) c.deref-4.ensures.value c.mark_run.ensures.marked) c.let_go_run.ensures.many c.let_go_run.ensures.gone

pub returns-clause-stays : goal.returns-clause-stays
returns-clause-stays c = λ k others other unlost.
    stays_unlost c.args.window c.args.ticks c.args.live.now.engine.parts.clock c.clock.result c.clock.ensures c.args.sides.now.feeders.items c.args.sides.now.readers.items c.deref.result.now c.deref-2.result.now c.deref.ensures.value c.deref-2.ensures.value
    c.args.live.now.marks.items c.deref-3.result.now c.deref-3.ensures.value c.args.ends.now c.args.taps.now.buffers.items c.resume_run.new.buffers.items c.resume_run.ensures.many c.resume_run.ensures.resumed c.requires.long
    c.go_on.new.taps.buffers.items c.let_go_run.new.buffers.items c.in_ok-reached.ensures.same c.let_go_run.ensures.many c.let_go_run.ensures.gone k others other unlost

pub returns-clause-fit : goal.returns-clause-fit
returns-clause-fit c = λ base text fit.
    fit_behind c.args.window c.args.ticks c.args.live.now.engine.parts.clock c.clock.result c.clock.ensures c.args.sides.now.feeders.items c.args.sides.now.readers.items c.deref.result.now c.deref-2.result.now c.deref.ensures.value c.deref-2.ensures.value
    c.args.live.now.marks.items c.deref-3.result.now c.deref-3.ensures.value c.args.ends.now c.args.taps.now.buffers.items c.resume_run.new.buffers.items c.resume_run.ensures.many c.resume_run.ensures.resumed c.requires.long
    base text c.go_on.new.taps.buffers.items c.let_go_run.new.buffers.items c.in_ok-reached.ensures.same c.let_go_run.ensures.many c.let_go_run.ensures.gone fit

pub returns-clause-many : goal.returns-clause-many
returns-clause-many c = c.let_go_run.ensures.many ∙ c.in_ok-reached.ensures.same.many ∙ c.resume_run.ensures.many
