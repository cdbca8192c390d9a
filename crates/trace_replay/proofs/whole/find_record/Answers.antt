use Rattle.std.proofs.Common.{◌≡◌, ◌∙◌, ℕ, List, [], length, refl, rules, sym, subst}
use Rattle.plan_core.specs.declared.sink.BufferPlan.{BufferPlan}
use Rattle.buffer_ends.specs.Local.{Answers}
use Rattle.trace_turns.specs.declared.ends.Ends.{Ends}
use Rattle.clock_infer.proofs.Exact.{some_inj}
use Rattle.trace_replay.specs.RecordTurns.{AreAllTurns}
use Rattle.trace_turns.specs.Orders.{AreTurns, no_chunks, no_ticks}
use Rattle.trace_turns.specs.Thin.{AreKept}
use Rattle.trace_turns.specs.Logs.{AreNew}
use Rattle.trace_records.specs.Traces.{text_of, base_of}
use Rattle.trace_turns.specs.Turns.{AreSides, AreTold, chunks_of}
use Rattle.trace_replay.proofs.whole.find_record.Goals as goal

pub judge-requires : goal.judge-requires
judge-requires c = record {
  setting = search rules;
  trace = search rules;
  buffers = search rules;
  sides = c.in_ok-sides.ensures (base_of c.args.plan.now c.args.library.now c.args.clocks.now c.args.start.second) refl refl;
  size = search rules;
  long = search rules;
  none = search rules;
  new = subst (λ (l : List Ends). AreNew c.args.plan.now.buffers c.deref-3.result.now (length c.args.plan.now.buffers) c.in_ok-buffers.buffers.items l) (sym c.deref-2.ensures.value)
      (subst (λ (l : List (List Answers)). AreNew c.args.plan.now.buffers l (length c.args.plan.now.buffers) c.in_ok-buffers.buffers.items c.in_ok-buffers.ends.items) (c.deref.ensures.value ∙ sym c.deref-3.ensures.value)
      (subst (λ (l : List BufferPlan). AreNew l c.deref.result.now (length l) c.in_ok-buffers.buffers.items c.in_ok-buffers.ends.items) c.as_slice.ensures c.in_ok-buffers.ensures.new));
}

pub returns-clause-turns : goal.returns-clause-turns
returns-clause-turns c = λ held e.
    let base = base_of c.args.plan.now c.args.library.now c.args.clocks.now c.args.start.second in
    let trace = c.args.trace.now in
    let told : AreTold base (text_of trace.buffers) c.judge.new.taps.buffers.items = search rules in
    let turns : AreTurns base c.args.clocks.now.running trace.window trace.ticks (text_of trace.buffers) c.judge.new.turns.items no_ticks no_chunks = search rules in
    let empty : (b : ℕ) → chunks_of c.judge.new.taps.buffers.items b ≡ [] = search rules in
    let kept : AreKept c.judge.new.taps.buffers.items = search rules in
    let sides : AreSides base c.in_ok-sides.sides.feeders.items c.in_ok-sides.sides.readers.items = c.in_ok-sides.ensures base refl refl in
    subst (AreAllTurns base c.args.clocks.now trace) (some_inj e) (record { told = told; sides = sides; empty = empty; kept = kept; turns = turns })
