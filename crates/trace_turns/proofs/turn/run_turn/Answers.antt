use Rattle.std.proofs.Common.{◌≡◌, ◌∙◌, [], arith, sym}
use Rattle.std.proofs.lemmas.Bool.Decides.{nat_tests}
use Rattle.trace_records.specs.Traces.{base_of}
use Rattle.trace_turns.specs.Turns.{chunks_of}
use Rattle.trace_turns.proofs.Unbuffered.{ended, is_none}
use Rattle.trace_turns.proofs.Readying.{made, may, ok_map, refused, still_fit}
use Rattle.trace_turns.proofs.Thinning.{kept_begun, kept_same}
use Rattle.trace_turns.proofs.turn.run_turn.Goals as goal

pub run_clock-turn-requires-clause-turn : goal.run_clock-turn-requires-clause-turn
run_clock-turn-requires-clause-turn c =
    let base = base_of c.args.station.now.plan.now c.args.station.now.library.now c.args.station.now.clocks.now c.args.station.now.start.second in (
      record { base = base; clocks = c.args.station.now.clocks.now; text = c.requires.text.0; chunks = chunks_of c.args.taps.now.buffers.items },
      may base c.args.station.now.clocks.now c.requires.setting c.args.window c.args.ticks c.args.clock c.args.sides.now.feeders.items c.args.sides.now.readers.items c.deref.result.now c.deref-2.result.now
          c.deref.ensures.value c.deref-2.ensures.value c.requires.sides c.args.ends.now c.args.taps.now.buffers.items c.begin_run.new.buffers.items c.begin_run.ensures.many c.begin_run.ensures.begun c.requires.long
          c.in-Ok.engine.parts c.in-Ok.ensures.clock c.in-Ok.ensures.setting c.in-Ok.ensures.stands c.requires.text.0 c.requires.text.1,
    )

pub returns-clause-made : goal.returns-clause-made
returns-clause-made c =
    made (base_of c.args.station.now.plan.now c.args.station.now.library.now c.args.station.now.clocks.now c.args.station.now.start.second) c.args.station.now.clocks.now c.requires.setting c.args.window c.args.ticks c.args.clock
    c.args.sides.now.feeders.items c.args.sides.now.readers.items c.deref.result.now c.deref-2.result.now
    c.deref.ensures.value c.deref-2.ensures.value c.requires.sides c.args.ends.now c.args.taps.now.buffers.items c.begin_run.new.buffers.items c.begin_run.ensures.many c.begin_run.ensures.begun c.requires.long
    c.in-Ok.engine.parts c.in-Ok.ensures.clock c.in-Ok.ensures.setting c.in-Ok.ensures.stands c.run_clock-turn.result c.run_clock-turn.new.taps.buffers.items c.run_clock-turn.ensures.made

pub returns-clause-fit : goal.returns-clause-fit
returns-clause-fit c =
    still_fit (base_of c.args.station.now.plan.now c.args.station.now.library.now c.args.station.now.clocks.now c.args.station.now.start.second) c.args.station.now.clocks.now c.requires.setting c.args.window c.args.ticks c.args.clock
    c.args.sides.now.feeders.items c.args.sides.now.readers.items c.deref.result.now c.deref-2.result.now
    c.deref.ensures.value c.deref-2.ensures.value c.requires.sides c.args.ends.now c.args.taps.now.buffers.items c.begin_run.new.buffers.items c.begin_run.ensures.many c.begin_run.ensures.begun c.requires.long
    c.in-Ok.engine.parts c.in-Ok.ensures.clock c.in-Ok.ensures.setting c.in-Ok.ensures.stands c.run_clock-turn.result c.run_clock-turn.new.taps.buffers.items c.run_clock-turn.ensures.same

pub returns-clause-refused : goal.returns-clause-refused
returns-clause-refused c =
    refused (base_of c.args.station.now.plan.now c.args.station.now.library.now c.args.station.now.clocks.now c.args.station.now.start.second) c.args.station.now.clocks.now c.requires.setting c.args.window c.args.ticks c.args.clock
    c.args.sides.now.feeders.items c.args.sides.now.readers.items c.deref.result.now c.deref-2.result.now
    c.deref.ensures.value c.deref-2.ensures.value c.requires.sides c.args.ends.now c.args.taps.now.buffers.items c.begin_run.new.buffers.items c.begin_run.ensures.many c.begin_run.ensures.begun c.requires.long
    c.in-Ok.engine.parts c.in-Ok.ensures.clock c.in-Ok.ensures.setting c.in-Ok.ensures.stands c.run_clock-turn.result c.run_clock-turn.new.taps.buffers.items c.run_clock-turn.ensures.refused

pub returns-then-is_empty-clause-made : goal.returns-then-is_empty-clause-made
returns-then-is_empty-clause-made c =
    let base = base_of c.args.station.now.plan.now c.args.station.now.library.now c.args.station.now.clocks.now c.args.station.now.start.second in
    let none : base.plan.buffers ≡ [] = sym c.as_slice.ensures ∙ is_none c.as_slice.result.now (grind (arith, nat_tests, c.is_empty.ensures, c.if-is_empty.true)) in
    λ n text e fit. ended base c.args.station.now.clocks.now c.requires.setting none text c.args.window c.args.ticks c.args.clock (chunks_of c.args.taps.now.buffers.items) n e

pub run_clock-turn-requires-clause-kept : goal.run_clock-turn-requires-clause-kept
run_clock-turn-requires-clause-kept c =
    kept_begun c.deref.result.now c.deref-2.result.now c.args.clock c.args.taps.now.buffers.items c.begin_run.new.buffers.items c.begin_run.ensures.many c.begin_run.ensures.begun c.requires.kept

pub returns-clause-kept : goal.returns-clause-kept
returns-clause-kept c = ok_map c.run_clock-turn.result (λ turn same. kept_same c.begin_run.new.buffers.items c.run_clock-turn.new.taps.buffers.items same
    (kept_begun c.deref.result.now c.deref-2.result.now c.args.clock c.args.taps.now.buffers.items c.begin_run.new.buffers.items c.begin_run.ensures.many c.begin_run.ensures.begun c.requires.kept)) c.run_clock-turn.ensures.same
