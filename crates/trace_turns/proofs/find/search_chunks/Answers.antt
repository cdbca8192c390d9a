use Rattle.std.proofs.Common.{◌≡◌, ◌≤◌, ◌+◌, ◌-◌, ◌*◌, ◌∙◌, ℕ, List, length, replicate, refl, ap, subst, sym, arith}
use Rattle.std.specs.Prelude.{slice_set}
use Rattle.trace_turns.specs.Turns.{base_at, chunks_of}
use Rattle.trace_turns.proofs.Searching.{ArePassing, AreStuck, made_of, total}
use Rattle.trace_turns.proofs.Ordering.{led_all, led_more, led_none}
use Rattle.trace_turns.proofs.Finding.{begin_passes, came_on, fewer, long_made, none_made, none_total, passes_done, passes_end, passes_on, passes_refuse, read_made, still_stuck}
use Rattle.trace_turns.proofs.find.search_chunks.Goals as goal

pub loop-left-init : goal.loop-left-init
loop-left-init c =
    let zeros : c.in_ok-made.made.items ≡ replicate c.args.station.now.clocks.now.running 0 = c.in_ok-made.ensures.items_if_clones_equal (λ y e. e) in
    let none : (k : ℕ) → made_of c.in_ok-made.made.items k ≡ 0 = (λ k. ap (λ (l : List ℕ). made_of l k) zeros ∙ none_made c.args.station.now.clocks.now.running k) in
    record {
      kept = c.requires.kept;
      led = λ text fit. led_none (base_at c.args.station.now) c.args.station.now.clocks.now c.requires.setting c.args.window c.args.ticks text c.args.turns.now.items c.in_ok-made.made.items (chunks_of c.args.taps.now.buffers.items) c.requires.none none c.requires.empty;
      passing = begin_passes (base_at c.args.station.now) c.args.station.now.clocks.now c.requires.setting c.args.window c.args.ticks c.args.ends.now c.args.taps.now.buffers.items c.in_ok-made.made.items
          (c.args.station.now.clocks.now.running * c.args.ticks) (ap (λ l. length l) zeros ∙ long_made c.args.station.now.clocks.now.running)
          none (ap total zeros ∙ none_total c.args.station.now.clocks.now.running) refl c.requires.empty;
    }

pub loop-clock-init : goal.loop-clock-init
loop-clock-init c = record {
  passing = c.loop-left.invariant.passing;
  kept = c.loop-left.invariant.kept;
  led = c.loop-left.invariant.led;
  within = omega arith;
  stuck = λ same text fit k low more. absurd (omega (arith, low));
}

pub loop-left-preserved : goal.loop-left-preserved
loop-left-preserved c = record { passing = c.loop-clock.invariant.passing; kept = c.loop-clock.invariant.kept; led = c.loop-clock.invariant.led }

pub run_turn-requires : goal.run_turn-requires
run_turn-requires c = record {
  some = c.requires.some;
  few = c.requires.few;
  setting = c.requires.setting;
  sides = c.requires.sides;
  long = c.requires.long ∙ sym c.loop-clock.invariant.passing.many;
  kept = c.loop-clock.invariant.kept;
  text = (c.requires.text.0, c.loop-clock.invariant.passing.fit c.requires.text.0 c.requires.text.1);
}

pub overflow_sub-left : goal.overflow_sub-left
overflow_sub-left c =
    let passing = c.loop-clock.invariant.passing in
    let size = passing.size in
    let read = read_made c.loop-clock.made.items c.loop-clock.clock c.index-in-Made.result.now c.index-in-Made.ensures (omega (arith, size, c.loop-clock-test.true)) in
    let on = came_on (base_at c.args.station.now) c.args.station.now.clocks.now c.requires.setting c.args.window c.args.ticks c.args.ends.now c.args.taps.now.buffers.items c.loop-clock.made.items c.loop-clock.left c.loop-clock.taps.buffers.items passing
    c.loop-clock.clock c.loop-clock-test.true c.in-Made.count c.run_turn.new.taps.buffers.items (λ text fit. c.in_ok-count.ensures.made c.in-Made.count text c.in-Made.is fit) c.requires.text.0 c.requires.text.1 in
    omega (arith, read, on)

pub overflow_sub-left-in-Made : goal.overflow_sub-left-in-Made
overflow_sub-left-in-Made c =
    let passing = c.loop-clock.invariant.passing in
    let size = passing.size in
    let read = read_made c.loop-clock.made.items c.loop-clock.clock c.index-in-Made.result.now c.index-in-Made.ensures (omega (arith, size, c.loop-clock-test.true)) in
    let few = fewer (base_at c.args.station.now) c.args.station.now.clocks.now c.requires.setting c.args.window c.args.ticks c.args.ends.now c.args.taps.now.buffers.items c.loop-clock.made.items c.loop-clock.left c.loop-clock.taps.buffers.items passing
    c.loop-clock.clock c.loop-clock-test.true c.in-Made.count c.run_turn.new.taps.buffers.items (λ text fit. c.in_ok-count.ensures.made c.in-Made.count text c.in-Made.is fit) c.requires.text.0 c.requires.text.1 in
    subst (λ n. c.in-Made.count - n ≤ c.loop-clock.left) read few

pub returns-in-Refused-clause-none : goal.returns-in-Refused-clause-none
returns-in-Refused-clause-none c = λ e text fit ordered.
    passes_refuse (base_at c.args.station.now) c.args.station.now.clocks.now c.requires.setting c.args.window c.args.ticks c.args.ends.now c.args.taps.now.buffers.items c.loop-clock.made.items c.loop-clock.left c.loop-clock.taps.buffers.items
    c.loop-clock.invariant.passing c.loop-clock.clock c.loop-clock-test.true (λ t f. c.in_ok-count.ensures.refused t c.in-Refused.is f) text fit ordered

pub returns-in-Refused-clause-fit : goal.returns-in-Refused-clause-fit
returns-in-Refused-clause-fit c = λ text fit. c.in_ok-count.ensures.fit text (c.loop-clock.invariant.passing.fit text fit)

pub loop-clock-preserved : goal.loop-clock-preserved
loop-clock-preserved c =
    let passing = c.loop-clock.invariant.passing in
    let size = passing.size in
    let read = read_made c.loop-clock.made.items c.loop-clock.clock c.index-in-Made.result.now c.index-in-Made.ensures (omega (arith, size, c.loop-clock-test.true)) in
    let left : c.loop-clock.left - (c.in-Made.count - made_of c.loop-clock.made.items c.loop-clock.clock) ≡ c.loop-clock.left - (c.in-Made.count - c.index-in-Made.result.now) = ap (λ n. c.loop-clock.left - (c.in-Made.count - n)) read in
    record {
      passing = subst (λ n. ArePassing (base_at c.args.station.now) c.args.station.now.clocks.now c.args.window c.args.ticks c.args.ends.now c.args.taps.now.buffers.items (slice_set c.loop-clock.made.items c.loop-clock.clock c.in-Made.count) n c.run_turn.new.taps.buffers.items) left
          (passes_on (base_at c.args.station.now) c.args.station.now.clocks.now c.requires.setting c.args.window c.args.ticks c.args.ends.now c.args.taps.now.buffers.items c.loop-clock.made.items c.loop-clock.left c.loop-clock.taps.buffers.items passing
          c.loop-clock.clock c.loop-clock-test.true c.in-Made.count c.run_turn.new.taps.buffers.items (λ text fit. c.in_ok-count.ensures.made c.in-Made.count text c.in-Made.is fit) c.in_ok-count.ensures.fit c.in_ok-count.ensures.many c.requires.text);
      kept = c.in_ok-count.ensures.kept;
      led = λ text fit.
          led_more (base_at c.args.station.now) c.args.station.now.clocks.now c.requires.setting c.args.window c.args.ticks text c.loop-clock.turns.items c.note_turn.new.turns.items c.loop-clock.made.items
          (chunks_of c.loop-clock.taps.buffers.items) (chunks_of c.run_turn.new.taps.buffers.items) (record { clock = c.loop-clock.clock; ticks = c.in-Made.count }) c.in_ok-note_turn-in-Made.ensures
          (omega (arith, size, c.loop-clock-test.true)) (c.loop-clock.invariant.led text fit) (record {
            runs = c.loop-clock-test.true;
            on = came_on (base_at c.args.station.now) c.args.station.now.clocks.now c.requires.setting c.args.window c.args.ticks c.args.ends.now c.args.taps.now.buffers.items c.loop-clock.made.items c.loop-clock.left c.loop-clock.taps.buffers.items passing
                c.loop-clock.clock c.loop-clock-test.true c.in-Made.count c.run_turn.new.taps.buffers.items (λ t f. c.in_ok-count.ensures.made c.in-Made.count t c.in-Made.is f) text fit;
            come = (c.in_ok-count.ensures.made c.in-Made.count text c.in-Made.is (passing.fit text fit)).come;
          });
      within = (let w = c.loop-clock.invariant.within in omega (arith, w));
      stuck = subst (λ n. AreStuck (base_at c.args.station.now) c.args.window c.args.ticks c.args.ends.now c.args.taps.now.buffers.items (slice_set c.loop-clock.made.items c.loop-clock.clock c.in-Made.count) c.run_turn.new.taps.buffers.items c.loop-left.left n (c.loop-clock.clock + 1)) left
          (still_stuck (base_at c.args.station.now) c.args.station.now.clocks.now c.requires.setting c.args.window c.args.ticks c.args.ends.now c.args.taps.now.buffers.items c.loop-clock.made.items c.loop-left.left c.loop-clock.left c.loop-clock.taps.buffers.items passing
          c.loop-clock.clock c.loop-clock-test.true c.loop-clock.invariant.within c.loop-clock.invariant.stuck c.in-Made.count c.run_turn.new.taps.buffers.items (λ text fit. c.in_ok-count.ensures.made c.in-Made.count text c.in-Made.is fit));
    }

pub returns-then-left-before-clause-none : goal.returns-then-left-before-clause-none
returns-then-left-before-clause-none c = λ e text fit ordered.
    let full : c.loop-clock.clock ≡ c.args.station.now.clocks.now.running = omega (arith, c.loop-clock-test.false, c.loop-clock.auto.clock-end) in
    passes_end (base_at c.args.station.now) c.args.station.now.clocks.now c.requires.setting c.args.window c.args.ticks c.args.ends.now c.args.taps.now.buffers.items c.loop-clock.made.items c.loop-clock.left c.loop-clock.taps.buffers.items
    c.loop-clock.invariant.passing (omega (arith, c.if-left-before.true, c.loop-left-test.true)) c.loop-left.left c.if-left-before.true
    (subst (AreStuck (base_at c.args.station.now) c.args.window c.args.ticks c.args.ends.now c.args.taps.now.buffers.items c.loop-clock.made.items c.loop-clock.taps.buffers.items c.loop-left.left c.loop-clock.left) full c.loop-clock.invariant.stuck) text fit ordered

pub returns-clause-found : goal.returns-clause-found
returns-clause-found c = λ e text fit.
    led_all (base_at c.args.station.now) c.args.station.now.clocks.now c.requires.setting c.args.window c.args.ticks text c.loop-left.turns.items c.loop-left.made.items (chunks_of c.loop-left.taps.buffers.items) (c.loop-left.invariant.led text fit)
    (passes_done (base_at c.args.station.now) c.args.station.now.clocks.now c.requires.setting c.args.window c.args.ticks c.args.ends.now c.args.taps.now.buffers.items c.loop-left.made.items c.loop-left.left c.loop-left.taps.buffers.items
    c.loop-left.invariant.passing (omega (arith, c.loop-left-test.false)) text fit)
