use Rattle.std.proofs.Common.{◌≡◌, ◌<◌, ◌≤◌, ◌-◌, ◌*◌, ◌∙◌, ℕ, List, Some, length, replicate, slice_get, refl, ap, subst, sym, arith}
use Rattle.std.specs.Prelude.{slice_set}
use Rattle.std.proofs.lemmas.Option.{slice_get_read}
use Rattle.trace_records.specs.Clocks.{Log}
use Rattle.trace_turns.specs.Turns.{base_at, AreFit}
use Rattle.trace_turns.proofs.Searching.{made_of, total, AreLive}
use Rattle.trace_turns.specs.Live.{HasFlownOn, mains}
use Rattle.trace_turns.proofs.Finding.{long_made, none_made, none_total, read_made}
use Rattle.trace_turns.proofs.Living.{begin_live, few_live, flown_now, live_done, live_on, paused_now, refused_now, unlost_now}
use Rattle.trace_turns.specs.Timed.{timed}
use Rattle.trace_turns.proofs.find.pass_on.Goals as goal

pub loop-left-init : goal.loop-left-init
loop-left-init c =
    let zeros : c.in_ok-made.made.items ≡ replicate c.args.station.now.clocks.now.running 0 = c.in_ok-made.ensures.items_if_clones_equal (λ y e. e) in
    let none : (k : ℕ) → made_of c.in_ok-made.made.items k ≡ 0 = (λ k. ap (λ (l : List ℕ). made_of l k) zeros ∙ none_made c.args.station.now.clocks.now.running k) in
    record {
      live = begin_live (base_at c.args.station.now) c.args.station.now.clocks.now c.requires.search.setting c.args.window c.args.ticks c.args.sides.now.feeders.items c.args.sides.now.readers.items c.requires.search.sides c.args.ends.now c.args.taps.now.buffers.items
          c.args.lives.now.items c.in_ok-made.made.items (c.args.station.now.clocks.now.running * c.args.ticks) c.args.turns.now.items c.requires.lives
          (ap (λ l. length l) zeros ∙ long_made c.args.station.now.clocks.now.running) none (ap total zeros ∙ none_total c.args.station.now.clocks.now.running) refl c.requires.search.none c.requires.search.kept c.requires.search.empty c.requires.search.text;
    }

pub live_turn-requires : goal.live_turn-requires
live_turn-requires c =
    let live = c.loop-clock.invariant.live in
    let size = live.lives_size in
    let there : c.loop-clock.clock < length c.loop-clock.lives.items = omega (arith, size, c.loop-clock-test.true) in
    let at : slice_get c.loop-clock.lives.items c.loop-clock.clock ≡ Some c.index_mut-live.result.now = slice_get_read _ _ _ _ refl there c.index_mut-live.ensures.value in
    let long = live.size in
    let from : made_of c.loop-clock.made.items c.loop-clock.clock ≡ c.index-from.result.now =
    read_made c.loop-clock.made.items c.loop-clock.clock c.index-from.result.now c.index-from.ensures (omega (arith, long, c.loop-clock-test.true)) in
    let few = live.within c.loop-clock.clock (omega (arith, size, c.loop-clock-test.true)) in
    let text = c.requires.search.text in
    record {
      some = c.requires.search.some;
      few = c.requires.search.few;
      within = omega (arith, from, few);
      long = c.requires.search.long ∙ sym live.many;
      marks = live.marks c.loop-clock.clock c.index_mut-live.result.now at;
      turn = (
        record { base = base_at c.args.station.now; clocks = c.args.station.now.clocks.now; text = text.0; full = (live.waiting text.0 text.1).full },
        record {
          setting = c.requires.search.setting;
          sides = c.requires.search.sides;
          fit = live.fit text.0 text.1;
          fills = (live.waiting text.0 text.1).fills;
          unlost = unlost_now (base_at c.args.station.now) c.args.station.now.clocks.now c.requires.search.setting c.args.window c.args.ticks c.args.sides.now.feeders.items c.args.sides.now.readers.items c.requires.search.sides c.args.ends.now c.args.taps.now.buffers.items
              c.loop-clock.lives.items c.loop-clock.made.items c.loop-clock.left c.loop-clock.turns.items c.loop-clock.taps.buffers.items c.loop-clock.invariant.live c.loop-clock.clock c.index_mut-live.result.now at c.index-from.result.now from text.0 text.1;
          paused = paused_now (base_at c.args.station.now) c.args.station.now.clocks.now c.requires.search.setting c.args.window c.args.ticks c.args.sides.now.feeders.items c.args.sides.now.readers.items c.requires.search.sides c.args.ends.now c.args.taps.now.buffers.items
              c.loop-clock.lives.items c.loop-clock.made.items c.loop-clock.left c.loop-clock.turns.items c.loop-clock.taps.buffers.items c.loop-clock.invariant.live c.loop-clock.clock c.index_mut-live.result.now at c.index-from.result.now from text.0 text.1;
        },
      );
    }

pub overflow_sub-left-in-Made : goal.overflow_sub-left-in-Made
overflow_sub-left-in-Made c =
    let live = c.loop-clock.invariant.live in
    let size = live.lives_size in
    let there : c.loop-clock.clock < length c.loop-clock.lives.items = omega (arith, size, c.loop-clock-test.true) in
    let at : slice_get c.loop-clock.lives.items c.loop-clock.clock ≡ Some c.index_mut-live.result.now = slice_get_read _ _ _ _ refl there c.index_mut-live.ensures.value in
    let long = live.size in
    let from : made_of c.loop-clock.made.items c.loop-clock.clock ≡ c.index-from.result.now =
    read_made c.loop-clock.made.items c.loop-clock.clock c.index-from.result.now c.index-from.ensures (omega (arith, long, c.loop-clock-test.true)) in
    let on = c.in_ok-count.ensures.on c.in-Made.count c.in-Made.is in
    let far : made_of c.loop-clock.made.items c.loop-clock.clock ≤ c.in-Made.count = omega (arith, from, on) in
    let flown : (text : ℕ → Log) → (fit : AreFit (base_at c.args.station.now) c.args.window c.args.ticks text c.args.taps.now.buffers.items c.args.ends.now)
    → HasFlownOn (base_at c.args.station.now) (timed text c.args.window c.args.ticks) (mains c.args.sides.now.feeders.items c.args.sides.now.readers.items) c.loop-clock.clock c.in-Made.count c.live_turn.new.live.engine.parts c.live_turn.new.live.marks.items
    (live.waiting text fit).full c.live_turn.new.taps.buffers.items =
    λ text fit. flown_now (base_at c.args.station.now) c.args.station.now.clocks.now c.requires.search.setting c.args.window c.args.ticks c.args.sides.now.feeders.items c.args.sides.now.readers.items c.requires.search.sides c.args.ends.now c.args.taps.now.buffers.items
    c.loop-clock.lives.items c.loop-clock.made.items c.loop-clock.left c.loop-clock.turns.items c.loop-clock.taps.buffers.items c.loop-clock.invariant.live
    c.loop-clock.clock c.index_mut-live.result.now at c.index-from.result.now from text fit c.in-Made.count c.live_turn.new.live c.live_turn.new.taps.buffers.items
    (λ full now fills unlost paused. c.in_ok-count.ensures.gone c.in-Made.count (record { base = base_at c.args.station.now; clocks = c.args.station.now.clocks.now; text = text; full = full }) c.in-Made.is
    (record { setting = c.requires.search.setting; sides = c.requires.search.sides; fit = now; fills = fills; unlost = unlost; paused = paused })) in
    let few = few_live (base_at c.args.station.now) c.args.station.now.clocks.now c.requires.search.setting c.args.window c.args.ticks c.args.sides.now.feeders.items c.args.sides.now.readers.items c.requires.search.sides c.args.ends.now c.args.taps.now.buffers.items
    c.loop-clock.lives.items c.loop-clock.made.items c.loop-clock.left c.loop-clock.turns.items c.loop-clock.taps.buffers.items c.loop-clock.invariant.live
    c.loop-clock.clock c.loop-clock-test.true c.in-Made.count far (c.in_ok-count.ensures.within c.in-Made.count c.in-Made.is) c.live_turn.new.live c.live_turn.new.taps.buffers.items c.note_turn.new.turns.items flown c.requires.search.text in
    subst (λ n. c.in-Made.count - n ≤ c.loop-clock.left) from few

pub returns-in-Refused-clause-none : goal.returns-in-Refused-clause-none
returns-in-Refused-clause-none c = λ e text fit ordered.
    let live = c.loop-clock.invariant.live in
    let size = live.lives_size in
    let there : c.loop-clock.clock < length c.loop-clock.lives.items = omega (arith, size, c.loop-clock-test.true) in
    let at : slice_get c.loop-clock.lives.items c.loop-clock.clock ≡ Some c.index_mut-live.result.now = slice_get_read _ _ _ _ refl there c.index_mut-live.ensures.value in
    let long = live.size in
    let from : made_of c.loop-clock.made.items c.loop-clock.clock ≡ c.index-from.result.now =
    read_made c.loop-clock.made.items c.loop-clock.clock c.index-from.result.now c.index-from.ensures (omega (arith, long, c.loop-clock-test.true)) in
    refused_now (base_at c.args.station.now) c.args.station.now.clocks.now c.requires.search.setting c.args.window c.args.ticks c.args.sides.now.feeders.items c.args.sides.now.readers.items c.requires.search.sides c.args.ends.now c.args.taps.now.buffers.items
    c.loop-clock.lives.items c.loop-clock.made.items c.loop-clock.left c.loop-clock.turns.items c.loop-clock.taps.buffers.items c.loop-clock.invariant.live
    c.loop-clock.clock c.index_mut-live.result.now at c.index-from.result.now from text fit c.loop-clock-test.true
    (λ full now fills unlost paused. c.in_ok-count.ensures.refused (record { base = base_at c.args.station.now; clocks = c.args.station.now.clocks.now; text = text; full = full }) c.in-Refused.is
    (record { setting = c.requires.search.setting; sides = c.requires.search.sides; fit = now; fills = fills; unlost = unlost; paused = paused })) ordered

pub returns-in-Waits-clause-fit : goal.returns-in-Waits-clause-fit
returns-in-Waits-clause-fit c = λ text fit. c.in_ok-count.ensures.fit (base_at c.args.station.now) text (c.loop-clock.invariant.live.fit text fit)

pub returns-in-Waits-clause-many : goal.returns-in-Waits-clause-many
returns-in-Waits-clause-many c = c.in_ok-count.ensures.many ∙ c.loop-clock.invariant.live.many

pub returns-in-Refused-clause-fit : goal.returns-in-Refused-clause-fit
returns-in-Refused-clause-fit c = λ text fit. c.in_ok-count.ensures.fit (base_at c.args.station.now) text (c.loop-clock.invariant.live.fit text fit)

pub returns-in-Refused-clause-many : goal.returns-in-Refused-clause-many
returns-in-Refused-clause-many c = c.in_ok-count.ensures.many ∙ c.loop-clock.invariant.live.many

pub loop-clock-preserved : goal.loop-clock-preserved
loop-clock-preserved c =
    let live = c.loop-clock.invariant.live in
    let size = live.lives_size in
    let there : c.loop-clock.clock < length c.loop-clock.lives.items = omega (arith, size, c.loop-clock-test.true) in
    let at : slice_get c.loop-clock.lives.items c.loop-clock.clock ≡ Some c.index_mut-live.result.now = slice_get_read _ _ _ _ refl there c.index_mut-live.ensures.value in
    let long = live.size in
    let from : made_of c.loop-clock.made.items c.loop-clock.clock ≡ c.index-from.result.now =
    read_made c.loop-clock.made.items c.loop-clock.clock c.index-from.result.now c.index-from.ensures (omega (arith, long, c.loop-clock-test.true)) in
    let on = c.in_ok-count.ensures.on c.in-Made.count c.in-Made.is in
    let far : made_of c.loop-clock.made.items c.loop-clock.clock ≤ c.in-Made.count = omega (arith, from, on) in
    let flown : (text : ℕ → Log) → (fit : AreFit (base_at c.args.station.now) c.args.window c.args.ticks text c.args.taps.now.buffers.items c.args.ends.now)
    → HasFlownOn (base_at c.args.station.now) (timed text c.args.window c.args.ticks) (mains c.args.sides.now.feeders.items c.args.sides.now.readers.items) c.loop-clock.clock c.in-Made.count c.live_turn.new.live.engine.parts c.live_turn.new.live.marks.items
    (live.waiting text fit).full c.live_turn.new.taps.buffers.items =
    λ text fit. flown_now (base_at c.args.station.now) c.args.station.now.clocks.now c.requires.search.setting c.args.window c.args.ticks c.args.sides.now.feeders.items c.args.sides.now.readers.items c.requires.search.sides c.args.ends.now c.args.taps.now.buffers.items
    c.loop-clock.lives.items c.loop-clock.made.items c.loop-clock.left c.loop-clock.turns.items c.loop-clock.taps.buffers.items c.loop-clock.invariant.live
    c.loop-clock.clock c.index_mut-live.result.now at c.index-from.result.now from text fit c.in-Made.count c.live_turn.new.live c.live_turn.new.taps.buffers.items
    (λ full now fills unlost paused. c.in_ok-count.ensures.gone c.in-Made.count (record { base = base_at c.args.station.now; clocks = c.args.station.now.clocks.now; text = text; full = full }) c.in-Made.is
    (record { setting = c.requires.search.setting; sides = c.requires.search.sides; fit = now; fills = fills; unlost = unlost; paused = paused })) in
    let marks : length c.live_turn.new.live.marks.items ≡ length c.loop-clock.taps.buffers.items = c.in_ok-count.ensures.marks ∙ live.marks c.loop-clock.clock c.index_mut-live.result.now at in
    let left : c.loop-clock.left - (c.in-Made.count - made_of c.loop-clock.made.items c.loop-clock.clock) ≡ c.loop-clock.left - (c.in-Made.count - c.index-from.result.now) = ap (λ n. c.loop-clock.left - (c.in-Made.count - n)) from in
    record {
      live = subst (λ n. AreLive (base_at c.args.station.now) c.args.station.now.clocks.now c.args.window c.args.ticks c.args.sides.now.feeders.items c.args.sides.now.readers.items c.args.ends.now c.args.taps.now.buffers.items
          (slice_set c.loop-clock.lives.items c.loop-clock.clock c.live_turn.new.live) (slice_set c.loop-clock.made.items c.loop-clock.clock c.in-Made.count) n c.note_turn.new.turns.items c.live_turn.new.taps.buffers.items) left
          (live_on (base_at c.args.station.now) c.args.station.now.clocks.now c.requires.search.setting c.args.window c.args.ticks c.args.sides.now.feeders.items c.args.sides.now.readers.items c.requires.search.sides c.args.ends.now c.args.taps.now.buffers.items
          c.loop-clock.lives.items c.loop-clock.made.items c.loop-clock.left c.loop-clock.turns.items c.loop-clock.taps.buffers.items c.loop-clock.invariant.live
          c.loop-clock.clock c.loop-clock-test.true c.in-Made.count far (c.in_ok-count.ensures.within c.in-Made.count c.in-Made.is) c.live_turn.new.live c.live_turn.new.taps.buffers.items c.note_turn.new.turns.items flown c.requires.search.text
          c.index_mut-live.result.now at c.in_ok-note_turn-in-Made.ensures (λ text fit. c.in_ok-count.ensures.fit (base_at c.args.station.now) text fit) c.in_ok-count.ensures.many marks (λ k others other unlost. c.in_ok-count.ensures.stays k others other unlost));
      within = (let w = c.loop-clock.invariant.within in omega (arith, w));
    }

pub returns-then-tries-eq0-clause-fit : goal.returns-then-tries-eq0-clause-fit
returns-then-tries-eq0-clause-fit c = c.loop-clock.invariant.live.fit

pub returns-then-tries-eq0-clause-many : goal.returns-then-tries-eq0-clause-many
returns-then-tries-eq0-clause-many c = c.loop-clock.invariant.live.many

pub returns-clause-fit : goal.returns-clause-fit
returns-clause-fit c = c.loop-left.invariant.live.fit

pub returns-clause-many : goal.returns-clause-many
returns-clause-many c = c.loop-left.invariant.live.many

pub returns-clause-found : goal.returns-clause-found
returns-clause-found c = λ e text fit.
    live_done (base_at c.args.station.now) c.args.station.now.clocks.now c.requires.search.setting c.args.window c.args.ticks c.args.sides.now.feeders.items c.args.sides.now.readers.items c.requires.search.sides c.args.ends.now c.args.taps.now.buffers.items
    c.loop-left.lives.items c.loop-left.made.items c.loop-left.left c.loop-left.turns.items c.loop-left.taps.buffers.items c.loop-left.invariant.live (omega (arith, c.loop-left-test.false)) text fit
