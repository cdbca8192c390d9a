-- A clock has made some instants more, one or many.
use Rattle.std.proofs.Common.{◌≡◌, ◌≤◌, ◌+◌, ◌-◌, ◌∙◌, ◌++◌, ℕ, zero, suc, List, [], append_assoc, append-nil, arith, ap, sym}
use Rattle.std.specs.Prelude.{Bool}
use Rattle.clock_infer.specs.declared.clock_map.NodeClock.{NodeClock}
use Rattle.frame_core.specs.Slots.{Slot}
use Rattle.frame_core.specs.Calls.{Call}
use Rattle.stream_meaning.specs.Instants.{Setting, clock_of, first_instants}
use Rattle.stream_meaning.specs.Calls.{after_calls, calls_of, joined_between, joined_upto}
use Rattle.stream_meaning.proofs.Answering.{after_calls-none, between_more, between_none, joined_skip}
use Rattle.nested_instants.specs.declared.clock_states.ClockStates.{ClockStates}
use Rattle.nested_instants.specs.Clocks.{HasMadeInstant, Progress, RanAsNeeded, Stand}
use Rattle.nested_instants.specs.Stretches.{HasMadeOn}

-- the calls of a clock's instants
abbrev pub calls_at : Setting → (sub : ℕ → ℕ → List Slot) → NodeClock → (m : ℕ) → List Call
calls_at setting sub clock m = calls_of setting sub clock (first_instants setting sub clock m)

-- a clock has made so many instants more, by their calls, and no other clock of its rank or a lower one has
pub record HasGone (setting : Setting) (sub : ℕ → ℕ → List Slot) (rank : NodeClock → ℕ) (clock : NodeClock) (many : ℕ) (progress : Progress) (more : List Call) (all : ClockStates) : Type 0 where
  pub now : Progress
  pub took : now.front ≡ after_calls progress.front more
  pub stand : Stand setting sub rank (rank clock) now all
  pub once : now.ran clock ≡ progress.ran clock + many
  pub others : (other : NodeClock) → (other ≡ clock → ⊥) → rank other ≤ rank clock → now.ran other ≡ progress.ran other
  pub held : (i : ℕ) → (clock_of setting i ≡ clock → ⊥) → rank (clock_of setting i) ≤ rank clock → now.filled i ≡ progress.filled i
  pub needed : RanAsNeeded setting sub rank (rank clock) now
  pub calls : more ≡ joined_between (calls_at setting sub clock) (progress.ran clock) (progress.ran clock + many)

pub between_then : (calls : ℕ → List Call) (from at many : ℕ) → from ≤ at → joined_between calls from at ++ joined_between calls at (at + many) ≡ joined_between calls from (at + many)
between_then calls from at zero low =
    let e : at + 0 ≡ at = omega arith in
    ap (λ (n : ℕ). joined_between calls from at ++ joined_between calls at n) e
    ∙ ap (λ (cs : List Call). joined_between calls from at ++ cs) (between_none calls at)
    ∙ append-nil (joined_between calls from at) ∙ ap (joined_between calls from) (sym e)
between_then calls from at (suc m) low =
    let e : at + suc m ≡ suc (at + m) = omega arith in
    ap (λ (n : ℕ). joined_between calls from at ++ joined_between calls at n) e
    ∙ ap (λ (cs : List Call). joined_between calls from at ++ cs) (between_more calls at (at + m) (omega arith))
    ∙ sym (append_assoc (joined_between calls from at) (joined_between calls at (at + m)) (calls (at + m)))
    ∙ ap (λ (cs : List Call). cs ++ calls (at + m)) (between_then calls from at m low)
    ∙ sym (between_more calls from (at + m) (omega (arith, low)))
    ∙ ap (joined_between calls from) (sym e)

module _ (setting : Setting) (sub : ℕ → ℕ → List Slot) (rank : NodeClock → ℕ) (clock : NodeClock) (progress : Progress)
    (all : ClockStates) where
  abbrev Calls : ℕ → List Call
  Calls = calls_at setting sub clock

  pub gone_once : (more : List Call) → HasMadeInstant setting sub rank clock progress more all → HasGone setting sub rank clock 1 progress more all
  gone_once more m = record {
    now = m.now;
    took = m.took;
    stand = m.stand;
    once = (let once = m.once in omega (arith, once));
    others = m.others;
    held = m.held;
    needed = m.needed;
    calls =
        let e : progress.ran clock + 1 ≡ suc (progress.ran clock) = omega arith in
        m.calls ∙ sym (ap (λ (cs : List Call). cs ++ Calls (progress.ran clock)) (between_none Calls (progress.ran clock)))
        ∙ sym (between_more Calls (progress.ran clock) (progress.ran clock) (omega arith)) ∙ ap (joined_between Calls (progress.ran clock)) (sym e);
  }

  pub gone_on : (own : List Bool) (n many : ℕ) → HasMadeOn setting sub rank own clock n many progress all → HasGone setting sub rank clock many progress [] all
  gone_on own n many h = record {
    now = h.now;
    took = h.took ∙ sym (after_calls-none progress.front);
    stand = h.stand;
    once = h.once;
    others = h.others;
    held = h.held;
    needed = h.needed;
    calls =
        let e : progress.ran clock + many - progress.ran clock ≡ many = omega arith in
        sym (ap (λ (n : ℕ). joined_upto (λ j. Calls (progress.ran clock + j)) n) e
        ∙ joined_skip (λ j. Calls (progress.ran clock + j)) 0 many (omega arith) (λ j up low. h.quiet j low));
  }
