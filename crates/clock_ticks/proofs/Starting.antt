-- New states stand for no instant.
use Rattle.std.proofs.Common.{◌≡◌, ◌<◌, ◌*◌, ◌∙◌, ℕ, Bool, true, false, length, List, [], Some, get_or, slice_get, replicate, ap, arith, refl, subst, sym, inl, inr}
use Rattle.std.proofs.lemmas.Bool.{cases_lt, true≢false}
use Rattle.std.proofs.lemmas.List.{get_or-replicate, get_or_past, length-replicate}
use Rattle.std.proofs.lemmas.Option.{slice_get_within}
use Rattle.clock_infer.specs.declared.clock_map.NodeClock.{NodeClock}
use Rattle.clock_infer.specs.declared.clock_map.NodeClock.TheVariants.{Main, Sub}
use Rattle.frame_core.specs.Slots.{Slot}
use Rattle.stream_meaning.specs.Operators.{Work, Plays, Picks, Mixes, Fades, Reads}
use Rattle.stream_meaning.specs.Instants.{Setting, clock_of, sub_of, work_at}
use Rattle.node_states.specs.declared.state.NodeState.{NodeState}
use Rattle.node_states.specs.declared.state.NodeState.TheVariants.{Idle}
use Rattle.node_states.specs.States.{StateStands}
use Rattle.node_states.specs.declared.time.WeekTime.{WeekTime}
use Rattle.node_states.specs.Times.{TimeStands}
use Rattle.nested_instants.specs.Clocks.{HasRanks, laned_at, rest_at}
use Rattle.nested_instants.proofs.Equal.{item_at}
use Rattle.clock_ticks.specs.declared.clock_state.ClockState.{ClockState}
use Rattle.clock_ticks.specs.Standing.{IsMain, ClockStateStands}
use Rattle.clock_ticks.specs.Beginnings.{AreNewStates}
use Rattle.clock_ticks.proofs.Driving.{driven_by, lifted, lifted_ranks}

abbrev is_main : NodeClock → Bool
is_main (Main m) = true
is_main (Sub k) = false

-- each node whose state is not idle has lanes
abbrev pub HasLanesFor : ClockState → Type 0
HasLanesFor whole = (i : ℕ) (state : NodeState) → slice_get whole.clocks.states.items i ≡ Some state → (state ≡ Idle → ⊥) → laned_at whole.clocks i

-- a main clock is no sub-clock
pub main_is : (m : ℕ) → IsMain (Main m)
main_is m = λ k e. true≢false (ap is_main e)

-- an idle state stands for nothing
not_idle : (setting : Setting) (sub : ℕ → ℕ → List Slot) (i : ℕ) (work : Work) → StateStands setting sub [] 0 i work Idle → ⊥
not_idle setting sub i (Plays leaf) s = s
not_idle setting sub i (Picks choice eligible) s = s
not_idle setting sub i (Mixes mixing) s = s
not_idle setting sub i (Fades overlap) s = s
not_idle setting sub i (Reads buffer) s = s

none_made : (setting : Setting) (m : ℕ) (whole : ClockState) (n : ℕ) (rank : NodeClock → ℕ) → HasRanks setting.clocks rank
    → ((i : ℕ) → i < length setting.plan.nodes → rank (clock_of setting i) < length setting.plan.nodes) → AreNewStates setting.plan setting.clocks m n whole.clocks.states.items
    → TimeStands setting.start 0 whole.time → ((k : ℕ) (time : WeekTime) → slice_get whole.clocks.times.items k ≡ Some time → time ≡ whole.time) → ((k : ℕ) → rest_at whole.clocks k ≡ 0)
    → n ≡ length setting.plan.nodes → HasLanesFor whole → ClockStateStands setting (sub_of setting) (Main m) 0 (λ buffer. []) whole
none_made setting m whole n rank ranks low new time same rests all laned = record {
  rank = lifted setting.clocks rank m (length setting.plan.nodes);
  now = record { ran = λ other. 0; filled = λ k. 0; front = λ buffer. [] };
  ranks = lifted_ranks setting.clocks rank m (length setting.plan.nodes) ranks;
  made = refl;
  took = refl;
  stand = record {
    stand = λ i node state found stored above.
        let under = driven_by setting.clocks rank m (length setting.plan.nodes) i (low i (slice_get_within setting.plan.nodes i node found)) above in
        (new.each i node state found stored).stands setting (sub_of setting) under.0 under.1 refl refl;
    taken = λ i buffer node found work. refl;
    even = λ k fades above. refl;
    time = λ k one above at. subst (λ t. TimeStands setting.start 0 t) (sym (same k one at)) time;
    needed = record { each = λ k overlap node found op above. refl; begun = λ i reading above. refl };
    kept = λ k within above some. (let none = rests k in absurd (omega (arith, none, some)));
    laned = λ i within above.
        let node = item_at setting.plan.nodes i within in
        let state = item_at whole.clocks.states.items i (let size = new.size in omega (arith, within, size, all)) in
        let under = driven_by setting.clocks rank m (length setting.plan.nodes) i (low i within) above in
        laned i state.0 state.1 (λ idle.
        not_idle setting (sub_of setting) i (work_at setting i node.0)
        (subst (λ s. StateStands setting (sub_of setting) [] 0 i (work_at setting i node.0) s) idle
        ((new.each i node.0 state.0 node.1 state.1).stands setting (sub_of setting) under.0 under.1 refl refl)));
  };
  needed = record { each = λ k overlap node found op above. refl; begun = λ i reading above. refl };
  time = time;
}

pub new_stand : (setting : Setting) (m : ℕ) (whole : ClockState) (n : ℕ) (rank : NodeClock → ℕ) → HasRanks setting.clocks rank
    → ((i : ℕ) → i < length setting.plan.nodes → rank (clock_of setting i) < length setting.plan.nodes) → AreNewStates setting.plan setting.clocks m n whole.clocks.states.items
    → TimeStands setting.start 0 whole.time → ((k : ℕ) (time : WeekTime) → slice_get whole.clocks.times.items k ≡ Some time → time ≡ whole.time) → ((k : ℕ) → rest_at whole.clocks k ≡ 0)
    → n ≡ length setting.plan.nodes → HasLanesFor whole → ClockStateStands setting (sub_of setting) (Main m) (0 * setting.plan.frame) (λ buffer. []) whole
new_stand setting m whole n rank ranks low new time same rests all laned =
    let none : 0 ≡ 0 * setting.plan.frame = omega arith in
    subst (λ count. ClockStateStands setting (sub_of setting) (Main m) count (λ buffer. []) whole) none (none_made setting m whole n rank ranks low new time same rests all laned)

-- a list of like items is that item at each place
pub all_alike : {A : Type 0} (xs : List A) (n : ℕ) (a : A) → xs ≡ replicate n a → (j : ℕ) → get_or xs j a ≡ a
all_alike xs n a alike j = ap (λ ys. get_or ys j a) alike ∙ elim (cases_lt j n) [
  | inl low ↦ get_or-replicate n j a a low
  | inr high ↦ get_or_past (replicate n a) j a (let long = length-replicate n a in omega (arith, high, long))
]
