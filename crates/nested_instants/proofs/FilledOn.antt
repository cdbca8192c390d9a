-- A crossfade is filled the slot of an instant, and those of a run behind it.
use Rattle.std.proofs.Common.{◌≡◌, ◌<◌, ◌≤◌, ◌+◌, ◌∙◌, ◌++◌, ◌∷◌, ℕ, suc, Bool, true, Some, List, [], append-nil, length, slice_get, arith, refl, ap, sym, subst, inl, inr}
use Rattle.std.specs.Prelude.{is_some}
use Rattle.clock_infer.specs.declared.clock_map.NodeClock.{NodeClock}
use Rattle.clock_infer.specs.declared.clock_map.NodeClock.TheVariants.{Sub}
use Rattle.frame_core.specs.Slots.{Slot, title_of}
use Rattle.frame_core.specs.Calls.{Call}
use Rattle.op_leaf.specs.Lanes.{AreTitled, IsLane}
use Rattle.stream_meaning.specs.Operators.{Work}
use Rattle.stream_meaning.specs.Instants.{Setting, Moment, IsMeaning, clock_of, crossfaded, gives, first_instants, moment_after, offer, part_at}
use Rattle.op_mix.specs.Stretches.{samples_of}
use Rattle.node_states.specs.declared.state.NodeState.{NodeState}
use Rattle.node_states.specs.declared.time.WeekTime.{WeekTime}
use Rattle.node_states.specs.States.{StateStands}
use Rattle.node_states.specs.Times.{TimeStands}
use Rattle.nested_instants.specs.declared.clock_states.ClockStates.{ClockStates}
use Rattle.nested_instants.proofs.Levels.{lanes_same}
use Rattle.clock_nodes.proofs.Places.{same_or_other}
use Rattle.nested_instants.specs.Clocks.{AreLeft, AreOwnRoots, GoesOnFor, HasRanks, IsFilling, IsOpen, Progress, fade_at, is_in, is_none, rest_at}
use Rattle.nested_instants.proofs.Kept.{goes_kept, open_kept}
use Rattle.nested_instants.specs.Stretches.{HasMadeOn}
use Rattle.nested_instants.proofs.Children.{child_root, gives_offers}
use Rattle.nested_instants.proofs.Gone.{gone_on}
use Rattle.nested_instants.proofs.Taking.{IsFilled, meaning_step, taken}

-- crossfade k takes the slot that its child has at the latest instant
pub record TakesSlot (setting : Setting) (sub : ℕ → ℕ → List Slot) (k : ℕ) (old new : ClockStates) : Type 0 where
  pub states : (i : ℕ) → (i ≡ k → ⊥) → slice_get new.states.items i ≡ slice_get old.states.items i
  pub times : (i : ℕ) → (i ≡ k → ⊥) → slice_get new.times.items i ≡ slice_get old.times.items i
  pub room : new.room ≡ old.room
  pub filled : (past : List Moment) (filled : ℕ) (work : Work) (before after : NodeState)
      → slice_get old.states.items k ≡ Some before → slice_get new.states.items k ≡ Some after → StateStands setting sub past filled k work before
      → sub k (suc filled) ≡ sub k filled ++ (part_at old.latest.parts.items (crossfaded setting.plan.nodes k)).slot ∷ [] → StateStands setting sub past (suc filled) k work after
  pub time : (n : ℕ) (before after : WeekTime) → slice_get old.times.items k ≡ Some before → slice_get new.times.items k ≡ Some after
      → TimeStands setting.start n before → TimeStands setting.start (suc n) after

-- crossfade k takes the samples of its child in the latest run
pub record TakesStretch (setting : Setting) (sub : ℕ → ℕ → List Slot) (k many : ℕ) (old new : ClockStates) : Type 0 where
  pub states : (i : ℕ) → (i ≡ k → ⊥) → slice_get new.states.items i ≡ slice_get old.states.items i
  pub times : (i : ℕ) → (i ≡ k → ⊥) → slice_get new.times.items i ≡ slice_get old.times.items i
  pub room : new.room ≡ old.room
  pub filled : (past : List Moment) (filled : ℕ) (work : Work) (slots : ℕ → Slot) (before after : NodeState)
      → slice_get old.states.items k ≡ Some before → slice_get new.states.items k ≡ Some after → StateStands setting sub past filled k work before
      → IsLane slots many (samples_of old.room.left.items (crossfaded setting.plan.nodes k) many) (samples_of old.room.right.items (crossfaded setting.plan.nodes k) many)
      → AreTitled slots many (title_of (part_at old.latest.parts.items (crossfaded setting.plan.nodes k)).slot)
      → ((m : ℕ) → m < many → sub k (suc (filled + m)) ≡ sub k (filled + m) ++ slots m ∷ []) → StateStands setting sub past (filled + many) k work after
  pub time : (n : ℕ) (before after : WeekTime) → slice_get old.times.items k ≡ Some before → slice_get new.times.items k ≡ Some after
      → TimeStands setting.start n before → TimeStands setting.start (n + many) after

pub one_filled : (setting : Setting) (sub : ℕ → ℕ → List Slot) (k n : ℕ) (made new : ClockStates) → IsMeaning setting sub
    → made.latest.parts.items ≡ (moment_after setting sub (Sub k) (first_instants setting sub (Sub k) n)).parts → TakesSlot setting sub k made new → IsFilled setting sub k n 1 made new
one_filled setting sub k n made new meaning parts takes = record {
  states = takes.states;
  times = takes.times;
  room = takes.room;
  filled = λ past work before after was is stands.
      let next : suc n ≡ n + 1 = omega arith in
      subst (λ m. StateStands setting sub past m k work after) next
      (takes.filled past n work before after was is stands
      (meaning_step setting sub k n meaning ∙ ap (λ ps. sub k n ++ (part_at ps (crossfaded setting.plan.nodes k)).slot ∷ []) (sym parts)));
  time = λ m before after was is stands.
      let next : suc m ≡ m + 1 = omega arith in
      subst (λ x. TimeStands setting.start x after) next (takes.time m before after was is stands);
}

module _ (setting : Setting) (sub : ℕ → ℕ → List Slot) (rank : NodeClock → ℕ) (ranks : HasRanks setting.clocks rank)
    (in_clocks : length setting.clocks ≡ length setting.plan.nodes) (k : ℕ) (within : k < length setting.plan.nodes) (progress : Progress)
    (more : List Call) (all : ClockStates) (r : IsFilling setting sub rank k is_none progress more all) (fades : fade_at setting k ≡ true)
    (meaning : IsMeaning setting sub) (own : List Bool) (roots : AreOwnRoots setting own) (n many : ℕ) (mid new : ClockStates)
    (h : HasMadeOn setting sub rank own (Sub k) n many r.reached.now mid)
    (gave : gives (moment_after setting sub (Sub k) (first_instants setting sub (Sub k) n)) (crossfaded setting.plan.nodes k) ≡ true)
    (takes : TakesStretch setting sub k many mid new) (idle : rest_at all k ≡ 0)
    (parts : mid.latest.parts.items ≡ (moment_after setting sub (Sub k) (first_instants setting sub (Sub k) n)).parts) where
  abbrev Ran : ℕ
  Ran = r.reached.now.ran (Sub k)

  offered : is_some (offer (moment_after setting sub (Sub k) (first_instants setting sub (Sub k) n)) (crossfaded setting.plan.nodes k)) ≡ true
  offered = gives_offers (moment_after setting sub (Sub k) (first_instants setting sub (Sub k) n)) (crossfaded setting.plan.nodes k) gave

  run_filled : IsFilled setting sub k Ran many mid new
  run_filled = record {
    states = takes.states;
    times = takes.times;
    room = takes.room;
    filled = λ past work before after was is stands.
        takes.filled past Ran work (λ j. offer (moment_after setting sub (Sub k) (first_instants setting sub (Sub k) (Ran + j))) (crossfaded setting.plan.nodes k)) before after was is stands
        ((h.slots (crossfaded setting.plan.nodes k) (child_root setting sub k (first_instants setting sub (Sub k) n) own roots offered)).given offered)
        (λ j low. (h.slots (crossfaded setting.plan.nodes k) (child_root setting sub k (first_instants setting sub (Sub k) n) own roots offered)).titled offered j low
        ∙ sym (ap (λ ps. title_of (part_at ps (crossfaded setting.plan.nodes k)).slot) parts))
        (λ m low. meaning_step setting sub k (Ran + m) meaning);
    time = takes.time;
  }

  pub filled_on : AreLeft setting.clocks rank (rank (Sub k)) (is_in setting.clocks (Sub k)) all mid → length mid.states.items ≡ length setting.plan.nodes
      → length mid.times.items ≡ length setting.plan.nodes → IsFilling setting sub rank k is_none progress more new
  filled_on left in_states in_times =
      subst (λ (cs : List Call). IsFilling setting sub rank k is_none progress cs new) (append-nil more)
      (taken setting sub rank ranks in_clocks k within progress more all r fades many mid new []
      (gone_on setting sub rank (Sub k) r.reached.now mid own n many h) left in_states in_times run_filled idle)

-- instants of the sub-clock are kept: the crossfade was filled no more
pub filled_kept : (setting : Setting) (sub : ℕ → ℕ → List Slot) (rank : NodeClock → ℕ) (ranks : HasRanks setting.clocks rank) (in_clocks : length setting.clocks ≡ length setting.plan.nodes)
    (k : ℕ) (within : k < length setting.plan.nodes) (progress : Progress) (more : List Call) (old new : ClockStates) (rest : ℕ)
    → new.states ≡ old.states → new.times ≡ old.times → new.room.held ≡ old.room.held → rest_at new k ≡ rest → ((i : ℕ) → (i ≡ k → ⊥) → rest_at new i ≡ rest_at old i)
    → new.room.left ≡ old.room.left → new.room.right ≡ old.room.right
    → (r : IsFilling setting sub rank k is_none progress more old)
    → (0 < rest → IsOpen setting sub k rest r.reached.now old)
    → IsFilling setting sub rank k is_none progress more new
filled_kept setting sub rank ranks in_clocks k within progress more old new rest states times held is others left right r opens = record {
  reached = record {
    now = r.reached.now;
    took = r.reached.took;
    stand = record {
      stand = λ i node state found stored above. r.reached.stand.stand i node state found (sym (ap (λ xs. slice_get xs.items i) states) ∙ stored) above;
      taken = r.reached.stand.taken;
      even = r.reached.stand.even;
      time = λ i time above at. r.reached.stand.time i time above (sym (ap (λ xs. slice_get xs.items i) times) ∙ at);
      needed = r.reached.stand.needed;
      kept = kept_all;
      laned = λ i low above. lanes_same old new left right i (r.reached.stand.laned i low above);
    };
    others = r.reached.others;
    held = r.reached.held;
    idle = r.reached.idle;
    items = r.reached.items;
  };
  low = r.low;
  calls = r.calls;
}
  where
    alike : (i : ℕ) → (r.reached.now.filled i ≡ r.reached.now.filled i) × (slice_get new.states.items i ≡ slice_get old.states.items i) × (part_at new.room.held.items i ≡ part_at old.room.held.items i)
    alike i = (refl, ap (λ xs. slice_get xs.items i) states, ap (λ ps. part_at ps.items i) held)

    here : 0 < rest_at new k → IsOpen setting sub k (rest_at new k) r.reached.now new
    here some =
        let o = opens (subst (λ m. 0 < m) is some) in
        record {
          n = o.n;
          at = o.at;
          gave = o.gave;
          goes = subst (λ m. GoesOnFor setting sub (Sub k) (first_instants setting sub (Sub k) o.n) m r.reached.now.filled new.room.held.items new.states.items) (sym is)
              (goes_kept setting sub (Sub k) (first_instants setting sub (Sub k) o.n) rest r.reached.now.filled r.reached.now.filled old.room.held.items new.room.held.items old.states.items new.states.items
              (λ i inside. alike i) o.goes);
        }

    kept_all : (i : ℕ) → i < length setting.plan.nodes → rank (clock_of setting k) ≤ rank (clock_of setting i) → 0 < rest_at new i → IsOpen setting sub i (rest_at new i) r.reached.now new
    kept_all i low above some = elim (same_or_other i k) [
      | inl same ↦ subst (λ j. IsOpen setting sub j (rest_at new j) r.reached.now new) (sym same) (here (subst (λ j. 0 < rest_at new j) same some))
      | inr other ↦ open_kept setting sub i r.reached.now r.reached.now old new refl (others i other) (λ j inside. alike j) (r.reached.stand.kept i low above) some
    ]
