-- A crossfade is filled one slot more, and then no more.
use Rattle.std.proofs.Common.{◌≡◌, ◌<◌, ◌≤◌, ◌+◌, ◌/◌, ◌%◌, ◌∙◌, ◌++◌, ℕ, suc, true, false, Some, List, [], ◌∷◌, length, slice_get, arith, refl, ap, sym, subst, inl, inr}
use Rattle.std.specs.Prelude.{slice_index_or}
use Rattle.std.proofs.lemmas.Bool.{true≢false}
use Rattle.std.proofs.lemmas.Option.{slice_get_within}
use Rattle.plan_core.specs.declared.node.Node.{Node}
use Rattle.clock_infer.specs.declared.clock_map.NodeClock.{NodeClock}
use Rattle.clock_infer.specs.declared.clock_map.NodeClock.TheVariants.{Sub}
use Rattle.frame_core.specs.Slots.{Slot}
use Rattle.frame_core.specs.Calls.{Call, Answer}
use Rattle.op_cross.specs.Runs.{run_of}
use Rattle.stream_meaning.specs.Operators.{Work, Fades, Reads}
use Rattle.stream_meaning.specs.Instants.{Setting, Moment, IsMeaning, clock_of, crossfaded, first_instants, moment_after, part_at, position, second_at, work_at}
use Rattle.stream_meaning.specs.Calls.{IsBegin, after_calls, calls_of, joined_between}
use Rattle.stream_meaning.proofs.Answering.{after_calls-none, after_calls-then, begin_between, between_none}
use Rattle.node_states.specs.declared.state.NodeState.{NodeState}
use Rattle.node_states.specs.declared.time.WeekTime.{WeekTime}
use Rattle.node_states.specs.States.{FadesOn, IsSettled, StateStands, reading_by, reads_at}
use Rattle.node_states.specs.Ticks.{past_of}
use Rattle.node_states.specs.Times.{TimeStands}
use Rattle.clock_nodes.proofs.Places.{same_or_other}
use Rattle.nested_instants.specs.declared.clock_states.ClockStates.{ClockStates}
use Rattle.clock_instants.specs.Stretches.{HasLanes}
use Rattle.nested_instants.specs.Clocks.{AreLeft, HasItem, HasRanks, IsFilling, IsFillingStopped, IsOpen, IsReached, Progress, RanAsNeeded, Stand, calls_below, fade_at, is_in, is_node, is_none, rest_at}
use Rattle.nested_instants.proofs.Equal.{filled_more, filled_more-other, filled_more-same, item_at, other_subs, same_or_above}
use Rattle.nested_instants.proofs.Fading.{fade_within, fades_on, reads_fade, reads_work}
use Rattle.nested_instants.proofs.Gone.{HasGone, between_then}
use Rattle.nested_instants.proofs.Kept.{open_kept}
use Rattle.nested_instants.proofs.Opened.{past_long}

-- what holds of some clocks holds of the deeper ones
pub needed_below : (setting : Setting) (sub : ℕ → ℕ → List Slot) (rank : NodeClock → ℕ) (low high : ℕ) (progress : Progress) → low ≤ high
    → RanAsNeeded setting sub rank low progress → RanAsNeeded setting sub rank high progress
needed_below setting sub rank low high progress up needed = record {
  each = λ k overlap node found op above. needed.each k overlap node found op (omega (arith, up, above));
  begun = λ i reading above. needed.begun i reading (omega (arith, up, above));
}

pub stand_below : (setting : Setting) (sub : ℕ → ℕ → List Slot) (rank : NodeClock → ℕ) (low high : ℕ) (progress : Progress) (all : ClockStates) → low ≤ high
    → Stand setting sub rank low progress all → Stand setting sub rank high progress all
stand_below setting sub rank low high progress all up stand = record {
  stand = λ i node state found stored above. stand.stand i node state found stored (omega (arith, up, above));
  taken = stand.taken;
  even = λ k fades above. stand.even k fades (omega (arith, up, above));
  time = λ k time above at. stand.time k time (omega (arith, up, above)) at;
  needed = needed_below setting sub rank (suc low) (suc high) progress (omega (arith, up)) stand.needed;
  kept = λ k within above. stand.kept k within (omega (arith, up, above));
  laned = λ i within above. stand.laned i within (omega (arith, up, above));
}

-- the slots of a crossfade's child, one instant later
pub meaning_step : (setting : Setting) (sub : ℕ → ℕ → List Slot) (k m : ℕ) → IsMeaning setting sub →
    sub k (suc m) ≡ sub k m ++ (part_at (moment_after setting sub (Sub k) (first_instants setting sub (Sub k) m)).parts (crossfaded setting.plan.nodes k)).slot ∷ []
meaning_step setting sub k m meaning =
    meaning k (suc m)
    ∙ ap (λ slots. slots ++ (part_at (moment_after setting sub (Sub k) (first_instants setting sub (Sub k) m)).parts (crossfaded setting.plan.nodes k)).slot ∷ []) (sym (meaning k m))

-- the second of a sub-clock's next instant
pub second_of : (setting : Setting) (n : ℕ) (time : WeekTime) → time.rate ≡ setting.plan.rate → TimeStands setting.start n time → time.second.second ≡ second_at setting n
second_of setting n time rate stand = stand.second ∙ ap (λ r. (setting.start + n / r) % 604800) rate

-- crossfade k was filled so many slots more
abbrev more_filled : Progress → (k many : ℕ) → Progress
more_filled progress k many = record { ran = progress.ran; filled = filled_more progress.filled k many; front = progress.front }

-- what filling crossfade k leaves, which was filled n slots, and takes so many more
pub record IsFilled (setting : Setting) (sub : ℕ → ℕ → List Slot) (k n many : ℕ) (old new : ClockStates) : Type 0 where
  pub states : (i : ℕ) → (i ≡ k → ⊥) → slice_get new.states.items i ≡ slice_get old.states.items i
  pub times : (i : ℕ) → (i ≡ k → ⊥) → slice_get new.times.items i ≡ slice_get old.times.items i
  pub room : new.room ≡ old.room
  pub filled : (past : List Moment) (work : Work) (before after : NodeState)
      → slice_get old.states.items k ≡ Some before → slice_get new.states.items k ≡ Some after → StateStands setting sub past n k work before
      → StateStands setting sub past (n + many) k work after
  pub time : (m : ℕ) (before after : WeekTime) → slice_get old.times.items k ≡ Some before → slice_get new.times.items k ≡ Some after
      → TimeStands setting.start m before → TimeStands setting.start (m + many) after

module _ (setting : Setting) (sub : ℕ → ℕ → List Slot) (rank : NodeClock → ℕ) (ranks : HasRanks setting.clocks rank)
    (in_clocks : length setting.clocks ≡ length setting.plan.nodes) where
  deeper : (k : ℕ) → k < length setting.plan.nodes → rank (Sub k) ≡ suc (rank (clock_of setting k))
  deeper k within = ranks.deeper k (omega (arith, within, in_clocks))

  module _ (k : ℕ) (within : k < length setting.plan.nodes) (progress : Progress) (before : List Call) (all : ClockStates)
      (r : IsFilling setting sub rank k is_none progress before all) where
    -- a clock of the crossfade's rank or a lower one is not its sub-clock
    apart : (clock : NodeClock) → rank clock ≤ rank (clock_of setting k) → clock ≡ Sub k → ⊥
    apart clock low e = let up = deeper k within in let same : rank clock ≡ rank (Sub k) = ap rank e in omega (arith, up, same, low)

    under : (clock : NodeClock) → rank clock ≤ rank (clock_of setting k) → rank clock ≤ rank (Sub k)
    under clock low = let up = deeper k within in omega (arith, up, low)

    -- what an instant of the sub-clock asks for
    pub stand_under : Stand setting sub rank (rank (Sub k)) r.reached.now all
    stand_under = let up = deeper k within in stand_below setting sub rank (rank (clock_of setting k)) (rank (Sub k)) r.reached.now all (omega (arith, up)) r.reached.stand

    pub needed_under : RanAsNeeded setting sub rank (rank (Sub k)) r.reached.now
    needed_under = subst (λ level. RanAsNeeded setting sub rank level r.reached.now) (sym (deeper k within)) r.reached.stand.needed

    pub time_under : (time : WeekTime) → slice_get all.times.items k ≡ Some time → TimeStands setting.start (r.reached.now.ran (Sub k)) time
    time_under time at = r.reached.stand.time k time (omega arith) at

    module _ (fades : fade_at setting k ≡ true) where
      even_here : r.reached.now.filled k ≡ r.reached.now.ran (Sub k)
      even_here = r.reached.stand.even k fades (omega arith)

      -- what was called before memory was refused
      pub filled_stopped : (one : List Call) (overlap : ℕ) (node : Node) → slice_get setting.plan.nodes k ≡ Some node → work_at setting k node ≡ Fades overlap
          → r.reached.now.filled k < run_of overlap (sub k) (position (past_of setting sub r.reached.now.ran k) k)
          → IsBegin one (calls_of setting sub (Sub k) (first_instants setting sub (Sub k) (r.reached.now.ran (Sub k))))
          → IsFillingStopped setting sub progress k (before ++ one)
      filled_stopped one overlap node found work more begins = record {
        overlap = overlap;
        node = node;
        there = found;
        fades = work;
        begins = subst (λ (cs : List Call). IsBegin (cs ++ one) (joined_between (calls_below setting sub k) (progress.filled k) (run_of overlap (sub k) (position (past_of setting sub progress.ran k) k)))) (sym r.calls)
            (begin_between (calls_below setting sub k) (progress.filled k) (r.reached.now.filled k) (run_of overlap (sub k) (position (past_of setting sub progress.ran k) k)) one r.low
            (subst (λ past. r.reached.now.filled k < run_of overlap (sub k) (position past k)) (ap (λ n. first_instants setting sub (clock_of setting k) n) (r.reached.others (clock_of setting k) (omega arith))) more)
            (subst (λ n. IsBegin one (calls_of setting sub (Sub k) (first_instants setting sub (Sub k) n))) (sym even_here) begins));
      }

      module _ (many : ℕ) (made new : ClockStates) (one : List Call)
          (m : HasGone setting sub rank (Sub k) many r.reached.now one made)
          (left : AreLeft setting.clocks rank (rank (Sub k)) (is_in setting.clocks (Sub k)) all made)
          (in_states : length made.states.items ≡ length setting.plan.nodes) (in_times : length made.times.items ≡ length setting.plan.nodes)
          (fills : IsFilled setting sub k (r.reached.now.ran (Sub k)) many made new) (idle : rest_at all k ≡ 0) where
        same_filled : m.now.filled k ≡ r.reached.now.filled k
        same_filled = m.held k (apart (clock_of setting k) (omega arith)) (under (clock_of setting k) (omega arith))

        filled_is : m.now.filled k ≡ r.reached.now.ran (Sub k)
        filled_is = same_filled ∙ even_here

        -- the clocks of the crossfade's rank made no instant
        kept_low : (i : ℕ) (node : Node) (state : NodeState) → slice_get setting.plan.nodes i ≡ Some node → slice_get made.states.items i ≡ Some state
            → rank (clock_of setting k) ≡ rank (clock_of setting i)
            → StateStands setting sub (past_of setting sub m.now.ran i) (m.now.filled i) i (work_at setting i node) state
        kept_low i node state found stored level =
            let low : rank (clock_of setting i) ≤ rank (clock_of setting k) = omega (arith, level) in
            let apart_here = apart (clock_of setting i) low in
            let under_here = under (clock_of setting i) low in
            subst (λ past. StateStands setting sub past (m.now.filled i) i (work_at setting i node) state)
            (ap (λ n. first_instants setting sub (clock_of setting i) n) (sym (m.others (clock_of setting i) apart_here under_here)))
            (subst (λ f. StateStands setting sub (past_of setting sub r.reached.now.ran i) f i (work_at setting i node) state) (sym (m.held i apart_here under_here))
            (r.reached.stand.stand i node state found (sym (left.states i apart_here under_here) ∙ stored) (omega (arith, level))))

        stand_made : (i : ℕ) (node : Node) (state : NodeState) → slice_get setting.plan.nodes i ≡ Some node → slice_get made.states.items i ≡ Some state
            → rank (clock_of setting k) ≤ rank (clock_of setting i)
            → StateStands setting sub (past_of setting sub m.now.ran i) (m.now.filled i) i (work_at setting i node) state
        stand_made i node state found stored above = elim (same_or_above (rank (clock_of setting k)) (rank (clock_of setting i)) above) [
          | inl higher ↦ (let up = deeper k within in m.stand.stand i node state found stored (omega (arith, up, higher)))
          | inr level ↦ kept_low i node state found stored level
        ]

        stand_here : (node : Node) (state : NodeState) → slice_get setting.plan.nodes k ≡ Some node → slice_get new.states.items k ≡ Some state
            → StateStands setting sub (past_of setting sub m.now.ran k) (filled_more m.now.filled k many k) k (work_at setting k node) state
        stand_here node state found stored =
            let was = item_at made.states.items k (omega (arith, in_states, within)) in
            subst (λ f. StateStands setting sub (past_of setting sub m.now.ran k) f k (work_at setting k node) state)
            (sym (filled_more-same m.now.filled k many ∙ ap (λ n. n + many) filled_is))
            (fills.filled (past_of setting sub m.now.ran k) (work_at setting k node) was.0 state was.1 stored
            (subst (λ f. StateStands setting sub (past_of setting sub m.now.ran k) f k (work_at setting k node) was.0) filled_is
            (kept_low k node was.0 found was.1 refl)))

        stand_all : (i : ℕ) (node : Node) (state : NodeState) → slice_get setting.plan.nodes i ≡ Some node → slice_get new.states.items i ≡ Some state
            → rank (clock_of setting k) ≤ rank (clock_of setting i)
            → StateStands setting sub (past_of setting sub m.now.ran i) (filled_more m.now.filled k many i) i (work_at setting i node) state
        stand_all i node state found stored above = elim (same_or_other i k) [
          | inl same ↦ subst (λ j. slice_get setting.plan.nodes j ≡ Some node → slice_get new.states.items j ≡ Some state
              → StateStands setting sub (past_of setting sub m.now.ran j) (filled_more m.now.filled k many j) j (work_at setting j node) state) (sym same) (stand_here node state) found stored
          | inr other ↦ subst (λ f. StateStands setting sub (past_of setting sub m.now.ran i) f i (work_at setting i node) state) (sym (filled_more-other m.now.filled k many i other))
              (stand_made i node state found (sym (fills.states i other) ∙ stored) above)
        ]

        -- a node that is no crossfade is not this one
        not_fading : (i : ℕ) → fade_at setting i ≡ false → i ≡ k → ⊥
        not_fading i none same = true≢false (sym fades ∙ ap (fade_at setting) (sym same) ∙ none)

        still : (i : ℕ) → fade_at setting i ≡ false → filled_more m.now.filled k many i ≡ m.now.filled i
        still i none = filled_more-other m.now.filled k many i (not_fading i none)

        taken_all : (i buffer : ℕ) (node : Node) → slice_get setting.plan.nodes i ≡ Some node → work_at setting i node ≡ Reads buffer
            → (reading_by setting i buffer (past_of setting sub m.now.ran i) (filled_more m.now.filled k many i)).taken ≡ length (m.now.front buffer)
        taken_all i buffer node found work =
            ap (λ n. (reading_by setting i buffer (past_of setting sub m.now.ran i) n).taken) (still i (reads_fade setting i (reads_work setting i buffer node found work)))
            ∙ m.stand.taken i buffer node found work

        -- the sub-clock of another crossfade of the rank made no instant
        ran_same : (i : ℕ) → i < length setting.plan.nodes → (i ≡ k → ⊥) → rank (clock_of setting k) ≡ rank (clock_of setting i) → m.now.ran (Sub i) ≡ r.reached.now.ran (Sub i)
        ran_same i inside other level =
            let up = deeper k within in let down = deeper i inside in
            m.others (Sub i) (other_subs i k other) (omega (arith, up, down, level))

        even_other : (i : ℕ) → fade_at setting i ≡ true → rank (clock_of setting k) ≤ rank (clock_of setting i) → (i ≡ k → ⊥) → m.now.filled i ≡ m.now.ran (Sub i)
        even_other i fading above other = elim (same_or_above (rank (clock_of setting k)) (rank (clock_of setting i)) above) [
          | inl higher ↦ (let up = deeper k within in m.stand.even i fading (omega (arith, up, higher)))
          | inr level ↦ m.held i (apart (clock_of setting i) (omega (arith, level))) (under (clock_of setting i) (omega (arith, level)))
              ∙ r.reached.stand.even i fading above ∙ sym (ran_same i (fade_within setting i fading) other level)
        ]

        even_all : (i : ℕ) → fade_at setting i ≡ true → rank (clock_of setting k) ≤ rank (clock_of setting i) → filled_more m.now.filled k many i ≡ m.now.ran (Sub i)
        even_all i fading above = elim (same_or_other i k) [
          | inl same ↦ subst (λ j. filled_more m.now.filled k many j ≡ m.now.ran (Sub j)) (sym same) (filled_more-same m.now.filled k many ∙ ap (λ n. n + many) filled_is ∙ sym m.once)
          | inr other ↦ filled_more-other m.now.filled k many i other ∙ even_other i fading above other
        ]

        time_here : (time : WeekTime) → slice_get new.times.items k ≡ Some time → TimeStands setting.start (m.now.ran (Sub k)) time
        time_here time stored =
            let old = item_at made.times.items k (omega (arith, in_times, within)) in
            let was : slice_get all.times.items k ≡ Some old.0 = sym (left.times k (apart (clock_of setting k) (omega arith)) (under (clock_of setting k) (omega arith))) ∙ old.1 in
            subst (λ n. TimeStands setting.start n time) (sym m.once)
            (fills.time (r.reached.now.ran (Sub k)) old.0 time old.1 stored (r.reached.stand.time k old.0 (omega arith) was))

        time_other : (i : ℕ) (time : WeekTime) → rank (clock_of setting k) ≤ rank (clock_of setting i) → (i ≡ k → ⊥) → slice_get made.times.items i ≡ Some time
            → TimeStands setting.start (m.now.ran (Sub i)) time
        time_other i time above other at = elim (same_or_above (rank (clock_of setting k)) (rank (clock_of setting i)) above) [
          | inl higher ↦ (let up = deeper k within in m.stand.time i time (omega (arith, up, higher)) at)
          | inr level ↦ (let inside : i < length setting.plan.nodes = (let low = slice_get_within made.times.items i time at in omega (arith, low, in_times)) in
              let was : slice_get all.times.items i ≡ Some time = sym (left.times i (apart (clock_of setting i) (omega (arith, level))) (under (clock_of setting i) (omega (arith, level)))) ∙ at in
              subst (λ n. TimeStands setting.start n time) (sym (ran_same i inside other level)) (r.reached.stand.time i time above was))
        ]

        time_all : (i : ℕ) (time : WeekTime) → rank (clock_of setting k) ≤ rank (clock_of setting i) → slice_get new.times.items i ≡ Some time
            → TimeStands setting.start (m.now.ran (Sub i)) time
        time_all i time above stored = elim (same_or_other i k) [
          | inl same ↦ subst (λ j. slice_get new.times.items j ≡ Some time → TimeStands setting.start (m.now.ran (Sub j)) time) (sym same) (time_here time) stored
          | inr other ↦ time_other i time above other (sym (fills.times i other) ∙ stored)
        ]

        needed_all : RanAsNeeded setting sub rank (suc (rank (clock_of setting k))) (more_filled m.now k many)
        needed_all = record {
          each = λ i overlap node found op above. m.needed.each i overlap node found op (let up = deeper k within in omega (arith, up, above));
          begun = λ i reading above. still i (reads_fade setting i reading) ∙ m.needed.begun i reading (let up = deeper k within in omega (arith, up, above));
        }

        rest_is : (i : ℕ) → rest_at new i ≡ rest_at made i
        rest_is i = ap (λ it. slice_index_or it.rests.items i 0) fills.room

        held_is : (i : ℕ) → part_at new.room.held.items i ≡ part_at made.room.held.items i
        held_is i = ap (λ it. part_at it.held.items i) fills.room

        -- a node of a sub-clock of another crossfade of the rank, or a deeper one, is not this one
        not_below : (i j : ℕ) → i < length setting.plan.nodes → rank (clock_of setting k) ≤ rank (clock_of setting i) → clock_of setting j ≡ Sub i → j ≡ k → ⊥
        not_below i j inside above here same =
            let up = deeper i inside in
            let one : rank (clock_of setting j) ≡ rank (Sub i) = ap rank here in
            let two : rank (clock_of setting j) ≡ rank (clock_of setting k) = ap (λ n. rank (clock_of setting n)) same in
            omega (arith, up, above, one, two)

        open_deep : (i : ℕ) → i < length setting.plan.nodes → rank (clock_of setting k) < rank (clock_of setting i) → 0 < rest_at new i → IsOpen setting sub i (rest_at new i) (more_filled m.now k many) new
        open_deep i inside higher some =
            open_kept setting sub i m.now (more_filled m.now k many) made new refl (rest_is i)
            (λ j here.
            let other = not_below i j inside (omega (arith, higher)) here in
            (filled_more-other m.now.filled k many j other, fills.states j other, held_is j))
            (m.stand.kept i inside (let up = deeper k within in omega (arith, up, higher))) some

        open_beside : (i : ℕ) → i < length setting.plan.nodes → (i ≡ k → ⊥) → rank (clock_of setting k) ≡ rank (clock_of setting i) → 0 < rest_at new i → IsOpen setting sub i (rest_at new i) (more_filled m.now k many) new
        open_beside i inside other level some =
            open_kept setting sub i r.reached.now (more_filled m.now k many) all new (ran_same i inside other level)
            (rest_is i ∙ left.rests i (apart (clock_of setting i) (omega (arith, level))) (under (clock_of setting i) (omega (arith, level))))
            (λ j here.
            let not_k = not_below i j inside (omega (arith, level)) here in
            let not_sub : clock_of setting j ≡ Sub k → ⊥ = λ e. other_subs i k other (sym here ∙ e) in
            let low : rank (clock_of setting j) ≤ rank (Sub k) = (let a = deeper i inside in let b = deeper k within in let c : rank (clock_of setting j) ≡ rank (Sub i) = ap rank here in omega (arith, a, b, c, level)) in (
              filled_more-other m.now.filled k many j not_k ∙ m.held j not_sub low,
              fills.states j not_k ∙ left.states j not_sub low,
              held_is j ∙ left.held j not_sub low,
            ))
            (r.reached.stand.kept i inside (omega (arith, level))) some

        open_all : (i : ℕ) → i < length setting.plan.nodes → rank (clock_of setting k) ≤ rank (clock_of setting i) → 0 < rest_at new i → IsOpen setting sub i (rest_at new i) (more_filled m.now k many) new
        open_all i inside above some = elim (same_or_other i k) [
          | inl same ↦ (let none : rest_at new i ≡ 0 =
              ap (rest_at new) same ∙ rest_is k ∙ left.rests k (apart (clock_of setting k) (omega arith)) (under (clock_of setting k) (omega arith)) ∙ idle in absurd (omega (arith, none, some)))
          | inr other ↦ elim (same_or_above (rank (clock_of setting k)) (rank (clock_of setting i)) above) [
            | inl higher ↦ open_deep i inside higher some
            | inr level ↦ open_beside i inside other level some
          ]
        ]

        -- the crossfade was filled some slots more
        pub taken : IsFilling setting sub rank k is_none progress (before ++ one) new
        taken = record {
          reached = record {
            now = more_filled m.now k many;
            took = m.took ∙ ap (λ (f : ℕ → List Answer). after_calls f one) r.reached.took ∙ sym (after_calls-then progress.front before one);
            stand = record {
              stand = stand_all;
              taken = taken_all;
              even = even_all;
              time = time_all;
              needed = needed_all;
              kept = open_all;
              laned = λ i inside above. subst (λ it. HasLanes it.left.items it.right.items i) (sym fills.room) (left.laned i (r.reached.stand.laned i inside above));
            };
            others = λ clock low. m.others clock (apart clock low) (under clock low) ∙ r.reached.others clock low;
            held = λ i other low. filled_more-other m.now.filled k many i other ∙ m.held i (apart (clock_of setting i) low) (under (clock_of setting i) low) ∙ r.reached.held i other low;
            idle = λ i none low. still i none ∙ m.held i (apart (clock_of setting i) low) (under (clock_of setting i) low) ∙ r.reached.idle i none low;
            items = λ i node done found. absurd done;
          };
          low = (let one_more = filled_more-same m.now.filled k many in let was = r.low in let same = same_filled in omega (arith, one_more, was, same));
          calls = ap (λ cs. cs ++ one) r.calls
              ∙ ap (λ cs. joined_between (calls_below setting sub k) (progress.filled k) (r.reached.now.filled k) ++ cs) (m.calls ∙ ap (λ n. joined_between (calls_below setting sub k) n (n + many)) (sym even_here))
              ∙ between_then (calls_below setting sub k) (progress.filled k) (r.reached.now.filled k) many r.low
              ∙ ap (λ n. joined_between (calls_below setting sub k) (progress.filled k) n) (ap (λ n. n + many) (sym same_filled) ∙ sym (filled_more-same m.now.filled k many));
        }

        -- and its sub-clock has made so many instants more
        pub taken_at : taken.reached.now.ran (Sub k) ≡ r.reached.now.ran (Sub k) + many
        unfolding taken
        taken_at = m.once

-- before anything is filled
abbrev pub reached_none : (setting : Setting) (sub : ℕ → ℕ → List Slot) (rank : NodeClock → ℕ) (level : ℕ) (touched done : ℕ → Type 0) (progress : Progress) (all : ClockStates)
    → ((i : ℕ) → done i → ⊥) → Stand setting sub rank level progress all → IsReached setting sub rank level touched done progress [] all
reached_none setting sub rank level touched done progress all none stand = record {
  now = progress;
  took = sym (after_calls-none progress.front);
  stand = stand;
  others = λ clock low. refl;
  held = λ i other low. refl;
  idle = λ i other low. refl;
  items = λ i node is found. absurd (none i is);
}

pub filling_none : (setting : Setting) (sub : ℕ → ℕ → List Slot) (rank : NodeClock → ℕ) (k : ℕ) (progress : Progress) (all : ClockStates)
    → Stand setting sub rank (rank (clock_of setting k)) progress all → IsFilling setting sub rank k is_none progress [] all
filling_none setting sub rank k progress all stand = record {
  reached = reached_none setting sub rank (rank (clock_of setting k)) (is_node k) is_none progress all (λ i none. none) stand;
  low = omega arith;
  calls = sym (between_none (calls_below setting sub k) (progress.filled k));
}

-- a node that wants no slot has its item
pub reached_item : (setting : Setting) (sub : ℕ → ℕ → List Slot) (rank : NodeClock → ℕ) (k : ℕ) (progress : Progress) (more : List Call) (all : ClockStates) (state : NodeState)
    → slice_get all.states.items k ≡ Some state
    → ((past : List Moment) (filled : ℕ) (work : Work) → StateStands setting sub past filled k work state
    → ((buffer : ℕ) → work ≡ Reads buffer → filled ≡ suc (length past)) → IsSettled sub past filled k work)
    → ((past : List Moment) (filled overlap : ℕ) → StateStands setting sub past filled k (Fades overlap) state → run_of overlap (sub k) (position past k) ≡ filled)
    → (reads_at setting k ≡ true → progress.filled k ≡ suc (progress.ran (clock_of setting k)))
    → IsFilling setting sub rank k is_none progress more all → IsFilling setting sub rank k (is_node k) progress more all
reached_item setting sub rank k progress more all state at settles runs begun f = record {
  reached = record {
    now = f.reached.now;
    took = f.reached.took;
    stand = f.reached.stand;
    others = f.reached.others;
    held = f.reached.held;
    idle = f.reached.idle;
    items = λ i node same found. subst (λ j. slice_get setting.plan.nodes j ≡ Some node → HasItem setting sub f.reached.now j node) (sym same) (here node) found;
  };
  low = f.low;
  calls = f.calls;
}
  where
    here : (node : Node) → slice_get setting.plan.nodes k ≡ Some node → HasItem setting sub f.reached.now k node
    here node found = record {
      settled = settles (past_of setting sub f.reached.now.ran k) (f.reached.now.filled k) (work_at setting k node) (f.reached.stand.stand k node state found at (omega arith))
          (λ buffer work.
          let reading = reads_work setting k buffer node found work in
          f.reached.idle k (reads_fade setting k reading) (omega arith) ∙ begun reading
          ∙ ap suc (sym (past_long setting sub (clock_of setting k) (f.reached.now.ran (clock_of setting k)) ∙ f.reached.others (clock_of setting k) (omega arith))));
      run = λ overlap work. runs (past_of setting sub f.reached.now.ran k) (f.reached.now.filled k) overlap
          (subst (λ w. StateStands setting sub (past_of setting sub f.reached.now.ran k) (f.reached.now.filled k) k w state) work (f.reached.stand.stand k node state found at (omega arith)));
    }

-- a node that wants one is a crossfade
pub reached_fading : (setting : Setting) (sub : ℕ → ℕ → List Slot) (rank : NodeClock → ℕ) (k : ℕ) (progress : Progress) (more : List Call) (all : ClockStates) (state : NodeState)
    → (within : k < length setting.plan.nodes) → slice_get all.states.items k ≡ Some state
    → ((past : List Moment) (filled : ℕ) (work : Work) → StateStands setting sub past filled k work state → FadesOn sub past filled k work)
    → (f : IsFilling setting sub rank k is_none progress more all)
    → (node : Node) × (overlap : ℕ) × (slice_get setting.plan.nodes k ≡ Some node) × (work_at setting k node ≡ Fades overlap)
    × (f.reached.now.filled k < run_of overlap (sub k) (position (past_of setting sub f.reached.now.ran k) k))
reached_fading setting sub rank k progress more all state within at fades f =
    let node = item_at setting.plan.nodes k within in
    let on = fades_on sub (past_of setting sub f.reached.now.ran k) (f.reached.now.filled k) k (work_at setting k node.0)
    (fades (past_of setting sub f.reached.now.ran k) (f.reached.now.filled k) (work_at setting k node.0) (f.reached.stand.stand k node.0 state node.1 at (omega arith))) in
    (node.0, on.0, node.1, on.1, on.2)
