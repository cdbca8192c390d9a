-- The crossfades of a clock are settled, one after another.
use Rattle.std.proofs.Common.{◌≡◌, ◌<◌, ◌≤◌, ◌∙◌, ◌++◌, ℕ, suc, Bool, true, false, Some, None, Option, List, [], length, slice_get, arith, refl, ap, sym, subst, inl, inr}
use Rattle.std.proofs.lemmas.Bool.{cases_lt, true≢false}
use Rattle.plan_core.specs.declared.node.Node.{Node}
use Rattle.clock_infer.specs.declared.clock_map.NodeClock.{NodeClock}
use Rattle.frame_core.specs.Slots.{Slot}
use Rattle.frame_core.specs.Calls.{Call, Answer}
use Rattle.op_cross.specs.Runs.{run_of}
use Rattle.stream_meaning.specs.Operators.{Work, Plays, Picks, Mixes, Fades, Reads}
use Rattle.stream_meaning.specs.Instants.{Setting, Moment, clock_of, first_instants, lies_in, position, work_at}
use Rattle.stream_meaning.specs.Calls.{IsBegin, after_calls, fades_by, fades_in, joined_between, ran_by}
use Rattle.stream_meaning.proofs.Answering.{after_calls-then, begin_joined, between_none, joined_skip}
use Rattle.node_states.specs.States.{IsSettled, reads_at}
use Rattle.node_states.specs.Ticks.{past_of}
use Rattle.clock_nodes.specs.Nodes.{IsFirst}
use Rattle.clock_nodes.proofs.Places.{below_or_same}
use Rattle.nested_instants.specs.declared.clock_states.ClockStates.{ClockStates}
use Rattle.nested_instants.specs.Clocks.{AreFilled, AreReady, HasItem, IsFilling, IsFillingStopped, Progress, Stand, calls_below, calls_upto, is_fade, is_node, is_upto}
use Rattle.nested_instants.proofs.Equal.{are_same, item_at, not_same}
use Rattle.nested_instants.proofs.Fading.{fade_of}
use Rattle.nested_instants.proofs.Taking.{reached_none}

-- an item stays where neither the clock nor the crossfade went on
pub item_stays : (setting : Setting) (sub : ℕ → ℕ → List Slot) (progress now : Progress) (k : ℕ) (node : Node)
    → now.ran (clock_of setting k) ≡ progress.ran (clock_of setting k) → now.filled k ≡ progress.filled k → HasItem setting sub progress k node → HasItem setting sub now k node
item_stays setting sub progress now k node same same_filled item =
    let past_is : past_of setting sub progress.ran k ≡ past_of setting sub now.ran k = ap (λ n. first_instants setting sub (clock_of setting k) n) (sym same) in
    record {
      settled = subst (λ f. IsSettled sub (past_of setting sub now.ran k) f k (work_at setting k node)) (sym same_filled)
          (subst (λ past. IsSettled sub past (progress.filled k) k (work_at setting k node)) past_is item.settled);
      run = λ overlap work. ap (λ past. run_of overlap (sub k) (position past k)) (sym past_is) ∙ item.run overlap work ∙ sym same_filled;
    }

no_fades : (setting : Setting) (sub : ℕ → ℕ → List Slot) (past : List Moment) (j : ℕ) (inside : Bool) (found : Option Node) → inside ≡ false → fades_in setting sub (calls_below setting sub) inside past j found ≡ []
no_fades setting sub past j inside None e = refl
no_fades setting sub past j true (Some node) e = absurd (true≢false e)
no_fades setting sub past j false (Some node) e = refl

own_fades : (setting : Setting) (sub : ℕ → ℕ → List Slot) (clock : NodeClock) (past : List Moment) (i : ℕ) (node : Node) → lies_in setting clock i ≡ true → slice_get setting.plan.nodes i ≡ Some node
    → fades_by sub (calls_below setting sub) past i (work_at setting i node) ≡ fades_in setting sub (calls_below setting sub) (lies_in setting clock i) past i (slice_get setting.plan.nodes i)
own_fades setting sub clock past i node inside found =
    ap (λ (b : Bool). fades_in setting sub (calls_below setting sub) b past i (Some node)) (sym inside)
    ∙ ap (λ (n : Option Node). fades_in setting sub (calls_below setting sub) (lies_in setting clock i) past i n) (sym found)

-- nodes of other clocks are passed over
pub passed : (setting : Setting) (sub : ℕ → ℕ → List Slot) (rank : NodeClock → ℕ) (clock : NodeClock) (i n : ℕ) (progress : Progress) (more : List Call) (all : ClockStates)
    → IsFirst setting.clocks clock i n → AreFilled setting sub rank clock i progress more all → AreFilled setting sub rank clock n progress more all
passed setting sub rank clock i n progress more all first u = record {
  reached = record {
    now = u.reached.now;
    took = u.reached.took;
    stand = u.reached.stand;
    others = u.reached.others;
    held = λ j other low. u.reached.held j (λ done. other (let up = first.low in let less = done.0 in omega (arith, up, less), done.1)) low;
    idle = u.reached.idle;
    items = λ j node done found. elim (cases_lt j i) [
      | inl low ↦ u.reached.items j node (low, done.1) found
      | inr high ↦ absurd (not_same (clock_of setting j) clock (first.skips j high done.0) done.1)
    ];
  };
  calls = u.calls ∙ sym (joined_skip (λ k. fades_in setting sub (calls_below setting sub) (lies_in setting clock k) (first_instants setting sub clock (progress.ran clock)) k (slice_get setting.plan.nodes k)) i n first.low
      (λ j low high. no_fades setting sub (first_instants setting sub clock (progress.ran clock)) j (lies_in setting clock j) (slice_get setting.plan.nodes j) (first.skips j low high)));
}

pub filled_none : (setting : Setting) (sub : ℕ → ℕ → List Slot) (rank : NodeClock → ℕ) (clock : NodeClock) (progress : Progress) (all : ClockStates)
    → Stand setting sub rank (rank clock) progress all → AreFilled setting sub rank clock 0 progress [] all
filled_none setting sub rank clock progress all stand = record {
  reached = reached_none setting sub rank (rank clock) (is_upto setting.clocks clock 0) (is_upto setting.clocks clock 0) progress all (λ i done. (let low = done.0 in absurd (omega (arith, low)))) stand;
  calls = refl;
}

-- the calls for a node's item are those of the definition
item_calls : (setting : Setting) (sub : ℕ → ℕ → List Slot) (past : List Moment) (i : ℕ) (work : Work) (from to : ℕ)
    → ((overlap : ℕ) → work ≡ Fades overlap → from ≡ ran_by sub i overlap past) → ((overlap : ℕ) → work ≡ Fades overlap → run_of overlap (sub i) (position past i) ≡ to)
    → (is_fade work ≡ false → to ≡ from)
    → joined_between (calls_below setting sub i) from to ≡ fades_by sub (calls_below setting sub) past i work
item_calls setting sub past i (Plays leaf) from to begins ends still = ap (joined_between (calls_below setting sub i) from) (still refl) ∙ between_none (calls_below setting sub i) from
item_calls setting sub past i (Picks rule eligible) from to begins ends still = ap (joined_between (calls_below setting sub i) from) (still refl) ∙ between_none (calls_below setting sub i) from
item_calls setting sub past i (Mixes mixing) from to begins ends still = ap (joined_between (calls_below setting sub i) from) (still refl) ∙ between_none (calls_below setting sub i) from
item_calls setting sub past i (Fades overlap) from to begins ends still =
    ap (λ n. joined_between (calls_below setting sub i) n to) (begins overlap refl) ∙ ap (joined_between (calls_below setting sub i) (ran_by sub i overlap past)) (sym (ends overlap refl))
item_calls setting sub past i (Reads buffer) from to begins ends still = ap (joined_between (calls_below setting sub i) from) (still refl) ∙ between_none (calls_below setting sub i) from

module _ (setting : Setting) (sub : ℕ → ℕ → List Slot) (rank : NodeClock → ℕ) (clock : NodeClock) (i : ℕ) (progress : Progress) (more : List Call) (all : ClockStates)
    (u : AreFilled setting sub rank clock i progress more all) (ready : AreReady setting sub clock progress) where
  module _ (here : clock_of setting i ≡ clock) where
    level : rank (clock_of setting i) ≡ rank clock
    level = ap rank here

    pub stand_here : Stand setting sub rank (rank (clock_of setting i)) u.reached.now all
    stand_here = subst (λ l. Stand setting sub rank l u.reached.now all) (sym (ap rank here)) u.reached.stand

    -- node i was not filled before
    same_filled : u.reached.now.filled i ≡ progress.filled i
    same_filled = u.reached.held i (λ done. let low = done.0 in omega (arith, low)) (let l = level in omega (arith, l))

    same_ran : u.reached.now.ran clock ≡ progress.ran clock
    same_ran = u.reached.others clock (omega arith)

    pub begun_here : reads_at setting i ≡ true → u.reached.now.filled i ≡ suc (u.reached.now.ran (clock_of setting i))
    begun_here reading = same_filled ∙ ready.begun i reading here ∙ ap suc (sym (ap u.reached.now.ran here ∙ same_ran))

    past_here : past_of setting sub u.reached.now.ran i ≡ first_instants setting sub clock (progress.ran clock)
    past_here = ap (λ c. first_instants setting sub c (u.reached.now.ran c)) here ∙ ap (first_instants setting sub clock) same_ran

    -- the first calls of one more
    pub joined_stopped : (one : List Call) → i < length setting.plan.nodes → IsFillingStopped setting sub u.reached.now i one
        → IsBegin (more ++ one) (calls_upto setting sub clock (first_instants setting sub clock (progress.ran clock)) (length setting.plan.nodes))
    joined_stopped one within s =
        let past = first_instants setting sub clock (progress.ran clock) in
        let from : u.reached.now.filled i ≡ ran_by sub i s.overlap past = same_filled ∙ ready.each i s.overlap s.node s.there s.fades here in
        let calls : joined_between (calls_below setting sub i) (u.reached.now.filled i) (run_of s.overlap (sub i) (position (past_of setting sub u.reached.now.ran i) i))
        ≡ fades_in setting sub (calls_below setting sub) (lies_in setting clock i) past i (slice_get setting.plan.nodes i) =
        ap (λ n. joined_between (calls_below setting sub i) n (run_of s.overlap (sub i) (position (past_of setting sub u.reached.now.ran i) i))) from
        ∙ ap (λ p. joined_between (calls_below setting sub i) (ran_by sub i s.overlap past) (run_of s.overlap (sub i) (position p i))) past_here
        ∙ ap (fades_by sub (calls_below setting sub) past i) (sym s.fades)
        ∙ own_fades setting sub clock past i s.node (are_same (clock_of setting i) clock here) s.there in
        subst (λ (cs : List Call). IsBegin (cs ++ one) (calls_upto setting sub clock past (length setting.plan.nodes))) (sym u.calls)
        (begin_joined (λ k. fades_in setting sub (calls_below setting sub) (lies_in setting clock k) past k (slice_get setting.plan.nodes k)) i (length setting.plan.nodes) one within
        (subst (λ (cs : List Call). IsBegin one cs) calls s.begins))

    module _ (one : List Call) (new : ClockStates) (within : i < length setting.plan.nodes)
        (v : IsFilling setting sub rank i (is_node i) u.reached.now one new) where
      of_clock : (j : ℕ) → clock_of setting j ≡ clock → rank (clock_of setting j) ≤ rank (clock_of setting i)
      of_clock j inside = let same : rank (clock_of setting j) ≡ rank clock = ap rank inside in let l = level in omega (arith, same, l)

      one_calls : (node : Node) → slice_get setting.plan.nodes i ≡ Some node
          → one ≡ fades_in setting sub (calls_below setting sub) (lies_in setting clock i) (first_instants setting sub clock (progress.ran clock)) i (slice_get setting.plan.nodes i)
      one_calls node found =
          let past = first_instants setting sub clock (progress.ran clock) in
          let past_now : past_of setting sub v.reached.now.ran i ≡ past = ap (first_instants setting sub (clock_of setting i)) (v.reached.others (clock_of setting i) (omega arith)) ∙ past_here in
          let item = v.reached.items i node refl found in
          v.calls
          ∙ item_calls setting sub past i (work_at setting i node) (u.reached.now.filled i) (v.reached.now.filled i)
          (λ overlap work. same_filled ∙ ready.each i overlap node found work here)
          (λ overlap work. ap (λ p. run_of overlap (sub i) (position p i)) (sym past_now) ∙ item.run overlap work)
          (λ none. v.reached.idle i (fade_of setting i node found ∙ none) (omega arith))
          ∙ own_fades setting sub clock past i node (are_same (clock_of setting i) clock here) found

      -- and so is one whose item is settled
      pub joined : AreFilled setting sub rank clock (suc i) progress (more ++ one) new
      joined = record {
        reached = record {
          now = v.reached.now;
          took = v.reached.took ∙ ap (λ (f : ℕ → List Answer). after_calls f one) u.reached.took ∙ sym (after_calls-then progress.front more one);
          stand = subst (λ l. Stand setting sub rank l v.reached.now new) (ap rank here) v.reached.stand;
          others = λ other low. v.reached.others other (let l = level in omega (arith, low, l)) ∙ u.reached.others other low;
          held = λ j apart low. v.reached.held j (λ same. apart (let e = same in omega (arith, e), ap (clock_of setting) same ∙ here)) (let l = level in omega (arith, low, l))
              ∙ u.reached.held j (λ done. apart (let less = done.0 in omega (arith, less), done.1)) low;
          idle = λ j none low. v.reached.idle j none (let l = level in omega (arith, low, l)) ∙ u.reached.idle j none low;
          items = λ j node done found. elim (below_or_same j i (let less = done.0 in omega (arith, less))) [
            | inl less ↦ item_stays setting sub u.reached.now v.reached.now j node (v.reached.others (clock_of setting j) (of_clock j done.1))
                (v.reached.held j (λ same. omega (arith, less, same)) (of_clock j done.1)) (u.reached.items j node (less, done.1) found)
            | inr same ↦ v.reached.items j node same found
          ];
        };
        calls = (let node = item_at setting.plan.nodes i within in
            ap (λ (cs : List Call). cs ++ one) u.calls ∙ ap (λ (cs : List Call). calls_upto setting sub clock (first_instants setting sub clock (progress.ran clock)) i ++ cs) (one_calls node.0 node.1));
      }
