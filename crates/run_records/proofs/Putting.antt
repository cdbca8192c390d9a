-- A tick puts at most once to a buffer, so a window of a lawful record has at most W puts.
use Rattle.std.proofs.Common.{◌≡◌, ◌≤◌, ◌+◌, ◌-◌, ◌*◌, ◌%◌, ℕ, zero, suc, Bool, true, false, Option, Some, None, List, [], ◌∷◌, ◌++◌, length, map, nat_eq, nat_lt, slice_get, flat_map, if◌then◌else◌, refl, ap, ◌∙◌, arith, length-append}
use Rattle.std.proofs.lemmas.Bool.Decides.{nat_tests}
use Rattle.frame_core.specs.declared.cell.Cell.{Cell}
use Rattle.frame_core.specs.Slots.{Slot}
use Rattle.frame_core.specs.Calls.{Call, Took, puts_to, put_of, Answer}
use Rattle.plan_core.specs.declared.node.Node.{Node}
use Rattle.plan_core.specs.declared.sink.SinkPlan.{SinkPlan}
use Rattle.plan_core.specs.declared.sink.SinkPlan.TheVariants.{Output, Feed}
use Rattle.clock_infer.specs.declared.clock_map.NodeClock.{NodeClock}
use Rattle.clock_infer.specs.declared.clock_map.NodeClock.TheVariants.{Main, Sub}
use Rattle.op_leaf.specs.Readers.{reader_takes}
use Rattle.op_cross.specs.Runs.{run_of}
use Rattle.stream_meaning.specs.Operators.{Work, Plays, Picks, Mixes, Fades, Reads}
use Rattle.stream_meaning.specs.Instants.{Setting, Moment, lies_in, next_answers, reading_after, work_at, first_instants, position, sub_of}
use Rattle.stream_meaning.specs.Calls.{joined_upto, joined_between, takes_by, takes_in, takes_at, fades_by, fades_in, ran_by, calls_at, calls_of, given, give_by, calls_of_tick, takes_of_tick, gives_of_tick}
use Rattle.stream_meaning.specs.Sinks.{feed_cells}
use Rattle.run_records.specs.Records.{calls_in, ticks_of}
use Rattle.run_records.proofs.Flattening.{puts-append}

module _ (b : ℕ) where
  pub none_joined : (calls : ℕ → List Call) (n : ℕ) → ((j : ℕ) → puts_to b (calls j) ≡ []) → puts_to b (joined_upto calls n) ≡ []
  none_joined calls zero each = refl
  none_joined calls (suc n) each = puts-append b (joined_upto calls n) (calls n) ∙ (λ i. none_joined calls n each i ++ each n i)

  none_taken : (buffer : ℕ) (answers : List Answer) → puts_to b (map (Took buffer) answers) ≡ []
  none_taken buffer [] = refl
  none_taken buffer (answer ∷ answers) = none_taken buffer answers

  module _ (setting : Setting) (sub : ℕ → ℕ → List Slot) where
    none_by : (past : List Moment) (i : ℕ) (work : Work) → puts_to b (takes_by setting past i work) ≡ []
    none_by past i (Plays leaf) = refl
    none_by past i (Picks choice eligible) = refl
    none_by past i (Mixes mixing) = refl
    none_by past i (Fades overlap) = refl
    none_by past i (Reads buffer) =
        none_taken buffer (reader_takes (next_answers (setting.answers buffer) (reading_after setting i buffer past)) (reading_after setting i buffer past).reader)

    none_in : (inside : Bool) (past : List Moment) (i : ℕ) (node : Option Node) → puts_to b (takes_in setting inside past i node) ≡ []
    none_in inside past i None = refl
    none_in false past i (Some node) = refl
    none_in true past i (Some node) = none_by past i (work_at setting i node)

    none_at : (clock : NodeClock) (past : List Moment) → puts_to b (takes_at setting clock past) ≡ []
    none_at clock past = by (nat_eq (length past % setting.plan.frame) 0)
      where
        takes : List Call
        takes = joined_upto (λ i. takes_in setting (lies_in setting clock i) past i (slice_get setting.plan.nodes i)) (length setting.plan.nodes)

        by : (t : Bool) → puts_to b (if t then joined_upto (λ i. takes_in setting (lies_in setting clock i) past i (slice_get setting.plan.nodes i)) (length setting.plan.nodes) else []) ≡ []
        by true = none_joined (λ i. takes_in setting (lies_in setting clock i) past i (slice_get setting.plan.nodes i)) (length setting.plan.nodes)
            (λ i. none_in (lies_in setting clock i) past i (slice_get setting.plan.nodes i))
        by false = refl

    none_fade : (below : ℕ → ℕ → List Call) → ((k m : ℕ) → puts_to b (below k m) ≡ []) → (past : List Moment) (k : ℕ) (work : Work) → puts_to b (fades_by sub below past k work) ≡ []
    none_fade below each past k (Plays leaf) = refl
    none_fade below each past k (Picks choice eligible) = refl
    none_fade below each past k (Mixes mixing) = refl
    none_fade below each past k (Fades overlap) =
        none_joined (λ j. below k (ran_by sub k overlap past + j)) (run_of overlap (sub k) (position past k) - ran_by sub k overlap past) (λ j. each k (ran_by sub k overlap past + j))
    none_fade below each past k (Reads buffer) = refl

    none_fades : (below : ℕ → ℕ → List Call) → ((k m : ℕ) → puts_to b (below k m) ≡ []) → (inside : Bool) (past : List Moment) (k : ℕ) (node : Option Node)
        → puts_to b (fades_in setting sub below inside past k node) ≡ []
    none_fades below each inside past k None = refl
    none_fades below each false past k (Some node) = refl
    none_fades below each true past k (Some node) = none_fade below each past k (work_at setting k node)

    pub none_called : (depth : ℕ) (clock : NodeClock) (past : List Moment) → puts_to b (calls_at setting sub depth clock past) ≡ []
    none_called zero clock past = refl
    none_called (suc depth) clock past =
        let below : ℕ → ℕ → List Call = λ j m. calls_at setting sub depth (Sub j) (first_instants setting sub (Sub j) m) in
        let fades : ℕ → List Call = λ k. fades_in setting sub below (lies_in setting clock k) past k (slice_get setting.plan.nodes k) in
        puts-append b (takes_at setting clock past) (joined_upto fades (length setting.plan.nodes))
        ∙ (λ i. none_at clock past i ++ none_joined fades (length setting.plan.nodes)
        (λ k. none_fades below (λ j m. none_called depth (Sub j) (first_instants setting sub (Sub j) m)) (lies_in setting clock k) past k (slice_get setting.plan.nodes k)) i)

  -- the puts of the sinks
  module _ (setting : Setting) (accepted : ℕ → Bool) (m t : ℕ) where
    one_given : (to : ℕ) (cells : List Cell) (kept : Bool) → length (puts_to b (given to cells kept)) ≤ 1
    one_given to [] kept = omega arith
    one_given to (cell ∷ cells) kept = by (nat_eq b to)
      where
        by : (same : Bool) → length (if same then put_of (cell ∷ cells) kept ∷ [] else []) ≤ 1
        by true = omega arith
        by false = omega arith

    none_given : (to : ℕ) (cells : List Cell) (kept : Bool) → nat_eq b to ≡ false → puts_to b (given to cells kept) ≡ []
    none_given to [] kept off = refl
    none_given to (cell ∷ cells) kept off = rw off refl

    gives : SinkPlan → List Call
    gives = give_by setting accepted m t

    one_give : (to node : ℕ) → length (puts_to b (give_by setting accepted m t (Feed to node))) ≤ 1
    one_give to node = by (lies_in setting (Main m) node)
      where
        by : (inside : Bool) → length (puts_to b (if inside then given to (feed_cells setting node t) (accepted to) else [])) ≤ 1
        by true = one_given to (feed_cells setting node t) (accepted to)
        by false = omega arith

    no_give : (to node : ℕ) → nat_eq b to ≡ false → puts_to b (give_by setting accepted m t (Feed to node)) ≡ []
    no_give to node off = by (lies_in setting (Main m) node)
      where
        by : (inside : Bool) → puts_to b (if inside then given to (feed_cells setting node t) (accepted to) else []) ≡ []
        by true = none_given to (feed_cells setting node t) (accepted to) off
        by false = refl

    no_gives : (sinks : List SinkPlan) → ((q node : ℕ) → slice_get sinks q ≡ Some (Feed b node) → ⊥) → puts_to b (flat_map (give_by setting accepted m t) sinks) ≡ []
    no_gives [] none = refl
    no_gives (Output name node fallible wide ∷ sinks) none = no_gives sinks (λ q node at. none (suc q) node at)
    no_gives (Feed to node ∷ sinks) none = by (nat_eq b to) refl (no_gives sinks (λ q node at. none (suc q) node at))
      where
        by : (same : Bool) → nat_eq b to ≡ same → puts_to b (flat_map (give_by setting accepted m t) sinks) ≡ [] → puts_to b (flat_map (give_by setting accepted m t) (Feed to node ∷ sinks)) ≡ []
        by true e rest = (let same : to ≡ b = grind (arith, nat_tests) in absurd (none 0 node (ap (λ (n : ℕ). Some (Feed n node)) same)))
        by false e rest = puts-append b (give_by setting accepted m t (Feed to node)) (flat_map (give_by setting accepted m t) sinks) ∙ (λ i. no_give to node e i ++ rest i)

    one_gives : (sinks : List SinkPlan) → ((p q x y : ℕ) → slice_get sinks p ≡ Some (Feed b x) → slice_get sinks q ≡ Some (Feed b y) → p ≡ q)
        → length (puts_to b (flat_map (give_by setting accepted m t) sinks)) ≤ 1
    one_gives [] one = omega arith
    one_gives (Output name node fallible wide ∷ sinks) one =
        one_gives sinks (λ p q x y at also. let same : suc p ≡ suc q = one (suc p) (suc q) x y at also in omega (arith, same))
    one_gives (Feed to node ∷ sinks) one = by (nat_eq b to) refl
        (one_gives sinks (λ p q x y at also. let same : suc p ≡ suc q = one (suc p) (suc q) x y at also in omega (arith, same)))
      where
        split : puts_to b (flat_map (give_by setting accepted m t) (Feed to node ∷ sinks)) ≡ puts_to b (give_by setting accepted m t (Feed to node)) ++ puts_to b (flat_map (give_by setting accepted m t) sinks)
        split = puts-append b (give_by setting accepted m t (Feed to node)) (flat_map (give_by setting accepted m t) sinks)

        by : (same : Bool) → nat_eq b to ≡ same → length (puts_to b (flat_map (give_by setting accepted m t) sinks)) ≤ 1
            → length (puts_to b (flat_map (give_by setting accepted m t) (Feed to node ∷ sinks))) ≤ 1
        by true e rest =
            (let same : to ≡ b = grind (arith, nat_tests) in
            let none = no_gives sinks (λ q other at. let no : 0 ≡ suc q = one 0 (suc q) node other (ap (λ (n : ℕ). Some (Feed n node)) same) at in absurd (omega (arith, no))) in
            let long = length-append (puts_to b (give_by setting accepted m t (Feed to node))) (puts_to b (flat_map (give_by setting accepted m t) sinks)) in
            omega (arith, ap (λ (l : List Answer). length l) split, long, ap (λ (l : List Answer). length l) none, one_give to node))
        by false e rest =
            (let long = length-append (puts_to b (give_by setting accepted m t (Feed to node))) (puts_to b (flat_map (give_by setting accepted m t) sinks)) in
            omega (arith, ap (λ (l : List Answer). length l) split, long, ap (λ (l : List Answer). length l) (no_give to node e), rest))

  -- a tick puts once at most
  pub one_put : (setting : Setting) (accepted : ℕ → Bool) (m t : ℕ) → ((p q x y : ℕ) → slice_get setting.plan.sinks p ≡ Some (Feed b x) → slice_get setting.plan.sinks q ≡ Some (Feed b y) → p ≡ q)
      → length (puts_to b (calls_of_tick setting accepted m t)) ≤ 1
  one_put setting accepted m t one =
      let sub = sub_of setting in
      let takes : ℕ → List Call = λ j. calls_of setting sub (Main m) (first_instants setting sub (Main m) (t * setting.plan.frame + j)) in
      let none : puts_to b (takes_of_tick setting m t) ≡ [] =
      none_joined takes setting.plan.frame (λ j. none_called setting sub (suc (length setting.plan.nodes)) (Main m) (first_instants setting sub (Main m) (t * setting.plan.frame + j))) in
      let split = puts-append b (takes_of_tick setting m t) (gives_of_tick setting accepted m t) in
      let long = length-append (puts_to b (takes_of_tick setting m t)) (puts_to b (gives_of_tick setting accepted m t)) in
      omega (arith, ap (λ (l : List Answer). length l) split, long, ap (λ (l : List Answer). length l) none, one_gives setting accepted m t setting.plan.sinks one)

  pub few_puts : (calls : ℕ → List Call) (n : ℕ) → ((j : ℕ) → length (puts_to b (calls j)) ≤ 1) → length (puts_to b (joined_upto calls n)) ≤ n
  few_puts calls zero each = omega arith
  few_puts calls (suc n) each =
      let split = puts-append b (joined_upto calls n) (calls n) in
      let long = length-append (puts_to b (joined_upto calls n)) (puts_to b (calls n)) in
      omega (arith, ap (λ (l : List Answer). length l) split, long, few_puts calls n each, each n)

  pub put_in : (setting : Setting) (clocks : ℕ) (accepted : ℕ → ℕ → ℕ → Bool) (m t : ℕ)
      → ((p q x y : ℕ) → slice_get setting.plan.sinks p ≡ Some (Feed b x) → slice_get setting.plan.sinks q ≡ Some (Feed b y) → p ≡ q)
      → length (puts_to b (calls_in setting clocks accepted m t)) ≤ 1
  put_in setting clocks accepted m t one = by (nat_lt m clocks)
    where
      by : (runs : Bool) → length (puts_to b (if runs then ticks_of setting accepted m t else [])) ≤ 1
      by true = one_put setting (accepted m t) m t one
      by false = omega arith

-- a window has so many puts at most as it has ticks
pub window_puts : (setting : Setting) (clocks : ℕ) (accepted : ℕ → ℕ → ℕ → Bool) (b m from to : ℕ)
    → ((p q x y : ℕ) → slice_get setting.plan.sinks p ≡ Some (Feed b x) → slice_get setting.plan.sinks q ≡ Some (Feed b y) → p ≡ q)
    → length (puts_to b (joined_between (calls_in setting clocks accepted m) from to)) ≤ to - from
window_puts setting clocks accepted b m from to one =
    few_puts b (λ j. calls_in setting clocks accepted m (from + j)) (to - from) (λ j. put_in b setting clocks accepted m (from + j) one)
