-- The nodes of a clock make a run, one node behind another.
use Rattle.std.proofs.Common.{◌≡◌, ◌<◌, ◌+◌, ◌∙◌, ◌&&◌, ◌||◌, All, [], nat_eq, ℕ, ℤ, suc, Bool, true, false, Some, Option, List, ◌∷◌, length, set, slice_get, arith, refl, ap, sym, subst, inl, inr}
use Rattle.std.specs.Prelude.{is_some}
use Rattle.std.specs.List.{list_any}
use Rattle.std.specs.Option.{option_map_or}
use Rattle.std.proofs.lemmas.Bool.{cases_lt, eqb-true, false≢true, true≢false}
use Rattle.std.proofs.lemmas.List.{length-take-le}
use Rattle.std.proofs.lemmas.Option.{slice_get_within}
use Rattle.plan_core.specs.declared.node.Node.{Node}
use Rattle.plan_core.specs.Plans.{AreNodes}
use Rattle.clock_infer.specs.declared.clock_map.NodeClock.{NodeClock}
use Rattle.frame_core.specs.Slots.{Slot}
use Rattle.op_leaf.specs.Lanes.{IsLane}
use Rattle.stream_meaning.specs.declared.part.Part.{Part}
use Rattle.stream_meaning.specs.Operators.{Work, Plays, Picks, Mixes, Fades, Reads}
use Rattle.stream_meaning.specs.Instants.{Setting, Moment, demanded, gives, lies_in, moment_after, offer, work_at}
use Rattle.stretch_laws.specs.Stretches.{IsNode, IsStretch, going_on, lane}
use Rattle.stretch_laws.proofs.Parts.{other_part, part_past}
use Rattle.op_mix.specs.Stretches.{Lanes, samples_of}
use Rattle.node_states.specs.declared.state.NodeState.{NodeState}
use Rattle.node_states.specs.Passing.{passes}
use Rattle.node_states.specs.Stretches.{GoesOn, filled_on}
use Rattle.node_states.specs.States.{StateStands, reads, reads_in}
use Rattle.clock_nodes.specs.Nodes.{IsFirst}
use Rattle.node_states.proofs.Running.{kept_stands}
use Rattle.clock_instants.specs.Held.{goes_through}
use Rattle.node_states.specs.Histories.{history_of}
use Rattle.clock_instants.specs.Sides.{both}
use Rattle.clock_instants.specs.Stretches.{HasGoneOn, NodeGivesOn, NodeHasGone, begun_on}
use Rattle.clock_nodes.specs.States.{IsIn}
use Rattle.clock_nodes.proofs.Places.{item_there, same_or_other, slice_get-set_other, slice_get-set_same}

below_by : (i c child : ℕ) (children : List ℕ) (here : Bool) → nat_eq c child ≡ here → (here || list_any (nat_eq c) children) ≡ true → child < i
    → (list_any (nat_eq c) children ≡ true → c < i) → c < i
below_by i c child children true e among low rest = subst (λ n. n < i) (sym (eqb-true c child e)) low
below_by i c child children false e among low rest = rest among

-- a child lies below its node
pub below_any : (i c : ℕ) (children : List ℕ) → All (λ child. child < i) children → list_any (nat_eq c) children ≡ true → c < i
below_any i c [] below among = absurd (false≢true among)
below_any i c (child ∷ children) below among =
    below_by i c child children (nat_eq c child) refl among (below 0 child (omega arith)) (λ e. below_any i c children (λ k d low. below (suc k) d (omega (arith, low))) e)

and_right : (a b : Bool) → (a && b) ≡ true → b ≡ true
and_right true b e = e
and_right false b e = absurd (false≢true e)

-- a reader has begun as many instants as all of the clock have
pub reads_begun : (work : Work) (filled : ℕ) (past : List Moment) → ((buffer : ℕ) → work ≡ Reads buffer → filled ≡ suc (length past)) → reads work ≡ true → filled ≡ suc (length past)
reads_begun (Plays leaf) filled past begun e = absurd (false≢true e)
reads_begun (Picks rule eligible) filled past begun e = absurd (false≢true e)
reads_begun (Mixes mixing) filled past begun e = absurd (false≢true e)
reads_begun (Fades overlap) filled past begun e = absurd (false≢true e)
reads_begun (Reads buffer) filled past begun e = begun buffer refl

-- what a node of the clock has begun or was filled
pub begun-own : (setting : Setting) (clock : NodeClock) (through : ℕ → Bool) (many : ℕ) (filled : ℕ → ℕ) (i : ℕ) (node : Node) → IsIn setting clock i node
    → begun_on setting clock through many filled i ≡ filled_on (through i || reads (work_at setting i node)) many (filled i)
begun-own setting clock through many filled i node is =
    ap (λ (b : Bool). filled_on (b && (through i || reads_in setting i (slice_get setting.plan.nodes i))) many (filled i)) is.inside
    ∙ ap (λ (found : Option Node). filled_on (through i || reads_in setting i found) many (filled i)) is.there

module _ (setting : Setting) (sub : ℕ → ℕ → List Slot) (clock : NodeClock) (past : List Moment) where
  abbrev First : Moment
  First = moment_after setting sub clock past

  -- a node that offers lies in the clock
  offers_inside : (i : ℕ) → is_some (offer First i) ≡ true → (inside : Bool) → lies_in setting clock i ≡ inside → lies_in setting clock i ≡ true
  offers_inside i there true e = e
  offers_inside i there false e = elim (cases_lt i (length setting.plan.nodes)) [
    | inl low ↦ (let node = item_there setting.plan.nodes i low in
        absurd (false≢true (sym (ap (λ (p : Part). is_some p.slot) (other_part setting sub clock past (length setting.plan.nodes) i node.0 low node.1 e)) ∙ there)))
    | inr high ↦ absurd (false≢true (sym (ap (λ (p : Part). is_some p.slot) (part_past setting sub clock past i high)) ∙ there))
  ]

  pub offers_in : (i : ℕ) → is_some (offer First i) ≡ true → lies_in setting clock i ≡ true
  offers_in i there = offers_inside i there (lies_in setting clock i) refl

  pub gives_in : (i : ℕ) → gives First i ≡ true → lies_in setting clock i ≡ true
  gives_in i gave = offers_in i (and_right (demanded First i) (is_some (offer First i)) gave)

  module _ (many : ℕ) (filled : ℕ → ℕ) (old : List NodeState) where
    -- the nodes below `below` have made their run
    pub record HaveGone (below : ℕ) (left right : Lanes) (states : List NodeState) : Type 0 where
      pub each : (k : ℕ) (node : Node) (state : NodeState) → k < below → IsIn setting clock k node → slice_get states k ≡ Some state
          → StateStands setting sub (going_on setting sub clock (suc many) past) (begun_on setting clock (goes_through First old) many filled k) k (work_at setting k node) state
      pub lanes : (k : ℕ) → k < below → gives First k ≡ true
          → IsLane (λ j. lane setting sub clock past (suc j) k) many (samples_of left k many) (samples_of right k many)

    pub run_none : (left right : Lanes) (states : List NodeState) → HaveGone 0 left right states
    run_none left right states = record {
      each = λ k node state low inside found. absurd (omega (arith, low));
      lanes = λ k low gave. absurd (omega (arith, low));
    }

    -- nodes of other clocks stay, and give nothing
    pub run_skip : (i n : ℕ) (left right : Lanes) (states : List NodeState) → IsFirst setting.clocks clock i n → HaveGone i left right states → HaveGone n left right states
    run_skip i n left right states first run = record {
      each = λ k node state low inside found. elim (cases_lt k i) [
        | inl less ↦ run.each k node state less inside found
        | inr high ↦ absurd (true≢false (sym inside.inside ∙ first.skips k high low))
      ];
      lanes = λ k low gave. elim (cases_lt k i) [
        | inl less ↦ run.lanes k less gave
        | inr high ↦ absurd (true≢false (sym (gives_in k gave) ∙ first.skips k high low))
      ];
    }

    -- node i makes its run
    pub run_step : (i : ℕ) (left right left_new right_new : Lanes) (states : List NodeState) (new : NodeState) → i < length states
        → ((k : ℕ) → k < i → samples_of left_new k many ≡ samples_of left k many) → ((k : ℕ) → k < i → samples_of right_new k many ≡ samples_of right k many)
        → (node : Node) (state : NodeState) → IsIn setting clock i node → slice_get old i ≡ Some state → NodeHasGone (history_of setting sub clock past) many (filled i) i node state (both left_new right_new) new
        → HaveGone i left right states → HaveGone (suc i) left_new right_new (set states i new)
    run_step i left right left_new right_new states new within left_same right_same own was is_own stood has run = record {
      each = λ k node state low inside found. elim (same_or_other i k) [
        | inl same ↦ subst (λ j. IsIn setting clock j node → slice_get (set states i new) j ≡ Some state
            → StateStands setting sub (going_on setting sub clock (suc many) past) (begun_on setting clock (goes_through First old) many filled j) j (work_at setting j node) state) same (here node state) inside found
        | inr apart ↦ run.each k node state (omega (arith, low, apart)) inside (sym (slice_get-set_other states i k new apart) ∙ found)
      ];
      lanes = λ k low gave. elim (same_or_other i k) [
        | inl same ↦ subst (λ j. gives First j ≡ true → IsLane (λ m. lane setting sub clock past (suc m) j) many (samples_of left_new j many) (samples_of right_new j many)) same has.lane_is gave
        | inr apart ↦ (let less : k < i = omega (arith, low, apart) in
            subst (λ l. IsLane (λ m. lane setting sub clock past (suc m) k) many l (samples_of right_new k many)) (sym (left_same k less))
            (subst (λ r. IsLane (λ m. lane setting sub clock past (suc m) k) many (samples_of left k many) r) (sym (right_same k less)) (run.lanes k less gave)))
      ];
    }
      where
        here : (node : Node) (state : NodeState) → IsIn setting clock i node → slice_get (set states i new) i ≡ Some state
            → StateStands setting sub (going_on setting sub clock (suc many) past) (begun_on setting clock (goes_through First old) many filled i) i (work_at setting i node) state
        here node state inside found =
            let put : Some new ≡ Some state = sym (slice_get-set_same states i new within) ∙ found in
            let same : new ≡ state = cc in
            let one : Some own ≡ Some node = sym is_own.there ∙ inside.there in
            let node_is : own ≡ node = cc in
            let through : filled_on (goes_through First old i || reads (work_at setting i node)) many (filled i) ≡ filled_on ((gives First i && passes was) || reads (work_at setting i node)) many (filled i) =
            ap (λ (at : Option NodeState). filled_on ((gives First i && option_map_or passes at false) || reads (work_at setting i node)) many (filled i)) stood in
            subst (λ s. StateStands setting sub (going_on setting sub clock (suc many) past) (begun_on setting clock (goes_through First old) many filled i) i (work_at setting i node) s) same
            (subst (λ n. StateStands setting sub (going_on setting sub clock (suc many) past) n i (work_at setting i node) new) (sym (begun-own setting clock (goes_through First old) many filled i node inside ∙ through))
            (subst (λ n. StateStands setting sub (going_on setting sub clock (suc many) past) (filled_on ((gives First i && passes was) || reads (work_at setting i n)) many (filled i)) i (work_at setting i n) new) node_is has.stands))

    -- all have
    pub run_all : (n : ℕ) (left right : Lanes) (states : List NodeState) → n ≡ length setting.plan.nodes → HaveGone n left right states
        → HasGoneOn setting sub clock past many filled old left right states
    run_all n left right states all run = record {
      stands = record { each = λ i node state inside found. run.each i node state (let low = slice_get_within setting.plan.nodes i node inside.there in omega (arith, low, all)) inside found };
      lanes = λ i gave. elim (cases_lt i (length setting.plan.nodes)) [
        | inl low ↦ run.lanes i (omega (arith, low, all)) gave
        | inr high ↦ absurd (false≢true (sym (ap (λ (p : Part). is_some p.slot) (part_past setting sub clock past i high)) ∙ and_right (demanded First i) (is_some (offer First i)) gave))
      ];
    }

  -- a node that does not give
  pub kept_run : (many filled i : ℕ) (node : Node) (state : NodeState) (left right : Lanes) → AreNodes setting.plan.nodes → 0 < many → IsStretch setting sub clock past (suc many) → IsNode setting clock i node
      → gives First i ≡ false → (reads (work_at setting i node) ≡ true → filled ≡ suc (length past)) → StateStands setting sub (First ∷ past) filled i (work_at setting i node) state
      → NodeHasGone (history_of setting sub clock past) many filled i node state (both left right) state
  kept_run many filled i node state left right nodes some stretch is not begun stands =
      let next : 1 + many ≡ suc many = omega arith in
      record {
        stands = subst (λ (b : Bool). StateStands setting sub (going_on setting sub clock (suc many) past) (filled_on ((b && passes state) || reads (work_at setting i node)) many filled) i (work_at setting i node) state) (sym not)
            (subst (λ j. StateStands setting sub (going_on setting sub clock j past) (filled_on (reads (work_at setting i node)) many filled) i (work_at setting i node) state) next
            (kept_stands setting sub clock past (suc many) 1 many nodes stretch (omega arith) (omega arith) some i node is filled state not begun stands));
        lane_is = λ gave. absurd (true≢false (sym gave ∙ not));
      }

  -- what `run` asks for of a node that does
  pub goes_on : (many filled i : ℕ) (node : Node) (held parts : List Part) (left right : Lanes) (state : NodeState) → AreNodes setting.plan.nodes
      → NodeGivesOn (history_of setting sub clock past) many filled i node held parts (both left right) state → gives First i ≡ true → GoesOn (history_of setting sub clock past) many i node
  goes_on many filled i node held parts left right state nodes before gave = record {
    nodes = nodes;
    long = before.long;
    stretch = before.stretch;
    is = before.is;
    gave = gave;
  }

  -- a child of a node lies before it
  pub child_low : (i c : ℕ) (node : Node) → AreNodes setting.plan.nodes → slice_get setting.plan.nodes i ≡ Some node → list_any (nat_eq c) node.children ≡ true → c < i
  child_low i c node nodes found among =
      below_any i c node.children
      (λ k d h. (let under = (nodes i node found).children k d h in
      let inside = slice_get_within setting.plan.nodes i node found in
      let long = length-take-le i setting.plan.nodes (omega (arith, inside)) in omega (arith, under, long))) among

-- what a node that gives did
pub has_run : (setting : Setting) (sub : ℕ → ℕ → List Slot) (clock : NodeClock) (past : List Moment) (many filled i : ℕ) (node : Node) (old : NodeState) (own_left : List ℤ) (left : Lanes) (own_right : List ℤ) (right : Lanes) (state : NodeState)
    → gives (moment_after setting sub clock past) i ≡ true → samples_of left i many ≡ own_left → samples_of right i many ≡ own_right
    → StateStands setting sub (going_on setting sub clock (suc many) past) (filled_on (passes old || reads (work_at setting i node)) many filled) i (work_at setting i node) state
    → IsLane (λ j. lane setting sub clock past (suc j) i) many own_left own_right → NodeHasGone (history_of setting sub clock past) many filled i node old (both left right) state
has_run setting sub clock past many filled i node old own_left left own_right right state gave same alike stands own = record {
  stands = subst (λ (b : Bool). StateStands setting sub (going_on setting sub clock (suc many) past) (filled_on ((b && passes old) || reads (work_at setting i node)) many filled) i (work_at setting i node) state) (sym gave) stands;
  lane_is = λ gave. subst (λ (xs : List ℤ). IsLane (λ j. lane setting sub clock past (suc j) i) many xs (samples_of right i many)) (sym same)
      (subst (λ (xs : List ℤ). IsLane (λ j. lane setting sub clock past (suc j) i) many own_left xs) (sym alike) own);
}
