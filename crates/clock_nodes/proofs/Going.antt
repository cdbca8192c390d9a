-- The states of a clock go on by an instant, one node at a time.
use Rattle.std.proofs.Common.{◌≡◌, ◌<◌, ◌∙◌, ℕ, suc, Bool, false, List, Some, ◌∷◌, length, set, get_or, slice_get, arith, ap, sym, subst, inl, inr}
use Rattle.std.proofs.lemmas.Bool.{cases_lt, true≢false}
use Rattle.std.proofs.lemmas.List.{length-map}
use Rattle.std.proofs.lemmas.Option.{slice_get_within}
use Rattle.std.proofs.Math.ListN.{length-set}
use Rattle.plan_core.specs.declared.node.Node.{Node}
use Rattle.clock_infer.specs.declared.clock_map.NodeClock.{NodeClock}
use Rattle.frame_core.specs.Slots.{Slot}
use Rattle.stream_meaning.specs.declared.part.Part.{Part}
use Rattle.stream_meaning.specs.Instants.{Setting, Moment, demanded, part_at, part_by, parts_upto, slots_at, work_at}
use Rattle.node_states.specs.declared.state.NodeState.{NodeState}
use Rattle.node_states.specs.States.{Fits, IsSettled, StateStands}
use Rattle.clock_nodes.specs.Nodes.{IsFirst}
use Rattle.clock_nodes.specs.declared.scene.Scene.{Scene}
use Rattle.clock_nodes.specs.States.{AllFit, AreSettled, ClockStands, IsIn}
use Rattle.clock_nodes.proofs.Parts.{own_part}
use Rattle.clock_nodes.proofs.Places.{same_or_other, slice_get-set_other, slice_get-set_same}

-- the nodes below `below` have gone on by this moment
pub record IsGoneOn (setting : Setting) (sub : ℕ → ℕ → List Slot) (clock : NodeClock) (past : List Moment) (moment : Moment) (filled : ℕ → ℕ)
    (below : ℕ) (states : List NodeState) : Type 0 where
  pub each : (k : ℕ) (node : Node) (state : NodeState) → k < below → IsIn setting clock k node → slice_get states k ≡ Some state
      → StateStands setting sub (moment ∷ past) (filled k) k (work_at setting k node) state

pub gone_none : (setting : Setting) (sub : ℕ → ℕ → List Slot) (clock : NodeClock) (past : List Moment) (moment : Moment) (filled : ℕ → ℕ) (states : List NodeState)
    → IsGoneOn setting sub clock past moment filled 0 states
gone_none setting sub clock past moment filled states = record { each = λ k node state below inside found. absurd (omega (arith, below)) }

-- nodes of other clocks stay
pub gone_skip : (setting : Setting) (sub : ℕ → ℕ → List Slot) (clock : NodeClock) (past : List Moment) (moment : Moment) (filled : ℕ → ℕ) (i n : ℕ) (states : List NodeState)
    → IsFirst setting.clocks clock i n → IsGoneOn setting sub clock past moment filled i states → IsGoneOn setting sub clock past moment filled n states
gone_skip setting sub clock past moment filled i n states first gone = record {
  each = λ k node state below inside found. elim (cases_lt k i) [
    | inl less ↦ gone.each k node state less inside found
    | inr high ↦ absurd (true≢false (sym inside.inside ∙ first.skips k high below))
  ];
}

-- a node of the clock goes on
pub gone_step : (setting : Setting) (sub : ℕ → ℕ → List Slot) (clock : NodeClock) (past : List Moment) (moment : Moment) (filled : ℕ → ℕ) (i : ℕ) (states : List NodeState) (new : NodeState)
    → i < length states
    → ((node : Node) → IsIn setting clock i node → StateStands setting sub (moment ∷ past) (filled i) i (work_at setting i node) new)
    → IsGoneOn setting sub clock past moment filled i states → IsGoneOn setting sub clock past moment filled (suc i) (set states i new)
gone_step setting sub clock past moment filled i states new within goes gone = record {
  each = λ k node state below inside found. elim (same_or_other i k) [
    | inl same ↦ subst (λ j. IsIn setting clock j node → slice_get (set states i new) j ≡ Some state → StateStands setting sub (moment ∷ past) (filled j) j (work_at setting j node) state) same (here node state) inside found
    | inr apart ↦ gone.each k node state (omega (arith, below, apart)) inside (sym (slice_get-set_other states i k new apart) ∙ found)
  ];
}
  where
    here : (node : Node) (state : NodeState) → IsIn setting clock i node → slice_get (set states i new) i ≡ Some state
        → StateStands setting sub (moment ∷ past) (filled i) i (work_at setting i node) state
    here node state inside found =
        let put : Some new ≡ Some state = sym (slice_get-set_same states i new within) ∙ found in
        let same : new ≡ state = cc in
        subst (λ s. StateStands setting sub (moment ∷ past) (filled i) i (work_at setting i node) s) same (goes node inside)

-- all have gone on
pub gone_all : (setting : Setting) (sub : ℕ → ℕ → List Slot) (clock : NodeClock) (past : List Moment) (moment : Moment) (filled : ℕ → ℕ) (n : ℕ) (states : List NodeState)
    → n ≡ length setting.plan.nodes → IsGoneOn setting sub clock past moment filled n states → ClockStands setting sub clock (moment ∷ past) filled states
gone_all setting sub clock past moment filled n states all gone = record {
  each = λ i node state inside found. gone.each i node state (let below = slice_get_within setting.plan.nodes i node inside.there in omega (arith, below, all)) inside found;
}

-- what `next` says of a state, at a node of the clock
pub goes_on : (setting : Setting) (sub : ℕ → ℕ → List Slot) (clock : NodeClock) (past : List Moment) (moment : Moment) (filled : ℕ → ℕ) (i : ℕ) (node : Node)
    (parts : List Part) (marks : List Bool) (states : List NodeState) (old new : NodeState) (part : Part) (marked : Bool) (children : ℕ)
    → ((slots : List Slot) → StateStands setting sub past (filled i) i (work_at setting i node) old → IsSettled sub past (filled i) i (work_at setting i node)
    → length slots ≡ children → part ≡ part_by setting sub past i (work_at setting i node) slots → part_at moment.parts i ≡ part → demanded moment i ≡ marked
    → StateStands setting sub (moment ∷ past) (filled i) i (work_at setting i node) new)
    → length node.children ≡ children → slice_get states i ≡ Some old → part_at parts i ≡ part → get_or marks i false ≡ marked
    → ClockStands setting sub clock past filled states → AreSettled setting sub clock past filled
    → parts ≡ parts_upto setting sub clock past (length setting.plan.nodes) → moment.parts ≡ parts → moment.demands ≡ marks
    → IsIn setting clock i node → StateStands setting sub (moment ∷ past) (filled i) i (work_at setting i node) new
goes_on setting sub clock past moment filled i node parts marks states old new part marked children next many found part_is mark_is stand settled parts_are same_parts same_marks inside =
    next (slots_at (parts_upto setting sub clock past i) node.children) (stand.each i node old inside found) (settled.each i node inside)
    (length-map node.children _ ∙ many)
    (sym part_is ∙ ap (λ ps. part_at ps i) parts_are ∙ own_part setting sub clock past i node inside)
    (ap (λ ps. part_at ps i) same_parts ∙ part_is)
    (ap (λ ms. get_or ms i false) same_marks ∙ mark_is)

-- a state that fits in the place of one that did
pub fit_set : (scene : Scene) (states : List NodeState) (i : ℕ) (new : NodeState) → i < length states
    → ((node : Node) → slice_get scene.plan.now.nodes i ≡ Some node → Fits scene.library.now (length node.children) new)
    → AllFit scene states → AllFit scene (set states i new)
fit_set scene states i new within fits all = record {
  size = length-set _ _ _ ∙ all.size;
  each = λ k node state found stored. elim (same_or_other i k) [
    | inl same ↦ subst (λ j. slice_get scene.plan.now.nodes j ≡ Some node → slice_get (set states i new) j ≡ Some state → Fits scene.library.now (length node.children) state) same (here node state) found stored
    | inr apart ↦ all.each k node state found (sym (slice_get-set_other states i k new apart) ∙ stored)
  ];
}
  where
    here : (node : Node) (state : NodeState) → slice_get scene.plan.now.nodes i ≡ Some node → slice_get (set states i new) i ≡ Some state → Fits scene.library.now (length node.children) state
    here node state found stored =
        let put : Some new ≡ Some state = sym (slice_get-set_same states i new within) ∙ stored in
        let same : new ≡ state = cc in
        subst (λ s. Fits scene.library.now (length node.children) s) same (fits node found)
