-- One instant behind another: the parts of all nodes go on, one node at a time.
use Rattle.std.proofs.Common.{◌≡◌, ◌<◌, ◌≤◌, ◌+◌, ◌∙◌, ◌%◌, ℕ, zero, suc, Some, None, List, [], ◌∷◌, length, get_or, slice_get, Bool, true, false, cond, arith, refl, ap, sym, subst, nat_eq, inl, inr, Contains}
use Rattle.std.specs.Prelude.{is_some, ◌&&◌, ◌||◌}
use Rattle.std.specs.List.{list_any}
use Rattle.std.proofs.lemmas.Bool.{false≢true, true≢false, cases_lt, eq-eqb}
use Rattle.std.proofs.lemmas.Option.{none-some, slice_get_within, slice_get-get_or}
use Rattle.std.proofs.lemmas.List.{get_or_past}
use Rattle.plan_core.specs.declared.node.Node.{Node}
use Rattle.liq_base.specs.declared.memory.Kind.TheVariants.{Mono}
use Rattle.plan_core.specs.declared.node.Op.TheVariants.{Fail}
use Rattle.plan_core.specs.Plans.{AreNodes}
use Rattle.plan_core.proofs.Paths.{child_below}
use Rattle.clock_infer.specs.declared.clock_map.NodeClock.{NodeClock}
use Rattle.clock_infer.proofs.Exact.{there_more}
use Rattle.frame_core.specs.Slots.{Slot, slot_at, is_first, is_inner}
use Rattle.op_cross.specs.Runs.{item_of}
use Rattle.op_leaf.specs.Leaves.{leaf_slot}
use Rattle.frame_core.specs.Calls.{Answer}
use Rattle.op_leaf.specs.Readers.{reader_slot}
use Rattle.op_select.specs.Selection.{goes_on, picked}
use Rattle.stream_meaning.specs.declared.part.Part.{Part}
use Rattle.stream_meaning.specs.Operators.{Work, Plays, Picks, Mixes, Fades, Reads, child_used, marks_at}
use Rattle.stream_meaning.specs.Instants.{Setting, Moment, Reading, child_at, choices, gives_before, demanded, gives, is_root, last_pick, lies_in, moment_after, offer, offering, part_at, part_by, parts_upto, picked_part, position, reading_after, reading_at, second_at, silent, slots_at, started, uses_by, uses_from, work_at}
use Rattle.stretch_laws.specs.Steady.{Follows, AllFollow}
use Rattle.stretch_laws.specs.Stretches.{IsLike, IsNode, IsOn, IsStretch}
use Rattle.stretch_laws.proofs.Staying.{follow_length, none_follows}
use Rattle.stretch_laws.proofs.Demanding.{demands_same, used_demanded}
use Rattle.stretch_laws.proofs.Parts.{other_part, own_part, part_past, part_stays, uses_at, uses_long}
use Rattle.stretch_laws.proofs.Works.{KeptPart, NoneBegins, and_right, inner_first, kept_alone, mix_kept, pick_offers_there, used_kept}

-- children that stand below a node
abbrev pub AreBelow : ℕ → List ℕ → Type 0
AreBelow i [] = Unit {0}
AreBelow i (child ∷ children) = (child < i) × AreBelow i children

pub below_from : (i : ℕ) (children : List ℕ) → ((child : ℕ) → Contains children child → child < i) → AreBelow i children
below_from i [] each = tt
below_from i (child ∷ children) each = (each child (0, omega arith, refl), below_from i children (λ other among. each other (there_more child children other among)))

pub child_is_below : (i : ℕ) (children : List ℕ) (place child : ℕ) → AreBelow i children → slice_get children place ≡ Some child → child < i
child_is_below i [] place child below at = absurd (none-some child at)
child_is_below i (c ∷ children) zero child (here, below) at = (let same : c ≡ child = cc in subst (λ n. n < i) same here)
child_is_below i (c ∷ children) (suc place) child (here, below) at = child_is_below i children place child below at

all_follow : (before after : List Part) (i : ℕ) (children : List ℕ) → AreBelow i children
    → ((c : ℕ) → c < i → Follows (part_at before c).slot (part_at after c).slot) → AllFollow (slots_at before children) (slots_at after children)
all_follow before after i [] below each = tt
all_follow before after i (c ∷ children) (here, below) each = (each c here, all_follow before after i children below each)

pub slot_is : (parts : List Part) (children : List ℕ) (place child : ℕ) → slice_get children place ≡ Some child → slot_at (slots_at parts children) place ≡ (part_at parts child).slot
slot_is parts [] place child at = absurd (none-some child at)
slot_is parts (c ∷ children) zero child at = (let same : c ≡ child = cc in ap (λ n. (part_at parts n).slot) same)
slot_is parts (c ∷ children) (suc place) child at = slot_is parts children place child at

-- a place of a child that offers
pub place_is : (parts : List Part) (children : List ℕ) (place : ℕ) → is_some (slot_at (slots_at parts children) place) ≡ true → (child : ℕ) × (slice_get children place ≡ Some child)
place_is parts [] place is = absurd (false≢true is)
place_is parts (c ∷ children) zero is = (c, refl)
place_is parts (c ∷ children) (suc place) is = place_is parts children place is

here_used : (n : ℕ) (rest : List ℕ) → list_any (nat_eq n) (n ∷ rest) ≡ true
here_used n rest = ap (λ b. b || list_any (nat_eq n) rest) (eq-eqb n n refl)

or_right : (a b : Bool) → b ≡ true → (a || b) ≡ true
or_right true b e = refl
or_right false b e = e

pub offered_more : (parts : List Part) (c : ℕ) (children : List ℕ) (now : Bool) → is_some (part_at parts c).slot ≡ now → (n : ℕ)
    → list_any (nat_eq n) (offering parts children) ≡ true → list_any (nat_eq n) (offering parts (c ∷ children)) ≡ true
offered_more parts c children true e n u = rw e (or_right (nat_eq n c) (list_any (nat_eq n) (offering parts children)) u)
offered_more parts c children false e n u = rw e u

pub offered_first : (parts : List Part) (c : ℕ) (children : List ℕ) → is_some (part_at parts c).slot ≡ true → list_any (nat_eq c) (offering parts (c ∷ children)) ≡ true
offered_first parts c children e = rw e (here_used c (offering parts children))

-- what offers among the children is used by a mix
none_begins : (parts after : List Part) (i : ℕ) (children : List ℕ) (P : ℕ → Type 0) → AreBelow i children
    → ((c : ℕ) → list_any (nat_eq c) (offering parts children) ≡ true → P c)
    → ((c : ℕ) → c < i → is_some (part_at parts c).slot ≡ true → P c → is_first (part_at after c).slot ≡ false)
    → ((c : ℕ) → c < i → is_some (part_at parts c).slot ≡ false → is_first (part_at after c).slot ≡ false)
    → NoneBegins (slots_at after children)
none_begins parts after i [] P below used offers none = tt
none_begins parts after i (c ∷ children) P (here, below) used offers none = (
  by (is_some (part_at parts c).slot) refl,
  none_begins parts after i children P below (λ n u. used n (offered_more parts c children (is_some (part_at parts c).slot) refl n u)) offers none,
)
  where
    by : (now : Bool) → is_some (part_at parts c).slot ≡ now → is_first (part_at after c).slot ≡ false
    by true e = offers c here e (used c (offered_first parts c children e))
    by false e = none c here e

-- presence alone tells what offers
offering_same : (before after : List Part) (i : ℕ) (children : List ℕ) → AreBelow i children
    → ((c : ℕ) → c < i → is_some (part_at after c).slot ≡ is_some (part_at before c).slot) → offering after children ≡ offering before children
offering_same before after i [] below same = refl
offering_same before after i (c ∷ children) (here, below) same =
    ap (λ now. cond now (c ∷ offering after children) (offering after children)) (same c here)
    ∙ ap (λ rest. cond (is_some (part_at before c).slot) (c ∷ rest) rest) (offering_same before after i children below same)

-- where no tick begins a reader stays
pub no_tick : (answers : List Answer) (reading : Reading) (begins : Bool) → begins ≡ false → cond begins (started answers reading) reading ≡ reading
no_tick answers reading true e = absurd (true≢false e)
no_tick answers reading false e = refl

-- any node
no_node : Node
no_node = record { op = Fail; kind = Mono; children = [] }

and_left : (a b : Bool) → (a && b) ≡ true → a ≡ true
and_left true b e = refl
and_left false b e = e

pub at_place : (children : List ℕ) (place child : ℕ) → slice_get children place ≡ Some child → child_at children (Some place) ≡ child ∷ []
at_place children place child at = rw at refl

pub one_used : (child : ℕ) → list_any (nat_eq child) (child ∷ []) ≡ true
one_used child = ap (λ b. b || false) (eq-eqb child child refl)

module _ (setting : Setting) (sub : ℕ → ℕ → List Slot) (clock : NodeClock) (past later : List Moment) (instants j : ℕ) (nodes : AreNodes setting.plan.nodes)
    (stretch : IsStretch setting sub clock past instants) (some : 0 < j) (within : j < instants) (on : IsOn setting sub clock past j later) where
  abbrev All : ℕ
  All = length setting.plan.nodes

  abbrev First : Moment
  First = moment_after setting sub clock past

  abbrev Before : ℕ → List Part
  Before n = parts_upto setting sub clock past n

  abbrev After : ℕ → List Part
  After n = parts_upto setting sub clock later n

  abbrev Kept : ℕ → Type 0
  Kept i = KeptPart (demanded First i) (part_at (Before All) i) (part_at (After All) i)

  -- a node outside the clock
  outside : (i : ℕ) (node : Node) → i < All → slice_get setting.plan.nodes i ≡ Some node → lies_in setting clock i ≡ false → Kept i
  outside i node low there out =
      subst (λ p. KeptPart (demanded First i) p (part_at (After All) i)) (sym (other_part setting sub clock past All i node low there out))
      (subst (λ p. KeptPart (demanded First i) silent p) (sym (other_part setting sub clock later All i node low there out))
      (record { slot = none_follows; pick = λ d. refl; inner = λ g. absurd (false≢true (and_right (demanded First i) false g)) }))

  module _ (i : ℕ) (node : Node) (is : IsNode setting clock i node) (below : (c : ℕ) → c < i → Kept c) where
    low : i < All
    low = slice_get_within setting.plan.nodes i node is.there

    are_below : AreBelow i node.children
    are_below = below_from i node.children (λ child among. child_below setting.plan.nodes i child node nodes is.there among)

    abbrev Slots : List Slot
    Slots = slots_at (Before i) node.children

    abbrev Others : List Slot
    Others = slots_at (After i) node.children

    before_is : (c : ℕ) → c < i → part_at (Before i) c ≡ part_at (Before All) c
    before_is c under = part_stays setting sub clock past i All c under (let l = low in omega (arith, l, under))

    after_is : (c : ℕ) → c < i → part_at (After i) c ≡ part_at (After All) c
    after_is c under = part_stays setting sub clock later i All c under (let l = low in omega (arith, l, under))

    follows : (c : ℕ) → c < i → Follows (part_at (Before i) c).slot (part_at (After i) c).slot
    follows c under =
        subst (λ (p : Part). Follows p.slot (part_at (After i) c).slot) (sym (before_is c under))
        (subst (λ (p : Part). Follows (part_at (Before All) c).slot p.slot) (sym (after_is c under)) (below c under).slot)

    children_follow : AllFollow Slots Others
    children_follow = all_follow (Before i) (After i) i node.children are_below follows

    -- what a demanded node uses is demanded
    used : demanded First i ≡ true → (c : ℕ) → c < i → list_any (nat_eq c) (uses_by (Before All) (work_at setting i node) node.children (part_at (Before All) i).pick) ≡ true
        → demanded First c ≡ true
    used d c under u =
        let e : 0 + i ≡ i = omega arith in
        let f : 0 + c ≡ c = omega arith in
        let uses : get_or (uses_from setting (Before All) 0 setting.plan.nodes) i [] ≡ uses_by (Before All) (work_at setting i node) node.children (part_at (Before All) i).pick =
        uses_at setting (Before All) 0 i setting.plan.nodes node is.there
        ∙ ap (λ k. uses_by (Before All) (work_at setting k node) node.children (part_at (Before All) k).pick) e in
        used_demanded (λ k. lies_in setting clock k && is_root setting clock k) 0 (uses_from setting (Before All) 0 setting.plan.nodes) i c d under
        (subst (λ n. list_any (nat_eq n) (get_or (uses_from setting (Before All) 0 setting.plan.nodes) i []) ≡ true) (sym f) (ap (list_any (nat_eq c)) uses ∙ u))

    -- a child that is demanded and offers goes on with its track
    goes : (c : ℕ) → c < i → demanded First c ≡ true → is_some (part_at (Before All) c).slot ≡ true → is_inner (part_at (After i) c).slot ≡ true
    goes c under d offers =
        subst (λ (p : Part). is_inner p.slot ≡ true) (sym (after_is c under)) ((below c under).inner (both (demanded First c) (is_some (part_at (Before All) c).slot) d offers))
      where
        both : (a b : Bool) → a ≡ true → b ≡ true → (a && b) ≡ true
        both true b d e = e
        both false b d e = absurd (false≢true d)

    by_work : (work : Work) → work_at setting i node ≡ work
        → (part_at (Before All) i ≡ part_by setting sub past i work Slots)
        → KeptPart (demanded First i) (part_by setting sub past i work Slots) (part_by setting sub later i work Others)
    by_work (Plays leaf) at same =
        let g : gives First i ≡ (demanded First i && is_some (leaf_slot setting.library leaf (gives_before past i))) = ap (λ (p : Part). demanded First i && is_some p.slot) same in
        kept_alone (demanded First i) (leaf_slot setting.library leaf (gives_before past i)) (leaf_slot setting.library leaf (gives_before later i))
        (λ e. ap (λ n. is_inner (leaf_slot setting.library leaf n)) (on.given i (g ∙ e)) ∙ stretch.leaves i node leaf j is at some within (g ∙ e))
        (λ e. ap (leaf_slot setting.library leaf) (on.kept i (g ∙ e)))
    by_work (Fades overlap) at same =
        let o : is_some (offer First i) ≡ is_some (item_of overlap (sub i) (position past i)) = ap (λ (p : Part). is_some p.slot) same in
        let g : gives First i ≡ (demanded First i && is_some (item_of overlap (sub i) (position past i))) = ap (λ now. demanded First i && now) o in
        kept_alone (demanded First i) (item_of overlap (sub i) (position past i)) (item_of overlap (sub i) (position later i))
        (λ e. ap (λ n. is_inner (item_of overlap (sub i) n)) (on.passed i (g ∙ e)) ∙ stretch.settled i node overlap j is at some within (g ∙ e))
        (λ e. ap (item_of overlap (sub i)) (on.held i (g ∙ e) (stretch.items i node overlap j is at some within)))
    by_work (Reads buffer) at same =
        let g : gives First i ≡ (demanded First i && is_some (reader_slot (reading_at setting buffer (length past) (reading_after setting i buffer past)).reader)) =
        ap (λ (p : Part). demanded First i && is_some p.slot) same in
        let stays : reading_at setting buffer (length later) (reading_after setting i buffer later) ≡ reading_after setting i buffer later =
        no_tick (setting.answers buffer) (reading_after setting i buffer later) (nat_eq (length later % setting.plan.frame) 0)
        (ap (λ n. nat_eq (n % setting.plan.frame) 0) on.long ∙ stretch.ticks i node buffer j is at some within) in
        kept_alone (demanded First i) (reader_slot (reading_at setting buffer (length past) (reading_after setting i buffer past)).reader)
        (reader_slot (reading_at setting buffer (length later) (reading_after setting i buffer later)).reader)
        (λ e. ap (λ (r : Reading). is_inner (reader_slot r.reader)) stays ∙ ap (λ r. is_inner (reader_slot r)) (on.read i node buffer is at some (g ∙ e)) ∙ stretch.readers i node buffer j is at some within (g ∙ e))
        (λ e. ap (λ (r : Reading). reader_slot r.reader) stays ∙ ap reader_slot (on.unread i node buffer is at some (g ∙ e)))
    by_work (Mixes mixing) at same =
        mix_kept (demanded First i) mixing Slots Others children_follow (λ d.
        none_begins (Before All) (After i) i node.children (λ c. c < i → demanded First c ≡ true) are_below
        (λ c u under. used d c under (ap (λ work. list_any (nat_eq c) (uses_by (Before All) work node.children (part_at (Before All) i).pick)) at ∙ u))
        (λ c under offers dem. inner_first (part_at (After i) c).slot (goes c under (dem under) offers))
        (λ c under none. no_first (part_at (After i) c).slot ((follows c under).there ∙ ap (λ (p : Part). is_some p.slot) (before_is c under) ∙ none)))
      where
        no_first : (slot : Slot) → is_some slot ≡ false → is_first slot ≡ false
        no_first None e = refl
        no_first (Some cell) e = absurd (true≢false e)
    by_work (Picks choice eligible) at same =
        let marks : marks_at eligible (second_at setting (length later)) (length Others) ≡ marks_at eligible (second_at setting (length past)) (length Slots) =
        ap (λ n. marks_at eligible (second_at setting n) (length Others)) on.long
        ∙ stretch.marks i node choice eligible j (length Others) is at some within
        ∙ ap (marks_at eligible (second_at setting (length past))) (follow_length Slots Others children_follow) in
        let g : gives First i ≡ (demanded First i && is_some (part_by setting sub past i (Picks choice eligible) Slots).slot) = ap (λ (p : Part). demanded First i && is_some p.slot) same in
        subst (λ marked. KeptPart (demanded First i) (part_by setting sub past i (Picks choice eligible) Slots)
        (picked_part (picked Others (last_pick later i) (child_used choice Others marked (last_pick later i) (choices later i))))) (sym marks)
        (used_kept (demanded First i) choice Slots Others (marks_at eligible (second_at setting (length past)) (length Slots)) (last_pick past i) (last_pick later i) (choices past i) (choices later i) children_follow
        (stretch.free i node choice eligible j is at some within)
        (λ e. on.stayed i (g ∙ e))
        (λ e. on.unchosen i (g ∙ e))
        (λ e. on.picked i (g ∙ e) some ∙ ap (λ (p : Part). p.pick) same)
        (λ e place pick. played place (pick_there place pick) (g ∙ e) pick))
      where
        pick_there : (place : ℕ) → (part_by setting sub past i (Picks choice eligible) Slots).pick ≡ Some place → is_some (slot_at Slots place) ≡ true
        pick_there place pick =
            pick_offers_there Slots (last_pick past i) (child_used choice Slots (marks_at eligible (second_at setting (length past)) (length Slots)) (last_pick past i) (choices past i)) place pick

        played : (place : ℕ) → is_some (slot_at Slots place) ≡ true → gives First i ≡ true → (part_by setting sub past i (Picks choice eligible) Slots).pick ≡ Some place → goes_on Others place ≡ true
        played place offers gave pick =
            let found = place_is (Before i) node.children place offers in
            let child : ℕ = found.0 in
            let under : child < i = child_is_below i node.children place child are_below found.1 in
            let shown : is_some (part_at (Before i) child).slot ≡ true = ap is_some (sym (slot_is (Before i) node.children place child found.1)) ∙ offers in
            let uses : uses_by (Before All) (work_at setting i node) node.children (part_at (Before All) i).pick ≡ child ∷ [] =
            ap (λ work. uses_by (Before All) work node.children (part_at (Before All) i).pick) at ∙ ap (λ (p : Part). child_at node.children p.pick) same
            ∙ ap (child_at node.children) pick ∙ at_place node.children place child found.1 in
            let dem : demanded First child ≡ true = used (and_left (demanded First i) (is_some (offer First i)) gave) child under (ap (list_any (nat_eq child)) uses ∙ one_used child) in
            let inner : is_inner (part_at (After i) child).slot ≡ true = goes child under dem (ap (λ (p : Part). is_some p.slot) (sym (before_is child under)) ∙ shown) in
            ap is_inner (slot_is (After i) node.children place child found.1) ∙ inner

    kept : Kept i
    kept =
        let b : part_at (Before All) i ≡ part_by setting sub past i (work_at setting i node) Slots = own_part setting sub clock past All i node low is in
        subst (λ p. KeptPart (demanded First i) p (part_at (After All) i)) (sym b)
        (subst (λ p. KeptPart (demanded First i) (part_by setting sub past i (work_at setting i node) Slots) p) (sym (own_part setting sub clock later All i node low is))
        (by_work (work_at setting i node) refl b))

  node_kept : (i : ℕ) → i < All → ((c : ℕ) → c < i → Kept c) → Kept i
  node_kept i low below = by (lies_in setting clock i) refl
    where
      by : (inside : Bool) → lies_in setting clock i ≡ inside → Kept i
      by true e = kept i (get_or setting.plan.nodes i no_node) (record { there = slice_get-get_or setting.plan.nodes i no_node low; inside = e }) below
      by false e = outside i (get_or setting.plan.nodes i no_node) low (slice_get-get_or setting.plan.nodes i no_node low) e

  all_kept : (n : ℕ) → n ≤ All → (i : ℕ) → i < n → Kept i
  all_kept zero within i low = absurd (omega (arith, low))
  all_kept (suc n) within i low = elim (cases_lt i n) [
    | inl less ↦ all_kept n (omega (arith, within)) i less
    | inr high ↦ (let e : n ≡ i = omega (arith, low, high) in
        subst Kept e (node_kept n (omega (arith, within)) (λ c under. all_kept n (omega (arith, within)) c under)))
  ]

  all_there : (i : ℕ) → Follows (part_at (Before All) i).slot (part_at (After All) i).slot
  all_there i = elim (cases_lt i All) [
    | inl low ↦ (all_kept All (omega arith) i low).slot
    | inr high ↦ subst (λ (p : Part). Follows p.slot (part_at (After All) i).slot) (sym (part_past setting sub clock past i high))
        (subst (λ (p : Part). Follows silent.slot p.slot) (sym (part_past setting sub clock later i high)) none_follows)
  ]

  -- the demanded nodes use the same children
  uses_same : (k : ℕ) → demanded First k ≡ true → get_or (uses_from setting (After All) 0 setting.plan.nodes) k [] ≡ get_or (uses_from setting (Before All) 0 setting.plan.nodes) k []
  uses_same k d = elim (cases_lt k All) [
    | inl low ↦ by_node (get_or setting.plan.nodes k no_node) (slice_get-get_or setting.plan.nodes k no_node low) low
    | inr high ↦ get_or_past (uses_from setting (After All) 0 setting.plan.nodes) k [] (let long = uses_long setting (After All) 0 setting.plan.nodes in omega (arith, long, high))
        ∙ sym (get_or_past (uses_from setting (Before All) 0 setting.plan.nodes) k [] (let long = uses_long setting (Before All) 0 setting.plan.nodes in omega (arith, long, high)))
  ]
    where
      e : 0 + k ≡ k
      e = omega arith

      by_use : (work : Work) (node : Node) → slice_get setting.plan.nodes k ≡ Some node → k < All
          → uses_by (After All) work node.children (part_at (After All) k).pick ≡ uses_by (Before All) work node.children (part_at (Before All) k).pick
      by_use (Plays leaf) node there low = refl
      by_use (Picks choice eligible) node there low = ap (child_at node.children) ((all_kept All (omega arith) k low).pick d)
      by_use (Mixes mixing) node there low = offering_same (Before All) (After All) k node.children
          (below_from k node.children (λ child among. child_below setting.plan.nodes k child node nodes there among)) (λ c under. (all_there c).there)
      by_use (Fades overlap) node there low = refl
      by_use (Reads buffer) node there low = refl

      by_node : (node : Node) → slice_get setting.plan.nodes k ≡ Some node → k < All
          → get_or (uses_from setting (After All) 0 setting.plan.nodes) k [] ≡ get_or (uses_from setting (Before All) 0 setting.plan.nodes) k []
      by_node node there low =
          uses_at setting (After All) 0 k setting.plan.nodes node there
          ∙ ap (λ n. uses_by (After All) (work_at setting n node) node.children (part_at (After All) n).pick) e
          ∙ by_use (work_at setting k node) node there low
          ∙ sym (uses_at setting (Before All) 0 k setting.plan.nodes node there ∙ ap (λ n. uses_by (Before All) (work_at setting n node) node.children (part_at (Before All) n).pick) e)

  pub is_like : IsLike First (moment_after setting sub clock later)
  is_like = record {
    demands = demands_same (λ k. lies_in setting clock k && is_root setting clock k) 0 (uses_from setting (Before All) 0 setting.plan.nodes) (uses_from setting (After All) 0 setting.plan.nodes)
        (uses_long setting (After All) 0 setting.plan.nodes ∙ sym (uses_long setting (Before All) 0 setting.plan.nodes)) uses_same;
    slots = all_there;
    picks = λ i d. elim (cases_lt i All) [
      | inl low ↦ (all_kept All (omega arith) i low).pick d
      | inr high ↦ ap (λ (p : Part). p.pick) (part_past setting sub clock later i high ∙ sym (part_past setting sub clock past i high))
    ];
    inner = λ i g. elim (cases_lt i All) [
      | inl low ↦ (all_kept All (omega arith) i low).inner g
      | inr high ↦ absurd (false≢true (ap (λ (p : Part). is_some p.slot) (sym (part_past setting sub clock past i high)) ∙ and_right (demanded First i) (is_some (offer First i)) g))
    ];
  }
