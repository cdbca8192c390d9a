-- Over a stretch a node that gives keeps its title.
use Rattle.std.proofs.Common.{◌≡◌, ◌<◌, ◌+◌, ◌∙◌, ℕ, zero, suc, Some, None, Option, List, [], ◌∷◌, length, map, get_or, slice_get, Bool, true, false, arith, refl, ap, sym, subst, nat_eq, inl, inr}
use Rattle.std.specs.Prelude.{is_some, ◌&&◌}
use Rattle.std.specs.List.{list_any}
use Rattle.std.proofs.lemmas.Bool.{false≢true, cases_lt}
use Rattle.std.proofs.lemmas.Option.{slice_get_within, slice_get-get_or}
use Rattle.liq_base.specs.declared.memory.Kind.TheVariants.{Mono}
use Rattle.plan_core.specs.declared.node.Node.{Node}
use Rattle.plan_core.specs.declared.node.Op.TheVariants.{Fail}
use Rattle.plan_core.specs.Plans.{AreNodes}
use Rattle.plan_core.proofs.Paths.{child_below}
use Rattle.clock_infer.specs.declared.clock_map.NodeClock.{NodeClock}
use Rattle.frame_core.specs.Slots.{Slot, slot_at, title_of}
use Rattle.op_select.specs.declared.rule.Picked.{Picked}
use Rattle.op_select.specs.Selection.{picked}
use Rattle.stream_meaning.specs.declared.part.Part.{Part}
use Rattle.stream_meaning.specs.Arithmetic.{Mixing, Adds, Scales, Halves, Doubles, Passes, mix_slot}
use Rattle.stream_meaning.specs.Operators.{Work, Plays, Picks, Mixes, Fades, Reads, child_used, marks_at}
use Rattle.stream_meaning.specs.Instants.{Setting, Moment, choices, demanded, gives, is_root, last_pick, lies_in, moment_after, offer, offering, part_at, parts_upto, picked_part, second_at, slots_at, uses_by, uses_from, work_at}
use Rattle.stretch_laws.specs.Stretches.{IsNode, IsStretch, KeepsTitle, lane}
use Rattle.stretch_laws.proofs.Staying.{picked-none, picked-some}
use Rattle.stretch_laws.proofs.Demanding.{used_demanded}
use Rattle.stretch_laws.proofs.Parts.{other_part, part_past, part_stays, uses_at}
use Rattle.stretch_laws.proofs.Works.{and_right}
use Rattle.stretch_laws.proofs.Following.{AreBelow, at_place, below_from, child_is_below, offered_first, offered_more, one_used, place_is, slot_is}
use Rattle.stretch_laws.proofs.Stretching.{alike_all}
use Rattle.stretch_laws.proofs.Laning.{chosen, faded, mixed, part_works, played, read}

and_left : (a b : Bool) → (a && b) ≡ true → a ≡ true
and_left true b e = refl
and_left false b e = e

both : (a b : Bool) → a ≡ true → b ≡ true → (a && b) ≡ true
both true b d e = e
both false b d e = absurd (false≢true d)

-- ---- the title of a mix

-- the title of the first cell among these slots
abbrev front_title : List Slot → ℕ
front_title [] = 0
front_title (None ∷ slots) = front_title slots
front_title (Some cell ∷ slots) = cell.title

mix_title : (mixing : Mixing) (slots : List Slot) → title_of (mix_slot mixing slots) ≡ front_title slots
mix_title (Adds normalize) [] = refl
mix_title (Adds normalize) (None ∷ slots) = mix_title (Adds normalize) slots
mix_title (Adds normalize) (Some cell ∷ slots) = refl
mix_title (Scales millionths) [] = refl
mix_title (Scales millionths) (None ∷ slots) = mix_title (Scales millionths) slots
mix_title (Scales millionths) (Some cell ∷ slots) = refl
mix_title Halves [] = refl
mix_title Halves (None ∷ slots) = mix_title Halves slots
mix_title Halves (Some cell ∷ slots) = refl
mix_title Doubles [] = refl
mix_title Doubles (None ∷ slots) = mix_title Doubles slots
mix_title Doubles (Some cell ∷ slots) = refl
mix_title Passes [] = refl
mix_title Passes (None ∷ slots) = mix_title Passes slots
mix_title Passes (Some cell ∷ slots) = refl

front_some : (slot : Slot) (slots : List Slot) → is_some slot ≡ true → front_title (slot ∷ slots) ≡ title_of slot
front_some None slots e = absurd (false≢true e)
front_some (Some cell) slots e = refl

front_none : (slot : Slot) (slots : List Slot) → is_some slot ≡ false → front_title (slot ∷ slots) ≡ front_title slots
front_none None slots e = refl
front_none (Some cell) slots e = absurd (false≢true (sym e))

-- children of which the same offer, and keep their titles where a mix uses them
titles_same : (f : ℕ → Slot) (parts : List Part) (i : ℕ) (children : List ℕ) (P : ℕ → Type 0) → AreBelow i children
    → ((c : ℕ) → list_any (nat_eq c) (offering parts children) ≡ true → P c)
    → ((c : ℕ) → is_some (f c) ≡ is_some (part_at parts c).slot)
    → ((c : ℕ) → c < i → is_some (part_at parts c).slot ≡ true → P c → title_of (f c) ≡ title_of (part_at parts c).slot)
    → front_title (map f children) ≡ front_title (map (λ c. (part_at parts c).slot) children)
titles_same f parts i [] P below used there kept = refl
titles_same f parts i (c ∷ children) P (here, below) used there kept =
    by (is_some (part_at parts c).slot) refl
    (titles_same f parts i children P below (λ n u. used n (offered_more parts c children (is_some (part_at parts c).slot) refl n u)) there kept)
  where
    by : (now : Bool) → is_some (part_at parts c).slot ≡ now → front_title (map f children) ≡ front_title (map (λ c. (part_at parts c).slot) children)
        → front_title (f c ∷ map f children) ≡ front_title ((part_at parts c).slot ∷ map (λ c. (part_at parts c).slot) children)
    by true e rest =
        front_some (f c) (map f children) (there c ∙ e) ∙ kept c here e (used c (offered_first parts c children e))
        ∙ sym (front_some (part_at parts c).slot (map (λ c. (part_at parts c).slot) children) e)
    by false e rest =
        front_none (f c) (map f children) (there c ∙ e) ∙ rest ∙ sym (front_none (part_at parts c).slot (map (λ c. (part_at parts c).slot) children) e)

-- ---- the title of a choice

-- what is picked has its child's title
pub record HasPicked (slots : List Slot) (part : Part) : Type 0 where
  pub place : ℕ
  pub pick_is : part.pick ≡ Some place
  pub there : is_some (slot_at slots place) ≡ true
  pub title : title_of part.slot ≡ title_of (slot_at slots place)

picked_title : (slots : List Slot) (last pick : Option ℕ) → is_some (picked_part (picked slots last pick)).slot ≡ true → HasPicked slots (picked_part (picked slots last pick))
picked_title slots last None some = absurd (false≢true some)
picked_title slots last (Some child) some = by (slot_at slots child) refl
  where
    by : (slot : Slot) → slot_at slots child ≡ slot → HasPicked slots (picked_part (picked slots last (Some child)))
    by None at = absurd (false≢true (ap (λ (found : Option Picked). is_some (picked_part found).slot) (sym (picked-none slots last child at)) ∙ some))
    by (Some cell) at = record {
      place = child;
      pick_is = ap (λ (found : Option Picked). (picked_part found).pick) (picked-some slots last child cell at);
      there = ap is_some at;
      title = ap (λ (found : Option Picked). title_of (picked_part found).slot) (picked-some slots last child cell at) ∙ sym (ap title_of at);
    }

-- ---- one node after another

no_node : Node
no_node = record { op = Fail; kind = Mono; children = [] }

module _ (setting : Setting) (sub : ℕ → ℕ → List Slot) (clock : NodeClock) (past : List Moment) where
  abbrev All : ℕ
  All = length setting.plan.nodes

  abbrev First : Moment
  First = moment_after setting sub clock past

  abbrev Parts : List Part
  Parts = parts_upto setting sub clock past All

  -- what a demanded node uses is demanded
  used : (i : ℕ) (node : Node) → slice_get setting.plan.nodes i ≡ Some node → demanded First i ≡ true → (c : ℕ) → c < i
      → list_any (nat_eq c) (uses_by Parts (work_at setting i node) node.children (part_at Parts i).pick) ≡ true → demanded First c ≡ true
  used i node there d c under u =
      let e : 0 + i ≡ i = omega arith in
      let f : 0 + c ≡ c = omega arith in
      let uses : get_or (uses_from setting Parts 0 setting.plan.nodes) i [] ≡ uses_by Parts (work_at setting i node) node.children (part_at Parts i).pick =
      uses_at setting Parts 0 i setting.plan.nodes node there
      ∙ ap (λ k. uses_by Parts (work_at setting k node) node.children (part_at Parts k).pick) e in
      used_demanded (λ k. lies_in setting clock k && is_root setting clock k) 0 (uses_from setting Parts 0 setting.plan.nodes) i c d under
      (subst (λ n. list_any (nat_eq n) (get_or (uses_from setting Parts 0 setting.plan.nodes) i []) ≡ true) (sym f) (ap (list_any (nat_eq c)) uses ∙ u))

  -- a node that gives lies in the clock
  node_at : (i : ℕ) → gives First i ≡ true → (node : Node) × IsNode setting clock i node
  node_at i gave = elim (cases_lt i All) [
    | inl low ↦ by low (lies_in setting clock i) refl
    | inr high ↦ absurd (false≢true (ap (λ (p : Part). is_some p.slot) (sym (part_past setting sub clock past i high)) ∙ and_right (demanded First i) (is_some (offer First i)) gave))
  ]
    where
      by : i < All → (inside : Bool) → lies_in setting clock i ≡ inside → (node : Node) × IsNode setting clock i node
      by low true e = (get_or setting.plan.nodes i no_node, record { there = slice_get-get_or setting.plan.nodes i no_node low; inside = e })
      by low false e =
          absurd (false≢true (ap (λ (p : Part). is_some p.slot)
          (sym (other_part setting sub clock past All i (get_or setting.plan.nodes i no_node) low (slice_get-get_or setting.plan.nodes i no_node low) e))
          ∙ and_right (demanded First i) (is_some (offer First i)) gave))

module _ (setting : Setting) (sub : ℕ → ℕ → List Slot) (clock : NodeClock) (past : List Moment) (instants j : ℕ) (nodes : AreNodes setting.plan.nodes)
    (stretch : IsStretch setting sub clock past instants) (some : 0 < j) (within : j < instants) where
  abbrev Now : Moment
  Now = moment_after setting sub clock past

  abbrev Is : List Part
  Is = parts_upto setting sub clock past (length setting.plan.nodes)

  abbrev Keeps : ℕ → Type 0
  Keeps i = gives Now i ≡ true → title_of (lane setting sub clock past j i) ≡ title_of (offer Now i)

  module _ (i : ℕ) (node : Node) (is : IsNode setting clock i node) (below : (c : ℕ) → c < i → Keeps c) (gave : gives Now i ≡ true) where
    low : i < length setting.plan.nodes
    low = slice_get_within setting.plan.nodes i node is.there

    wanted : demanded Now i ≡ true
    wanted = and_left (demanded Now i) (is_some (offer Now i)) gave

    are_below : AreBelow i node.children
    are_below = below_from i node.children (λ child among. child_below setting.plan.nodes i child node nodes is.there among)

    by_work : (work : Work) → work_at setting i node ≡ work → title_of (lane setting sub clock past j i) ≡ title_of (offer Now i)
    by_work (Plays leaf) at =
        ap title_of (played setting sub clock past instants nodes stretch i node is leaf j at within gave)
        ∙ subst (λ w. KeepsTitle setting sub past i w j (title_of (offer Now i))) at (stretch.titles i node j is some within gave)
    by_work (Fades overlap) at =
        ap title_of (faded setting sub clock past instants nodes stretch i node is overlap j at within gave)
        ∙ subst (λ w. KeepsTitle setting sub past i w j (title_of (offer Now i))) at (stretch.titles i node j is some within gave)
    by_work (Reads buffer) at =
        ap title_of (read setting sub clock past instants nodes stretch i node is buffer j at some within gave)
        ∙ subst (λ w. KeepsTitle setting sub past i w j (title_of (offer Now i))) at (stretch.titles i node j is some within gave)
    by_work (Mixes mixing) at =
        let like = alike_all setting sub clock past instants nodes stretch j some within in
        ap title_of (mixed setting sub clock past instants nodes stretch i node is mixing j at)
        ∙ mix_title mixing (map (lane setting sub clock past j) node.children)
        ∙ titles_same (lane setting sub clock past j) Is i node.children (λ c. c < i → demanded Now c ≡ true) are_below
        (λ c u under. used setting sub clock past i node is.there wanted c under
        (subst (λ w. list_any (nat_eq c) (uses_by Is w node.children (part_at Is i).pick) ≡ true) (sym at) u))
        (λ c. (like.slots c).there)
        (λ c under offers d. below c under (both (demanded Now c) (is_some (offer Now c)) (d under) offers))
        ∙ sym (mix_title mixing (map (λ c. (part_at Is c).slot) node.children))
        ∙ sym (ap title_of (mixed setting sub clock past instants nodes stretch i node is mixing 0 at))
    by_work (Picks choice eligible) at =
        let slots = slots_at (parts_upto setting sub clock past i) node.children in
        let marks = marks_at eligible (second_at setting (length past)) (length slots) in
        let pick = child_used choice slots marks (last_pick past i) (choices past i) in
        let part : part_at Is i ≡ picked_part (picked slots (last_pick past i) pick) = part_works setting sub clock past instants nodes stretch i node is 0 (Picks choice eligible) at in
        let found = picked_title slots (last_pick past i) pick
        (ap (λ (p : Part). is_some p.slot) (sym part) ∙ and_right (demanded Now i) (is_some (offer Now i)) gave) in
        let pick_is : (part_at Is i).pick ≡ Some found.place = ap (λ (p : Part). p.pick) part ∙ found.pick_is in
        let child = place_is (parts_upto setting sub clock past i) node.children found.place found.there in
        let under : child.0 < i = child_is_below i node.children found.place child.0 are_below child.1 in
        let stays : part_at (parts_upto setting sub clock past i) child.0 ≡ part_at Is child.0 =
        part_stays setting sub clock past i (length setting.plan.nodes) child.0 under (let l = low in omega (arith, l, under)) in
        let slot : slot_at slots found.place ≡ offer Now child.0 =
        slot_is (parts_upto setting sub clock past i) node.children found.place child.0 child.1 ∙ ap (λ (p : Part). p.slot) stays in
        let d : demanded Now child.0 ≡ true = used setting sub clock past i node is.there wanted child.0 under
        (subst (λ w. list_any (nat_eq child.0) (uses_by Is w node.children (part_at Is i).pick) ≡ true) (sym at)
        (ap (λ p. list_any (nat_eq child.0) (uses_by Is (Picks choice eligible) node.children p)) pick_is
        ∙ ap (list_any (nat_eq child.0)) (at_place node.children found.place child.0 child.1) ∙ one_used child.0)) in
        ap title_of (chosen setting sub clock past instants nodes stretch i node is choice eligible found.place child.0 j at some within gave pick_is child.1)
        ∙ below child.0 under (both (demanded Now child.0) (is_some (offer Now child.0)) d (ap is_some (sym slot) ∙ found.there))
        ∙ sym (ap title_of slot) ∙ sym found.title ∙ sym (ap (λ (p : Part). title_of p.slot) part)

    keeps_one : title_of (lane setting sub clock past j i) ≡ title_of (offer Now i)
    keeps_one = by_work (work_at setting i node) refl

  keeps_upto : (n i : ℕ) → i < n → Keeps i
  keeps_upto zero i low = absurd (omega (arith, low))
  keeps_upto (suc n) i low = elim (cases_lt i n) [
    | inl less ↦ keeps_upto n i less
    | inr high ↦ (let e : n ≡ i = omega (arith, low, high) in
        subst Keeps e (λ gave. let found = node_at setting sub clock past n gave in keeps_one n found.0 found.1 (λ c under. keeps_upto n c under) gave))
  ]

pub keeps_title : (setting : Setting) (sub : ℕ → ℕ → List Slot) (clock : NodeClock) (past : List Moment) (instants i j : ℕ)
    → AreNodes setting.plan.nodes → IsStretch setting sub clock past instants → j < instants → gives (moment_after setting sub clock past) i ≡ true
    → title_of (lane setting sub clock past j i) ≡ title_of (offer (moment_after setting sub clock past) i)
keeps_title setting sub clock past instants i zero nodes stretch within gave = refl
keeps_title setting sub clock past instants i (suc j) nodes stretch within gave =
    keeps_upto setting sub clock past instants (suc j) nodes stretch (omega arith) within (suc i) i (omega arith) gave
