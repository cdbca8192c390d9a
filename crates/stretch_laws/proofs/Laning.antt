-- What the nodes offer over a stretch, each over what its children do.
use Rattle.std.proofs.Common.{◌≡◌, ◌<◌, ◌+◌, ◌∙◌, ◌%◌, ℕ, Some, None, Option, List, [], ◌∷◌, length, map, Bool, true, false, arith, refl, ap, sym, subst, nat_eq, slice_get}
use Rattle.std.specs.Prelude.{is_some, not, ◌&&◌, ◌||◌}
use Rattle.std.proofs.lemmas.Bool.{eq-eqb}
use Rattle.std.proofs.lemmas.Option.{slice_get_within}
use Rattle.plan_core.specs.declared.node.Node.{Node}
use Rattle.plan_core.specs.Plans.{AreNodes}
use Rattle.plan_core.proofs.Paths.{child_below}
use Rattle.clock_infer.specs.declared.clock_map.NodeClock.{NodeClock}
use Rattle.frame_core.specs.declared.cell.Cell.{Cell}
use Rattle.frame_core.specs.Slots.{Slot, slot_at}
use Rattle.op_cross.specs.Runs.{item_of}
use Rattle.op_leaf.specs.declared.leaf.Leaf.{Leaf}
use Rattle.op_leaf.specs.Leaves.{leaf_slot}
use Rattle.op_leaf.specs.Readers.{read_by, reader_slot}
use Rattle.op_select.specs.declared.rule.Picked.{Picked}
use Rattle.op_select.specs.Selection.{picked, picked_cell}
use Rattle.stream_meaning.specs.declared.part.Part.{Part}
use Rattle.stream_meaning.specs.Arithmetic.{Mixing, mix_slot}
use Rattle.stream_meaning.specs.Operators.{Work, Choice, Eligible, Plays, Picks, Mixes, Fades, Reads, child_used, marks_at}
use Rattle.stream_meaning.specs.Instants.{Setting, Moment, Reading, choices, gives_before, demanded, gives, last_pick, moment_after, offer, part_at, part_by, parts_upto, picked_part, position, reading_after, reading_at, second_at, slots_at, work_at}
use Rattle.stretch_laws.specs.Stretches.{IsNode, IsStretch, going_on, lane}
use Rattle.stretch_laws.proofs.Staying.{picked-none, picked-some}
use Rattle.stretch_laws.proofs.Parts.{own_part, part_stays}
use Rattle.stretch_laws.proofs.Works.{named}
use Rattle.stretch_laws.proofs.Following.{AreBelow, below_from, child_is_below, no_tick, slot_is}
use Rattle.stretch_laws.proofs.Stretching.{alike_all, on_all}

or_none : (first : Bool) → (first || false) ≡ first
or_none true = refl
or_none false = refl

same_cell : (child : ℕ) (cell : Cell) → picked_cell (Some child) child cell ≡ cell
same_cell child cell =
    ap (λ last. record { left = cell.left; right = cell.right; first = cell.first || not last; title = cell.title }) (eq-eqb child child refl)
    ∙ ap (λ first. record { left = cell.left; right = cell.right; first = first; title = cell.title }) (or_none cell.first)

-- a child that is picked again offers its own slot
again : (slots : List Slot) (child : ℕ) (pick : Option ℕ) → (picked_part (picked slots (Some child) pick)).pick ≡ Some child
    → (picked_part (picked slots (Some child) pick)).slot ≡ slot_at slots child
again slots child pick e =
    subst (λ p. (picked_part (picked slots (Some child) p)).slot ≡ slot_at slots child) (sym is) (by (slot_at slots child) refl)
  where
    is : pick ≡ Some child
    is = named slots (Some child) pick child e

    by : (slot : Slot) → slot_at slots child ≡ slot → (picked_part (picked slots (Some child) (Some child))).slot ≡ slot_at slots child
    by None at = ap (λ (found : Option Picked). (picked_part found).slot) (picked-none slots (Some child) child at) ∙ sym at
    by (Some cell) at = ap (λ (found : Option Picked). (picked_part found).slot) (picked-some slots (Some child) child cell at) ∙ ap Some (same_cell child cell) ∙ sym at

and_left : (a b : Bool) → (a && b) ≡ true → a ≡ true
and_left true b e = refl
and_left false b e = e

slots_same : (before after : List Part) (i : ℕ) (children : List ℕ) → AreBelow i children → ((c : ℕ) → c < i → part_at before c ≡ part_at after c)
    → slots_at before children ≡ map (λ c. (part_at after c).slot) children
slots_same before after i [] below same = refl
slots_same before after i (c ∷ children) (here, below) same =
    ap (λ (p : Part). p.slot ∷ slots_at before children) (same c here)
    ∙ ap (λ rest. (part_at after c).slot ∷ rest) (slots_same before after i children below same)

module _ (setting : Setting) (sub : ℕ → ℕ → List Slot) (clock : NodeClock) (past : List Moment) (instants : ℕ) (nodes : AreNodes setting.plan.nodes)
    (stretch : IsStretch setting sub clock past instants) (i : ℕ) (node : Node) (is : IsNode setting clock i node) where
  abbrev First : Moment
  First = moment_after setting sub clock past

  abbrev Later : ℕ → List Moment
  Later j = going_on setting sub clock j past

  abbrev Slots : ℕ → List Slot
  Slots j = slots_at (parts_upto setting sub clock (Later j) i) node.children

  low : i < length setting.plan.nodes
  low = slice_get_within setting.plan.nodes i node is.there

  part_is : (j : ℕ) → part_at (moment_after setting sub clock (Later j)).parts i ≡ part_by setting sub (Later j) i (work_at setting i node) (Slots j)
  part_is j = own_part setting sub clock (Later j) (length setting.plan.nodes) i node low is

  pub part_works : (j : ℕ) (work : Work) → work_at setting i node ≡ work → part_at (moment_after setting sub clock (Later j)).parts i ≡ part_by setting sub (Later j) i work (Slots j)
  part_works j work at = part_is j ∙ ap (λ w. part_by setting sub (Later j) i w (Slots j)) at

  pub played : (leaf : Leaf) (j : ℕ) → work_at setting i node ≡ Plays leaf → j < instants → gives First i ≡ true
      → lane setting sub clock past j i ≡ leaf_slot setting.library leaf (gives_before past i + j)
  played leaf j at within gave =
      ap (λ (p : Part). p.slot) (part_works j (Plays leaf) at)
      ∙ ap (leaf_slot setting.library leaf) ((on_all setting sub clock past instants nodes stretch j (omega (arith, within))).given i gave)

  pub faded : (overlap j : ℕ) → work_at setting i node ≡ Fades overlap → j < instants → gives First i ≡ true
      → lane setting sub clock past j i ≡ item_of overlap (sub i) (position past i + j)
  faded overlap j at within gave =
      ap (λ (p : Part). p.slot) (part_works j (Fades overlap) at)
      ∙ ap (item_of overlap (sub i)) ((on_all setting sub clock past instants nodes stretch j (omega (arith, within))).passed i gave)

  pub read : (buffer j : ℕ) → work_at setting i node ≡ Reads buffer → 0 < j → j < instants → gives First i ≡ true
      → lane setting sub clock past j i ≡ reader_slot (read_by j (reading_at setting buffer (length past) (reading_after setting i buffer past)).reader)
  read buffer j at some within gave =
      let on = on_all setting sub clock past instants nodes stretch j (omega (arith, within)) in
      ap (λ (p : Part). p.slot) (part_works j (Reads buffer) at)
      ∙ ap (λ (r : Reading). reader_slot r.reader) (no_tick (setting.answers buffer) (reading_after setting i buffer (Later j)) (nat_eq (length (Later j) % setting.plan.frame) 0)
      (ap (λ n. nat_eq (n % setting.plan.frame) 0) on.long ∙ stretch.ticks i node buffer j is at some within))
      ∙ ap reader_slot (on.read i node buffer is at some gave)

  pub mixed : (mixing : Mixing) (j : ℕ) → work_at setting i node ≡ Mixes mixing → lane setting sub clock past j i ≡ mix_slot mixing (map (lane setting sub clock past j) node.children)
  mixed mixing j at =
      ap (λ (p : Part). p.slot) (part_works j (Mixes mixing) at)
      ∙ ap (mix_slot mixing) (slots_same (parts_upto setting sub clock (Later j) i) (parts_upto setting sub clock (Later j) (length setting.plan.nodes)) i node.children
      (below_from i node.children (λ child among. child_below setting.plan.nodes i child node nodes is.there among))
      (λ c under. part_stays setting sub clock (Later j) i (length setting.plan.nodes) c under (let l = low in omega (arith, l, under))))

  pub chosen : (choice : Choice) (eligible : Eligible) (place child j : ℕ) → work_at setting i node ≡ Picks choice eligible → 0 < j → j < instants → gives First i ≡ true
      → (part_at First.parts i).pick ≡ Some place → slice_get node.children place ≡ Some child → lane setting sub clock past j i ≡ lane setting sub clock past j child
  chosen choice eligible place child j at some within gave pick there =
      let on = on_all setting sub clock past instants nodes stretch j (omega (arith, within)) in
      let like = alike_all setting sub clock past instants nodes stretch j some within in
      let last : last_pick (Later j) i ≡ Some place = on.picked i gave some ∙ pick in
      let part : part_at (moment_after setting sub clock (Later j)).parts i ≡ picked_part (picked (Slots j) (Some place)
      (child_used choice (Slots j) (marks_at eligible (second_at setting (length (Later j))) (length (Slots j))) (last_pick (Later j) i) (choices (Later j) i))) =
      part_works j (Picks choice eligible) at
      ∙ ap (λ l. picked_part (picked (Slots j) l (child_used choice (Slots j) (marks_at eligible (second_at setting (length (Later j))) (length (Slots j))) (last_pick (Later j) i) (choices (Later j) i)))) last in
      let same : (part_at (moment_after setting sub clock (Later j)).parts i).pick ≡ Some place = like.picks i (and_left (demanded First i) (is_some (offer First i)) gave) ∙ pick in
      let under : child < i = child_is_below i node.children place child (below_from i node.children (λ child among. child_below setting.plan.nodes i child node nodes is.there among)) there in
      ap (λ (p : Part). p.slot) part
      ∙ again (Slots j) place (child_used choice (Slots j) (marks_at eligible (second_at setting (length (Later j))) (length (Slots j))) (last_pick (Later j) i) (choices (Later j) i))
      (ap (λ (p : Part). p.pick) (sym part) ∙ same)
      ∙ slot_is (parts_upto setting sub clock (Later j) i) node.children place child there
      ∙ ap (λ (p : Part). p.slot) (part_stays setting sub clock (Later j) i (length setting.plan.nodes) child under (let l = low in omega (arith, l, under)))
