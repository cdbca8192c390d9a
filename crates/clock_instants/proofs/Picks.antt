-- A node picks a child that offers.
use Rattle.std.proofs.Common.{◌≡◌, ◌≤◌, ◌∙◌, ℕ, zero, suc, Bool, true, false, Option, None, Some, List, [], ◌∷◌, length, slice_get, arith, refl, ap, sym, subst, inl, inr}
use Rattle.std.proofs.lemmas.Bool.{cases_lt}
use Rattle.std.proofs.lemmas.List.{get_or_past}
use Rattle.std.proofs.lemmas.Option.{none-some, slice_get_within}
use Rattle.plan_core.specs.declared.node.Node.{Node}
use Rattle.clock_infer.specs.declared.clock_map.NodeClock.{NodeClock}
use Rattle.frame_core.specs.declared.cell.Cell.{Cell}
use Rattle.frame_core.specs.Slots.{Slot, slot_at}
use Rattle.op_select.specs.Selection.{picked, picked_cell}
use Rattle.stream_meaning.specs.declared.part.Part.{Part}
use Rattle.stream_meaning.specs.Operators.{Work, Plays, Picks, Mixes, Fades, Reads, child_used, marks_at}
use Rattle.stream_meaning.specs.Instants.{Setting, Moment, child_at, choices, last_pick, lies_in, offering, part_at, part_by, parts_upto, picked_part, second_at, silent, slots_at, work_at}
use Rattle.clock_instants.specs.Demands.{PicksOffer}
use Rattle.clock_nodes.specs.States.{IsIn}
use Rattle.clock_nodes.proofs.Parts.{part_in-inside, parts_are, parts_long}
use Rattle.clock_nodes.proofs.Walking.{part_silent}

picked-none : (slots : List Slot) (last : Option ℕ) (place : ℕ) → slot_at slots place ≡ None → picked slots last (Some place) ≡ None
picked-none slots last place at = rw at refl

picked-some : (slots : List Slot) (last : Option ℕ) (place : ℕ) (cell : Cell) → slot_at slots place ≡ Some cell
    → picked slots last (Some place) ≡ Some (record { child = place; cell = picked_cell last place cell })
picked-some slots last place cell at = rw at refl

-- what is so of no child, and of each one that offers, is so of the pick
pick_by : (slots : List Slot) (last pick : Option ℕ) (P : Option ℕ → Type 0) → P None → ((place : ℕ) (cell : Cell) → slot_at slots place ≡ Some cell → P (Some place))
    → P (picked_part (picked slots last pick)).pick
pick_by slots last None P none some = none
pick_by slots last (Some place) P none some = by_slot (slot_at slots place) refl
  where
    by_slot : (slot : Slot) → slot_at slots place ≡ slot → P (picked_part (picked slots last (Some place))).pick
    by_slot None at = subst (λ found. P (picked_part found).pick) (sym (picked-none slots last place at)) none
    by_slot (Some cell) at = subst (λ found. P (picked_part found).pick) (sym (picked-some slots last place cell at)) (some place cell at)

part_pick : (setting : Setting) (sub : ℕ → ℕ → List Slot) (past : List Moment) (i : ℕ) (work : Work) (slots : List Slot) (P : Option ℕ → Type 0) → P None
    → ((place : ℕ) (cell : Cell) → slot_at slots place ≡ Some cell → P (Some place)) → P (part_by setting sub past i work slots).pick
part_pick setting sub past i (Plays leaf) slots P none some = none
part_pick setting sub past i (Picks choice eligible) slots P none some =
    pick_by slots (last_pick past i) (child_used choice slots (marks_at eligible (second_at setting (length past)) (length slots)) (last_pick past i) (choices past i)) P none some
part_pick setting sub past i (Mixes mixing) slots P none some = none
part_pick setting sub past i (Fades overlap) slots P none some = none
part_pick setting sub past i (Reads buffer) slots P none some = none

-- these parts keep the cells of those
abbrev Keep : List Part → List Part → Type 0
Keep before parts = (child : ℕ) (cell : Cell) → (part_at before child).slot ≡ Some cell → (part_at parts child).slot ≡ Some cell

offers_one : (parts : List Part) (child : ℕ) (cell : Cell) → (part_at parts child).slot ≡ Some cell → offering parts (child ∷ []) ≡ child ∷ []
offers_one parts child cell at = rw at refl

picks_at : (before parts : List Part) → Keep before parts → (children : List ℕ) (place : ℕ) (cell : Cell) → slot_at (slots_at before children) place ≡ Some cell
    → offering parts (child_at children (Some place)) ≡ child_at children (Some place)
picks_at before parts keep [] place cell at = absurd (none-some cell at)
picks_at before parts keep (child ∷ children) zero cell at = offers_one parts child cell (keep child cell at)
picks_at before parts keep (child ∷ children) (suc place) cell at = picks_at before parts keep children place cell at

module _ (setting : Setting) (sub : ℕ → ℕ → List Slot) (clock : NodeClock) (past : List Moment) where
  keeps : (i : ℕ) → i ≤ length setting.plan.nodes → Keep (parts_upto setting sub clock past i) (parts_upto setting sub clock past (length setting.plan.nodes))
  keeps i within child cell at = elim (cases_lt child i) [
    | inl low ↦ ap (λ p. p.slot) (parts_are setting sub clock past (length setting.plan.nodes) child (omega (arith, low, within)) ∙ sym (parts_are setting sub clock past i child low)) ∙ at
    | inr high ↦ absurd (none-some cell (ap (λ p. p.slot) (sym (get_or_past (parts_upto setting sub clock past i) child silent
        (let long = parts_long setting sub clock past i in omega (arith, long, high)))) ∙ at))
  ]

  pick_inside : (i : ℕ) (node : Node) → IsIn setting clock i node
      → offering (parts_upto setting sub clock past (length setting.plan.nodes)) (child_at node.children (part_at (parts_upto setting sub clock past (length setting.plan.nodes)) i).pick)
      ≡ child_at node.children (part_at (parts_upto setting sub clock past (length setting.plan.nodes)) i).pick
  pick_inside i node is =
      let within = slice_get_within setting.plan.nodes i node is.there in
      subst (λ p. offering (parts_upto setting sub clock past (length setting.plan.nodes)) (child_at node.children p.pick) ≡ child_at node.children p.pick)
      (sym (parts_are setting sub clock past (length setting.plan.nodes) i within ∙ part_in-inside setting sub clock past i node (parts_upto setting sub clock past i) is))
      (part_pick setting sub past i (work_at setting i node) (slots_at (parts_upto setting sub clock past i) node.children)
      (λ pick. offering (parts_upto setting sub clock past (length setting.plan.nodes)) (child_at node.children pick) ≡ child_at node.children pick) refl
      (λ place cell at. picks_at (parts_upto setting sub clock past i) (parts_upto setting sub clock past (length setting.plan.nodes)) (keeps i (omega (arith, within))) node.children place cell at))

  pick_outside : (i : ℕ) (node : Node) → slice_get setting.plan.nodes i ≡ Some node → lies_in setting clock i ≡ false
      → offering (parts_upto setting sub clock past (length setting.plan.nodes)) (child_at node.children (part_at (parts_upto setting sub clock past (length setting.plan.nodes)) i).pick)
      ≡ child_at node.children (part_at (parts_upto setting sub clock past (length setting.plan.nodes)) i).pick
  pick_outside i node found outside =
      subst (λ p. offering (parts_upto setting sub clock past (length setting.plan.nodes)) (child_at node.children p.pick) ≡ child_at node.children p.pick)
      (sym (parts_are setting sub clock past (length setting.plan.nodes) i (slice_get_within setting.plan.nodes i node found)
      ∙ part_silent setting sub clock past i (parts_upto setting sub clock past i) outside)) refl

  pick_by_test : (i : ℕ) (node : Node) → slice_get setting.plan.nodes i ≡ Some node → (test : Bool) → lies_in setting clock i ≡ test
      → offering (parts_upto setting sub clock past (length setting.plan.nodes)) (child_at node.children (part_at (parts_upto setting sub clock past (length setting.plan.nodes)) i).pick)
      ≡ child_at node.children (part_at (parts_upto setting sub clock past (length setting.plan.nodes)) i).pick
  pick_by_test i node found true e = pick_inside i node (record { there = found; inside = e })
  pick_by_test i node found false e = pick_outside i node found e

  pub picks_offer : PicksOffer setting.plan.nodes (parts_upto setting sub clock past (length setting.plan.nodes))
  picks_offer = record { each = λ i node found. pick_by_test i node found (lies_in setting clock i) refl }
