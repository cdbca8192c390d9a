-- Selection: which child a fallback, a switch or a sequence uses, from what its children offer and from the child
-- that it used when it last gave. A child is a place of the list of children, so that a node at two places is two.
use Rattle.std.specs.Prelude.{Bool, true, false, not, ◌&&◌, ◌||◌, Option, Some, None, List, [], ◌∷◌, ℕ, suc, nat_eq, is_some, length, drop, if◌then◌else◌}
use Rattle.frame_core.specs.declared.cell.Cell.{Cell}
use Rattle.frame_core.specs.Slots.{Slot, slot_at, is_inner}
use Rattle.op_select.specs.declared.rule.Rule.{Rule}
use Rattle.op_select.specs.declared.rule.Rule.TheVariants.{First, Turns}
use Rattle.op_select.specs.declared.rule.Picked.{Picked}

-- what a selection keeps: its rule, how many children it has, and the child that it used last, or none
pub record Selection : Type 0 where
  pub rule : Rule
  pub children : ℕ
  pub last : Option ℕ

-- the child that a selection used last, by the children that it used so far, the latest first; none where it used none
abbrev pub last_used : List ℕ → Option ℕ
last_used [] = None
last_used (child ∷ used) = Some child

-- whether this child, a place in the list of children, offers a cell, by the slots of all children
abbrev pub offers : List Slot → ℕ → Bool
offers slots child = is_some (slot_at slots child)

-- whether this child, a place in the list of children, offers a cell in the middle of a track
abbrev pub goes_on : List Slot → ℕ → Bool
goes_on slots child = is_inner (slot_at slots child)

-- whether the child that was used last, if there is one, goes on with its track
abbrev pub plays_on : List Slot → (last : Option ℕ) → Bool
plays_on slots None = false
plays_on slots (Some last) = goes_on slots last

-- the first child that offers a cell and is eligible, as a case of a switch that holds; the first of these slots is
-- that of child `from`
abbrev pub first_ready : List Slot → List Bool → ℕ → Option ℕ
first_ready [] eligible from = None
first_ready (slot ∷ slots) [] from = None
first_ready (slot ∷ slots) (mark ∷ eligible) from =
    if mark && is_some slot then Some from else first_ready slots eligible (suc from)

-- the first child that offers a cell, where the first of these slots is that of child `from`; none where no child
-- offers
abbrev pub first_offering : List Slot → ℕ → Option ℕ
first_offering [] from = None
first_offering (slot ∷ slots) from = if is_some slot then Some from else first_offering slots (suc from)

-- The child that a fallback or a switch uses. If it is track-sensitive (true) and the child used last goes on with its
-- track, it is that one. Otherwise it is the first that offers a cell and is eligible: of a switch, its case holds.
abbrev pub first_pick : Bool → List Slot → List Bool → Option ℕ → Option ℕ
first_pick true slots eligible (Some last) = if goes_on slots last then Some last else first_ready slots eligible 0
first_pick true slots eligible None = first_ready slots eligible 0
first_pick false slots eligible last = first_ready slots eligible 0

-- The child that a sequence uses. While the one used last goes on with its track, it is that one, and then the first
-- after it that offers. The last of all stays once it was used, if it offers. If none was used, it is the first that
-- offers.
abbrev pub turn_pick : List Slot → Option ℕ → Option ℕ
turn_pick slots None = first_offering slots 0
turn_pick slots (Some last) =
    if nat_eq (suc last) (length slots) then (if offers slots last then Some last else None)
    else if goes_on slots last then Some last
    else first_offering (drop (suc last) slots) (suc last)

-- the child that a selection of this rule uses, by its children's slots, which of them are eligible (of a switch, its
-- case holds), and the one used last
abbrev pub pick_of : Rule → List Slot → List Bool → Option ℕ → Option ℕ
pick_of (First sensitive) slots eligible last = first_pick sensitive slots eligible last
pick_of Turns slots eligible last = turn_pick slots last

-- whether this is the child that was used last
abbrev pub is_last : Option ℕ → ℕ → Bool
is_last None child = false
is_last (Some last) child = nat_eq last child

-- The cell of the child that a selection uses, as the selection offers it. It is marked as the beginning of a track
-- also if the child used last was another one, or none.
abbrev pub picked_cell : Option ℕ → ℕ → Cell → Cell
picked_cell last child cell =
    record { left = cell.left; right = cell.right; first = cell.first || not (is_last last child); title = cell.title }

-- What a selection offers if it uses this child, where `last` is the child used last: the child with its cell. It
-- offers nothing without a child, or where the child offers nothing.
abbrev pub picked : List Slot → Option ℕ → Option ℕ → Option Picked
picked slots last None = None
picked slots last (Some child) = with_cell (slot_at slots child)
  where
    with_cell : Slot → Option Picked
    with_cell None = None
    with_cell (Some cell) = Some (record { child = child; cell = picked_cell last child cell })

-- what a selection offers, by its children's slots and which of them are eligible: the child that it uses and its cell,
-- or nothing
abbrev pub offered : Selection → List Slot → List Bool → Option Picked
offered selection slots eligible =
    picked slots selection.last (pick_of selection.rule slots eligible selection.last)
