-- Turns: which child a rotate or a random uses, from what its children offer and from the instants at which it gave.
-- A child is a place of the list of children, so that a node at two places is two.
use Rattle.std.specs.Prelude.{◌≡◌, ◌++◌, ◌%◌, Option, Some, None, List, [], ◌∷◌, ℕ, suc, is_some, length, take, drop, slice_get, if◌then◌else◌}
use Rattle.frame_core.specs.Slots.{Slot}
use Rattle.op_select.specs.declared.rule.Picked.{Picked}
use Rattle.op_select.specs.Selection.{picked, plays_on}
use Rattle.seed_words.specs.Words.{Unread, word, words_from}
use Rattle.op_turn.specs.declared.turn.Turn.{Turn}
use Rattle.op_turn.specs.declared.turn.Turn.TheVariants.{Random, Rotate}

-- The numbers of those children of a node that offer a cell at an instant, in their order. A slot is what a child
-- offers, and the first of these slots is that of child number `from`.
abbrev pub offering_from : List Slot → (from : ℕ) → List ℕ
offering_from [] from = []
offering_from (slot ∷ slots) from = if is_some slot then from ∷ offering_from slots (suc from)
    else offering_from slots (suc from)

-- The child that a rotate chooses, by what each child offers: the next after the one used `last` that offers a cell,
-- going on at child 0 behind the last child. Where none was used yet, it is the first that offers.
abbrev pub rotated : List Slot → (last : Option ℕ) → Option ℕ
rotated slots None = slice_get (offering_from slots 0) 0
rotated slots (Some last) =
    slice_get (offering_from (drop (suc last) slots) (suc last) ++ offering_from (take (suc last) slots) 0) 0

-- The child that a random chooses, by what each child offers and a word w of random bits. Of the m children that offer
-- a cell it is number w mod m, from 0; none where m is 0.
abbrev pub random_pick : List Slot → (w : ℕ) → Option ℕ
random_pick slots w = slice_get (offering_from slots 0) (w % length (offering_from slots 0))

-- What the choice of a rotate or a random rests on, in place of all that went before: the child that it used when it
-- last gave a cell, if any, and at how many instants so far a child was newly chosen.
pub record Past : Type 0 where
  pub last : Option ℕ
  pub choices : ℕ

-- The child that a new choice finds, by what each child offers: a rotate takes the next after the one used last, and a
-- random draws one by its seed, by the random word whose number is that of the choices so far.
abbrev pub chosen : Turn → Past → List Slot → Option ℕ
chosen Rotate past slots = rotated slots past.last
chosen (Random seed) past slots = random_pick slots (word seed past.choices)

-- The child that a rotate or a random plays at an instant: the one used last while it goes on with its track, or else a
-- newly chosen one.
abbrev pub used_child : Turn → Past → List Slot → Option ℕ
used_child turn past slots = if plays_on slots past.last then past.last else chosen turn past slots

-- The past of a rotate or a random after one more instant at which it gave, where its children offered these slots: the
-- child that it used, and whether that was a new choice.
abbrev pub past_behind : Turn → Past → List Slot → Past
past_behind turn past slots = record {
  last = used_child turn past slots;
  choices = if plays_on slots past.last then past.choices else suc past.choices;
}

-- The past of a rotate or a random, from the instants at which it gave a cell, the latest first, each with what its
-- children offered then.
abbrev pub past_of : Turn → (gave : List (List Slot)) → Past
past_of turn [] = record { last = None; choices = 0 }
past_of turn (slots ∷ gave) = past_behind turn (past_of turn gave) slots

-- What a rotate or a random offers at an instant: the child that it uses, with its cell, which is marked as the first
-- of a track where it begins one or the child is another than the one used last.
abbrev pub offered : Turn → Past → List Slot → Option Picked
offered turn past slots = picked slots past.last (used_child turn past slots)

-- The past of a rotate or a random after one more instant, from the cell that it gave then: the cell is marked as the
-- first of a track exactly where the child was newly chosen.
abbrev pub past_given : Past → Picked → Past
past_given past pick = record {
  last = Some pick.child;
  choices = if pick.cell.first then suc past.choices else past.choices;
}

-- What a rotate or a random keeps from instant to instant: how many children it has, the child used last, if any, and
-- the random words of the seed that are left; a rotate has none.
pub record Turning : Type 0 where
  pub children : ℕ
  pub last : Option ℕ
  pub words : Option Unread

-- The random words of a seed that are left after so many choices, each of which takes one; a rotate has none.
abbrev pub words_left : Turn → (choices : ℕ) → Option Unread
words_left Rotate choices = None
words_left (Random seed) choices = Some (words_from seed choices)

-- What a rotate or a random (`turn`) keeps as its state is true to its past: the child that was used last, and the
-- random words of its seed that are left after one for each choice so far.
pub record StandsFor (turn : Turn) (past : Past) (state : Turning) : Type 0 where
  pub last : state.last ≡ past.last
  pub words : state.words ≡ words_left turn past.choices
