-- What a state stands for, before an instant and behind it.
use Rattle.std.proofs.Common.{◌≡◌, ◌∙◌, ℕ, suc, Bool, true, false, not, Option, Some, List, is_some, if◌then◌else◌, ap, refl, sym}
use Rattle.std.specs.List.{list_any}
use Rattle.frame_core.specs.Slots.{Slot}
use Rattle.op_select.specs.declared.rule.Picked.{Picked}
use Rattle.op_select.specs.Selection.{picked, plays_on}
use Rattle.op_turn.specs.declared.turn.Turn.{Turn}
use Rattle.op_turn.specs.declared.turn.Turn.TheVariants.{Random, Rotate}
use Rattle.op_turn.specs.Choices.{used_by}
use Rattle.op_turn.specs.Turns.{Past, offered, past_behind, past_given, used_child, words_left}
use Rattle.op_turn.proofs.Offering.{picked_some, picked_tells}

-- the words that are left tell the child that the past tells
words_tell : (turn : Turn) (past : Past) (slots : List Slot) → used_by (words_left turn past.choices) past.last slots ≡ used_child turn past slots
words_tell Rotate past slots = refl
words_tell (Random seed) past slots = refl

pub some_offered : (turn : Turn) (past : Past) (slots : List Slot) → is_some (offered turn past slots) ≡ list_any is_some slots
some_offered turn past slots =
    ap (λ used. is_some (picked slots past.last used)) (sym (words_tell turn past slots)) ∙ picked_some (words_left turn past.choices) past.last slots

-- what was given tells the past behind it

abbrev behind : Past → (last : Option ℕ) (plays : Bool) → Past
behind past last plays = record { last = last; choices = if plays then past.choices else suc past.choices }

given_by : (past : Past) (pick : Picked) (first plays : Bool) → pick.cell.first ≡ first → first ≡ not plays
    → behind past (Some pick.child) plays ≡ past_given past pick
given_by past pick true true marked is = absurd cc
given_by past pick true false marked is = rw marked refl
given_by past pick false true marked is = rw marked refl
given_by past pick false false marked is = absurd cc

pub given_is : (turn : Turn) (past : Past) (slots : List Slot) (pick : Picked) → Some pick ≡ offered turn past slots
    → past_behind turn past slots ≡ past_given past pick
given_is turn past slots pick is =
    let (used, first) = picked_tells (words_left turn past.choices) past.last slots pick (ap (picked slots past.last) (words_tell turn past slots) ∙ sym is) in
    ap (λ last. behind past last (plays_on slots past.last)) (sym (words_tell turn past slots) ∙ used)
    ∙ given_by past pick pick.cell.first (plays_on slots past.last) refl first
