-- A rotate or a random whose children go on as they were offers as they do, and what it plays it plays on.
use Rattle.std.proofs.Common.{◌≡◌, ◌∙◌, ℕ, Some, None, Option, List, [], ◌∷◌, Bool, true, false, cond, refl, ap, sym}
use Rattle.std.specs.Prelude.{is_some, ◌||◌, not}
use Rattle.std.specs.List.{list_any}
use Rattle.std.proofs.lemmas.Bool.{false≢true, true≢false}
use Rattle.frame_core.specs.Slots.{Slot, slot_at, is_first, is_inner}
use Rattle.op_select.specs.declared.rule.Picked.{Picked}
use Rattle.op_select.specs.Selection.{goes_on, plays_on}
use Rattle.op_turn.specs.declared.turn.Turn.{Turn}
use Rattle.op_turn.specs.declared.turn.Turn.TheVariants.{Random, Rotate}
use Rattle.op_turn.specs.Turns.{Past, chosen, offered, used_child, words_left}
use Rattle.op_turn.proofs.Offering.{picked_tells}
use Rattle.op_turn.proofs.Standing.{some_offered}
use Rattle.stream_meaning.specs.Operators.{Choice, Selects, TakesTurns, child_used}
use Rattle.stream_meaning.specs.Instants.{picked_part}
use Rattle.stretch_laws.specs.Steady.{Follows, AllFollow, IsFree}
use Rattle.stretch_laws.proofs.Staying.{follow_at, pick_kept, picked_slot, selection_follows}

-- some child offers as before
some_listed : (slots others : List Slot) → AllFollow slots others → list_any is_some others ≡ list_any is_some slots
some_listed [] [] all = refl
some_listed [] (o ∷ os) all = absurd all
some_listed (s ∷ ss) [] all = absurd all
some_listed (s ∷ ss) (o ∷ os) (here, all) =
    ap (λ now. now || list_any is_some os) here.there ∙ ap (λ rest. is_some s || rest) (some_listed ss os all)

-- the child used last is in the middle of a track where it was
not_begun : (before after : Bool) → (after ≡ true → before ≡ true) → not before ≡ true → not after ≡ true
not_begun true after begins is = absurd (false≢true is)
not_begun false true begins is = absurd (false≢true (begins refl))
not_begun false false begins is = refl

inner_later : (slot other : Slot) → Follows slot other → is_inner slot ≡ true → is_inner other ≡ true
inner_later None other follows is = absurd (false≢true is)
inner_later (Some a) None follows is = absurd (false≢true follows.there)
inner_later (Some a) (Some b) follows is = not_begun a.first b.first follows.first is

plays_later : (slots others : List Slot) (last : Option ℕ) → AllFollow slots others → plays_on slots last ≡ true → plays_on others last ≡ true
plays_later slots others None all plays = plays
plays_later slots others (Some last) all plays = inner_later (slot_at slots last) (slot_at others last) (follow_at slots others all last) plays

-- what is offered is marked where the child used last is not in the middle of a track
marked : (turn : Turn) (past : Past) (slots : List Slot) (pick : Picked) → offered turn past slots ≡ Some pick → pick.cell.first ≡ not (plays_on slots past.last)
marked Rotate past slots pick is = (picked_tells (words_left Rotate past.choices) past.last slots pick is).1
marked (Random seed) past slots pick is = (picked_tells (words_left (Random seed) past.choices) past.last slots pick is).1

part_there : (found : Option Picked) → is_some (picked_part found).slot ≡ is_some found
part_there None = refl
part_there (Some pick) = refl

begins_by : (turn : Turn) (past : Past) (slots others : List Slot) (before after : Option Picked) → AllFollow slots others
    → offered turn past slots ≡ before → offered turn past others ≡ after → is_some after ≡ is_some before
    → is_first (picked_part after).slot ≡ true → is_first (picked_part before).slot ≡ true
begins_by turn past slots others before None all was is same begins = absurd (false≢true begins)
begins_by turn past slots others None (Some after) all was is same begins = absurd (true≢false same)
begins_by turn past slots others (Some before) (Some after) all was is same begins =
    marked turn past slots before was
    ∙ not_begun (plays_on others past.last) (plays_on slots past.last) (plays_later slots others past.last all)
    (sym (marked turn past others after is) ∙ begins)

pub turn_follows : (turn : Turn) (past : Past) (slots others : List Slot) → AllFollow slots others
    → Follows (picked_slot slots past.last (used_child turn past slots)) (picked_slot others past.last (used_child turn past others))
turn_follows turn past slots others all =
    let same : is_some (offered turn past others) ≡ is_some (offered turn past slots) =
    some_offered turn past others ∙ some_listed slots others all ∙ sym (some_offered turn past slots) in
    record {
      there = part_there (offered turn past others) ∙ same ∙ sym (part_there (offered turn past slots));
      first = begins_by turn past slots others (offered turn past slots) (offered turn past others) all refl refl same;
    }

-- what a node that uses one of its children offers goes on as they do
pub choice_follows : (choice : Choice) (slots others : List Slot) (eligible : List Bool) (last : Option ℕ) (made : ℕ) → AllFollow slots others → IsFree choice slots eligible last
    → Follows (picked_slot slots last (child_used choice slots eligible last made)) (picked_slot others last (child_used choice others eligible last made))
choice_follows (Selects rule) slots others eligible last made all free = selection_follows rule slots others eligible last all free
choice_follows (TakesTurns turn) slots others eligible last made all free = turn_follows turn (record { last = last; choices = made }) slots others all

-- a node that gave uses the same child, while that goes on with its track, however many choices there were
pub choice_kept : (choice : Choice) (slots others : List Slot) (eligible : List Bool) (last : Option ℕ) (child made more : ℕ) → AllFollow slots others
    → child_used choice slots eligible last made ≡ Some child → goes_on others child ≡ true → child_used choice others eligible (Some child) more ≡ Some child
choice_kept (Selects rule) slots others eligible last child made more all is goes = pick_kept rule slots others eligible last child all is goes
choice_kept (TakesTurns turn) slots others eligible last child made more all is goes =
    ap (λ on. cond on (Some child) (chosen turn (record { last = Some child; choices = more }) others)) goes
