-- A state after an instant stands for one moment more.
use Rattle.std.proofs.Common.{◌≡◌, ◌∙◌, ◌<◌, ◌≤◌, ◌&&◌, ◌||◌, ℕ, suc, Some, None, Option, List, ◌∷◌, length, Bool, true, false, not, cond, refl, ap, sym, subst, arith}
use Rattle.std.specs.Prelude.{is_some}
use Rattle.std.proofs.lemmas.Bool.{false≢true}
use Rattle.frame_core.specs.Slots.{Slot, is_first, slot_at}
use Rattle.op_select.specs.declared.rule.Picked.{Picked}
use Rattle.op_select.specs.Selection.{Selection, pick_of, picked}
use Rattle.op_turn.specs.declared.turn.Turn.{Turn as TheTurn}
use Rattle.op_turn.specs.Turns.{Past, Turning, StandsFor as TurnStandsFor, past_given, used_child, words_left}
use Rattle.op_cross.specs.Crossfade.{cross}
use Rattle.op_cross.specs.States.{Crossing, StandsFor, position_after}
use Rattle.op_cross.proofs.LeastRuns.{item_of-is}
use Rattle.stream_meaning.specs.declared.part.Part.{Part}
use Rattle.stream_meaning.specs.Operators.{Work, Plays, Picks, Mixes, Fades, Reads, Selects, TakesTurns, marks_at}
use Rattle.stream_meaning.specs.Instants.{Setting, Moment, choices, demanded, gives, last_pick, offer, part_at, part_by, picked_part, position, second_at}
use Rattle.stream_meaning.proofs.Choosing.{picked_within}
use Rattle.node_states.specs.declared.state.NodeState.TheVariants.{Select, Turn, Cross}
use Rattle.node_states.specs.States.{AreLong, IsSettled, StateStands}

-- an instant at which node i had this part and this mark
pub record HasPart (moment : Moment) (i : ℕ) (part : Part) (mark : Bool) : Type 0 where
  pub part_is : part_at moment.parts i ≡ part
  pub mark_is : demanded moment i ≡ mark

given : (moment : Moment) (i : ℕ) (part : Part) (mark : Bool) → HasPart moment i part mark → gives moment i ≡ (mark && is_some part.slot)
given moment i part mark had =
    ap (λ (m : Bool). m && is_some (part_at moment.parts i).slot) had.mark_is ∙ ap (λ (p : Part). mark && is_some p.slot) had.part_is

second_of : (mark some : Bool) → (mark && some) ≡ true → some ≡ true
second_of true some is = is
second_of false some is = absurd (false≢true is)

picked_child : (found : Option Picked) → is_some (picked_part found).slot ≡ true → (child : ℕ) × ((picked_part found).pick ≡ Some child)
picked_child None is = absurd (false≢true is)
picked_child (Some one) is = (one.child, refl)

-- the child used last, after an instant
last_by : (gave : Bool) (old new : Selection) (pick : Option ℕ) → (gave ≡ true → new.last ≡ pick) → (gave ≡ false → new ≡ old)
    → new.last ≡ cond gave pick old.last
last_by true old new pick used unused = used refl
last_by false old new pick used unused = ap (λ (s : Selection). s.last) (unused refl)

pub select_step : (setting : Setting) (sub : ℕ → ℕ → List Slot) (past : List Moment) (moment : Moment) (filled i : ℕ) (work : Work) (slots : List Slot)
    (children : ℕ) (old new : Selection) (part : Part) (mark gave : Bool) → length slots ≡ children → gave ≡ (mark && is_some part.slot)
    → new.rule ≡ old.rule
    → ((child : ℕ) → gave ≡ true → part.pick ≡ Some child → child < children → new.last ≡ part.pick)
    → (gave ≡ false → new ≡ old)
    → StateStands setting sub past filled i work (Select old) → part ≡ part_by setting sub past i work slots → HasPart moment i part mark
    → StateStands setting sub (moment ∷ past) filled i work (Select new)
select_step setting sub past moment filled i (Plays leaf) slots children old new part mark gave long gave_is same_rule used unused stands is had = absurd stands
select_step setting sub past moment filled i (Picks (TakesTurns turn) eligible) slots children old new part mark gave long gave_is same_rule used unused stands is had = absurd stands
select_step setting sub past moment filled i (Picks (Selects rule) eligible) slots children old new part mark gave long gave_is same_rule used unused stands is had = record {
  rule_is = same_rule ∙ stands.rule_is;
  last_is = last_by gave old new part.pick now unused
      ∙ ap (λ (l : Option ℕ). cond gave part.pick l) stands.last_is
      ∙ ap (λ (g : Bool). cond g part.pick (last_pick past i)) (gave_is ∙ sym (given moment i part mark had))
      ∙ ap (λ (p : Part). cond (gives moment i) p.pick (last_pick past i)) (sym had.part_is);
}
  where
    now : gave ≡ true → new.last ≡ part.pick
    now e =
        let last = last_pick past i in
        let pick = pick_of rule slots (marks_at eligible (second_at setting (length past)) (length slots)) last in
        let found : is_some (picked_part (picked slots last pick)).slot ≡ true = ap (λ (p : Part). is_some p.slot) (sym is) ∙ second_of mark (is_some part.slot) (sym gave_is ∙ e) in
        let one = picked_child (picked slots last pick) found in
        used one.0 e (ap (λ (p : Part). p.pick) is ∙ one.1) (subst (λ (n : ℕ). one.0 < n) long (picked_within slots last pick one.0 one.1))
select_step setting sub past moment filled i (Mixes mixing) slots children old new part mark gave long gave_is same_rule used unused stands is had = absurd stands
select_step setting sub past moment filled i (Fades overlap) slots children old new part mark gave long gave_is same_rule used unused stands is had = absurd stands
select_step setting sub past moment filled i (Reads buffer) slots children old new part mark gave long gave_is same_rule used unused stands is had = absurd stands

-- what a node that takes turns has behind it
abbrev turned : List Moment → ℕ → Past
turned past i = record { last = last_pick past i; choices = choices past i }

some_found : (found : Option Picked) → is_some (picked_part found).slot ≡ true → (pick : Picked) × (found ≡ Some pick)
some_found None is = absurd (false≢true is)
some_found (Some one) is = (one, refl)

-- it gave this
turn_gave : (turn : TheTurn) (past : List Moment) (moment : Moment) (i : ℕ) (pick : Picked) (state : Turning) → gives moment i ≡ true → part_at moment.parts i ≡ picked_part (Some pick)
    → TurnStandsFor turn (past_given (turned past i) pick) state → TurnStandsFor turn (turned (moment ∷ past) i) state
turn_gave turn past moment i pick state gave part s = record {
  last = s.last ∙ sym (ap (λ (g : Bool). cond g (part_at moment.parts i).pick (last_pick past i)) gave ∙ ap (λ (p : Part). p.pick) part);
  words = s.words ∙ ap (words_left turn) (sym (
      ap (λ (g : Bool). cond (g && is_first (offer moment i)) (suc (choices past i)) (choices past i)) gave
      ∙ ap (λ (p : Part). cond (is_first p.slot) (suc (choices past i)) (choices past i)) part));
}

-- it did not give
turn_kept : (turn : TheTurn) (past : List Moment) (moment : Moment) (i : ℕ) (state : Turning) → gives moment i ≡ false
    → TurnStandsFor turn (turned past i) state → TurnStandsFor turn (turned (moment ∷ past) i) state
turn_kept turn past moment i state gave s = record {
  last = s.last ∙ sym (ap (λ (g : Bool). cond g (part_at moment.parts i).pick (last_pick past i)) gave);
  words = s.words ∙ ap (words_left turn) (sym (ap (λ (g : Bool). cond (g && is_first (offer moment i)) (suc (choices past i)) (choices past i)) gave));
}

pub turn_step : (setting : Setting) (sub : ℕ → ℕ → List Slot) (past : List Moment) (moment : Moment) (filled i : ℕ) (work : Work) (slots : List Slot)
    (children : ℕ) (old new : Turning) (part : Part) (mark gave : Bool) → length slots ≡ children → gave ≡ (mark && is_some part.slot)
    → ((turn : TheTurn) (behind : Past) (pick : Picked) → gave ≡ true → part.pick ≡ Some pick.child → part.slot ≡ Some pick.cell → pick.child < children
    → TurnStandsFor turn behind old → TurnStandsFor turn (past_given behind pick) new)
    → (gave ≡ false → new ≡ old)
    → StateStands setting sub past filled i work (Turn old) → part ≡ part_by setting sub past i work slots → HasPart moment i part mark
    → StateStands setting sub (moment ∷ past) filled i work (Turn new)
turn_step setting sub past moment filled i (Plays leaf) slots children old new part mark gave long gave_is goes stays stands is had = absurd stands
turn_step setting sub past moment filled i (Picks (Selects rule) eligible) slots children old new part mark gave long gave_is goes stays stands is had = absurd stands
turn_step setting sub past moment filled i (Picks (TakesTurns turn) eligible) slots children old new part mark gave long gave_is goes stays stands is had = by gave refl
  where
    last : Option ℕ
    last = last_pick past i

    used : Option ℕ
    used = used_child turn (turned past i) slots

    now : gives moment i ≡ gave
    now = given moment i part mark had ∙ sym gave_is

    by : (g : Bool) → gave ≡ g → TurnStandsFor turn (turned (moment ∷ past) i) new
    by true e =
        let found : is_some (picked_part (picked slots last used)).slot ≡ true = ap (λ (p : Part). is_some p.slot) (sym is) ∙ second_of mark (is_some part.slot) (sym gave_is ∙ e) in
        let one = some_found (picked slots last used) found in
        let whole : part ≡ picked_part (Some one.0) = is ∙ ap picked_part one.1 in
        let few : one.0.child < children = subst (λ (n : ℕ). one.0.child < n) long (picked_within slots last used one.0.child (ap (λ (f : Option Picked). (picked_part f).pick) one.1)) in
        turn_gave turn past moment i one.0 new (now ∙ e) (had.part_is ∙ whole)
        (goes turn (turned past i) one.0 e (ap (λ (p : Part). p.pick) whole) (ap (λ (p : Part). p.slot) whole) few stands)
    by false e = turn_kept turn past moment i new (now ∙ e) (subst (λ (s : Turning). TurnStandsFor turn (turned past i) s) (sym (stays e)) stands)
turn_step setting sub past moment filled i (Mixes mixing) slots children old new part mark gave long gave_is goes stays stands is had = absurd stands
turn_step setting sub past moment filled i (Fades overlap) slots children old new part mark gave long gave_is goes stays stands is had = absurd stands
turn_step setting sub past moment filled i (Reads buffer) slots children old new part mark gave long gave_is goes stays stands is had = absurd stands

-- the next item, by whether the node gave
next_item : (gave : Bool) (mark : Bool) (slot : Slot) (p : ℕ) → gave ≡ (mark && is_some slot)
    → position_after gave slot p ≡ cond (gave || not (is_some slot)) (suc p) p
next_item true mark None p is = refl
next_item false mark None p is = refl
next_item true mark (Some cell) p is = refl
next_item false mark (Some cell) p is = refl

not_before : (test : Bool) (p : ℕ) → p ≤ cond test (suc p) p
not_before true p = omega arith
not_before false p = omega arith

pub cross_step : (setting : Setting) (sub : ℕ → ℕ → List Slot) (past : List Moment) (moment : Moment) (filled i : ℕ) (work : Work) (slots : List Slot)
    (old new : Crossing) (part : Part) (mark gave : Bool) → AreLong sub → gave ≡ (mark && is_some part.slot) → new.overlap ≡ old.overlap
    → ((list : List Slot) (p : ℕ) → StandsFor old list p → p < length (cross old.overlap list) → StandsFor new list (position_after gave (slot_at (cross old.overlap list) p) p))
    → StateStands setting sub past filled i work (Cross old) → IsSettled sub past filled i work → part ≡ part_by setting sub past i work slots → HasPart moment i part mark
    → StateStands setting sub (moment ∷ past) filled i work (Cross new)
cross_step setting sub past moment filled i (Plays leaf) slots old new part mark gave long gave_is same steps stands settled is had = absurd stands
cross_step setting sub past moment filled i (Picks rule eligible) slots old new part mark gave long gave_is same steps stands settled is had = absurd stands
cross_step setting sub past moment filled i (Mixes mixing) slots old new part mark gave long gave_is same steps stands settled is had = absurd stands
cross_step setting sub past moment filled i (Fades overlap) slots old new part mark gave long gave_is same steps stands settled is had = record {
  overlap_is = same ∙ stands.overlap_is;
  stands = subst (λ (n : ℕ). StandsFor new (sub i filled) n) next
      (steps (sub i filled) (position past i) stands.stands (subst (λ (o : ℕ). position past i < length (cross o (sub i filled))) (sym stands.overlap_is) settled));
  least = λ m below.
      let few = stands.least m below in
      let later = not_before (gives moment i || not (is_some (part_at moment.parts i).slot)) (position past i) in
      omega (arith, few, later);
}
  where
    item : slot_at (cross old.overlap (sub i filled)) (position past i) ≡ part.slot
    item =
        ap (λ (o : ℕ). slot_at (cross o (sub i filled)) (position past i)) stands.overlap_is
        ∙ sym (item_of-is overlap (sub i) (position past i) filled (long.each i) settled stands.least)
        ∙ ap (λ (q : Part). q.slot) (sym is)

    next : position_after gave (slot_at (cross old.overlap (sub i filled)) (position past i)) (position past i) ≡ position (moment ∷ past) i
    next =
        ap (λ (s : Slot). position_after gave s (position past i)) item
        ∙ next_item gave mark part.slot (position past i) gave_is
        ∙ ap (λ (g : Bool). cond (g || not (is_some part.slot)) (suc (position past i)) (position past i)) (gave_is ∙ sym (given moment i part mark had))
        ∙ ap (λ (q : Part). cond (gives moment i || not (is_some q.slot)) (suc (position past i)) (position past i)) (sym had.part_is)
cross_step setting sub past moment filled i (Reads buffer) slots old new part mark gave long gave_is same steps stands settled is had = absurd stands
