-- What a state offers is the part of its node.
use Rattle.std.proofs.Common.{◌≡◌, ◌∙◌, ◌<◌, ℕ, List, length, Bool, refl, ap, sym, subst, Option}
use Rattle.frame_core.specs.Slots.{Slot, slot_at}
use Rattle.op_select.specs.declared.rule.Rule.{Rule}
use Rattle.op_select.specs.declared.rule.Picked.{Picked}
use Rattle.op_select.specs.Selection.{Selection, offered, pick_of, picked}
use Rattle.op_turn.specs.declared.turn.Turn.{Turn as TheTurn}
use Rattle.op_turn.specs.Turns.{Past, Turning, StandsFor as TurnStandsFor, offered as turn_offered}
use Rattle.op_cross.specs.Crossfade.{cross}
use Rattle.op_cross.specs.States.{Crossing, StandsFor}
use Rattle.op_cross.proofs.LeastRuns.{item_of-is}
use Rattle.stream_meaning.specs.Operators.{Work, Choice, Eligible, Plays, Picks, Mixes, Fades, Reads, Selects, TakesTurns, marks_at}
use Rattle.stream_meaning.specs.Instants.{Setting, Moment, choices, last_pick, position, part_by, picked_part, second_at, unpicked}
use Rattle.node_states.specs.declared.state.NodeState.TheVariants.{Select, Turn, Cross}
use Rattle.node_states.specs.States.{AreLong, IsSettled, StateStands}

pub select_part : (setting : Setting) (sub : ℕ → ℕ → List Slot) (past : List Moment) (filled i : ℕ) (work : Work) (slots : List Slot)
    (state : Selection) (marks : List Bool) (second : ℕ) (found : Option Picked) → second ≡ second_at setting (length past)
    → StateStands setting sub past filled i work (Select state)
    → ((choice : Choice) (eligible : Eligible) → work ≡ Picks choice eligible → marks ≡ marks_at eligible second (length slots))
    → found ≡ offered state slots marks → picked_part found ≡ part_by setting sub past i work slots
select_part setting sub past filled i (Plays leaf) slots state marks second found at stands marked is = absurd stands
select_part setting sub past filled i (Picks (TakesTurns turn) eligible) slots state marks second found at stands marked is = absurd stands
select_part setting sub past filled i (Picks (Selects rule) eligible) slots state marks second found at stands marked is =
    let last = last_pick past i in
    ap picked_part (is
    ∙ ap (λ (r : Rule). picked slots state.last (pick_of r slots marks state.last)) stands.rule_is
    ∙ ap (λ (l : Option ℕ). picked slots l (pick_of rule slots marks l)) stands.last_is
    ∙ ap (λ (m : List Bool). picked slots last (pick_of rule slots m last)) (marked (Selects rule) eligible refl)
    ∙ ap (λ (s : ℕ). picked slots last (pick_of rule slots (marks_at eligible s (length slots)) last)) at)
select_part setting sub past filled i (Mixes mixing) slots state marks second found at stands marked is = absurd stands
select_part setting sub past filled i (Fades overlap) slots state marks second found at stands marked is = absurd stands
select_part setting sub past filled i (Reads buffer) slots state marks second found at stands marked is = absurd stands

pub turn_part : (setting : Setting) (sub : ℕ → ℕ → List Slot) (past : List Moment) (filled i : ℕ) (work : Work) (slots : List Slot)
    (state : Turning) (found : Option Picked) → StateStands setting sub past filled i work (Turn state)
    → ((turn : TheTurn) (behind : Past) → TurnStandsFor turn behind state → found ≡ turn_offered turn behind slots)
    → picked_part found ≡ part_by setting sub past i work slots
turn_part setting sub past filled i (Plays leaf) slots state found stands is = absurd stands
turn_part setting sub past filled i (Picks (Selects rule) eligible) slots state found stands is = absurd stands
turn_part setting sub past filled i (Picks (TakesTurns turn) eligible) slots state found stands is =
    ap picked_part (is turn (record { last = last_pick past i; choices = choices past i }) stands)
turn_part setting sub past filled i (Mixes mixing) slots state found stands is = absurd stands
turn_part setting sub past filled i (Fades overlap) slots state found stands is = absurd stands
turn_part setting sub past filled i (Reads buffer) slots state found stands is = absurd stands

pub cross_part : (setting : Setting) (sub : ℕ → ℕ → List Slot) (past : List Moment) (filled i : ℕ) (work : Work) (slots : List Slot)
    (state : Crossing) (slot : Slot) → AreLong sub → StateStands setting sub past filled i work (Cross state) → IsSettled sub past filled i work
    → ((list : List Slot) (p : ℕ) → StandsFor state list p → p < length (cross state.overlap list) → slot ≡ slot_at (cross state.overlap list) p)
    → unpicked slot ≡ part_by setting sub past i work slots
cross_part setting sub past filled i (Plays leaf) slots state slot long stands settled items = absurd stands
cross_part setting sub past filled i (Picks rule eligible) slots state slot long stands settled items = absurd stands
cross_part setting sub past filled i (Mixes mixing) slots state slot long stands settled items = absurd stands
cross_part setting sub past filled i (Fades overlap) slots state slot long stands settled items =
    let p = position past i in
    ap unpicked (items (sub i filled) p stands.stands (subst (λ (o : ℕ). p < length (cross o (sub i filled))) (sym stands.overlap_is) settled)
    ∙ ap (λ (o : ℕ). slot_at (cross o (sub i filled)) p) stands.overlap_is
    ∙ sym (item_of-is overlap (sub i) p filled (long.each i) settled stands.least))
cross_part setting sub past filled i (Reads buffer) slots state slot long stands settled items = absurd stands
