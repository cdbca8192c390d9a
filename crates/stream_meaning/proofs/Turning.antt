-- What a rotate or a random goes by is the past behind the instants at which it gave.
use Rattle.std.proofs.Common.{◌≡◌, ◌<◌, ◌∙◌, ℕ, zero, suc, Some, None, Option, List, [], ◌∷◌, length, slice_get, Bool, true, false, cond, arith, refl, ap, sym, Contains}
use Rattle.std.specs.Prelude.{is_some, ◌&&◌}
use Rattle.std.proofs.lemmas.Bool.{false≢true}
use Rattle.std.proofs.lemmas.Option.{slice_get_within}
use Rattle.plan_core.specs.declared.node.Node.{Node}
use Rattle.plan_core.specs.Plans.{AreNodes}
use Rattle.plan_core.proofs.Paths.{child_below}
use Rattle.clock_infer.proofs.Exact.{there_more}
use Rattle.frame_core.specs.Slots.{Slot, is_first}
use Rattle.op_select.specs.declared.rule.Picked.{Picked}
use Rattle.op_turn.specs.declared.turn.Turn.{Turn}
use Rattle.op_turn.specs.Turns.{Past, offered, past_behind, past_of}
use Rattle.op_turn.proofs.Standing.{given_is}
use Rattle.stream_meaning.specs.declared.part.Part.{Part}
use Rattle.stream_meaning.specs.Operators.{Eligible, Picks, TakesTurns}
use Rattle.stream_meaning.specs.Instants.{Setting, Moment, clock_of, demanded, gives, first_instants, moment_after, offer, part_at, part_by, parts_upto, picked_part, slots_at, work_at}
use Rattle.stream_meaning.specs.Choices.{gave_over, turned}
use Rattle.stream_meaning.proofs.Unfailing.{own_part, parts_are}

and_right : (a b : Bool) → (a && b) ≡ true → b ≡ true
and_right true b e = e
and_right false b e = absurd (false≢true e)

-- one instant more, by what the node did there
abbrev stepped : (gave : Bool) → Part → Past → Past
stepped gave part past = record {
  last = cond gave part.pick past.last;
  choices = cond (gave && is_first part.slot) (suc past.choices) past.choices;
}

module _ (setting : Setting) (sub : ℕ → ℕ → List Slot) (i : ℕ) (node : Node) (turn : Turn) (eligible : Eligible) (nodes : AreNodes setting.plan.nodes)
    (there : slice_get setting.plan.nodes i ≡ Some node) (work : work_at setting i node ≡ Picks (TakesTurns turn) eligible) where
  -- the first n instants of its clock, and the one behind them with its children's slots
  abbrev Gone : ℕ → List Moment
  Gone n = first_instants setting sub (clock_of setting i) n

  abbrev Next : ℕ → Moment
  Next n = moment_after setting sub (clock_of setting i) (Gone n)

  abbrev Slots : ℕ → List Slot
  Slots n = slots_at (Next n).parts node.children

  -- the children stand before the node, so their parts are there when it is reached
  slots_are : (n : ℕ) (children : List ℕ) → ((child : ℕ) → Contains children child → child < i)
      → slots_at (parts_upto setting sub (clock_of setting i) (Gone n) i) children ≡ slots_at (Next n).parts children
  slots_are n [] below = refl
  slots_are n (child ∷ children) below =
      let low : child < i = below child (0, omega arith, refl) in
      let inside = slice_get_within setting.plan.nodes i node there in
      let same : part_at (parts_upto setting sub (clock_of setting i) (Gone n) i) child ≡ part_at (Next n).parts child =
      parts_are setting sub (clock_of setting i) (Gone n) i child low
      ∙ sym (parts_are setting sub (clock_of setting i) (Gone n) (length setting.plan.nodes) child (omega (arith, low, inside))) in
      ap (λ (part : Part). part.slot ∷ slots_at (parts_upto setting sub (clock_of setting i) (Gone n) i) children) same
      ∙ ap (λ rest. (part_at (Next n).parts child).slot ∷ rest) (slots_are n children (λ other among. below other (there_more child children other among)))

  part_is : (n : ℕ) → part_at (Next n).parts i ≡ picked_part (offered turn (turned (Gone n) i) (Slots n))
  part_is n =
      own_part setting sub (Gone n) i node there
      ∙ ap (λ w. part_by setting sub (Gone n) i w (slots_at (parts_upto setting sub (clock_of setting i) (Gone n) i) node.children)) work
      ∙ ap (λ slots. picked_part (offered turn (turned (Gone n) i) slots)) (slots_are n node.children (λ child among. child_below setting.plan.nodes i child node nodes there among))

  gave_by : (n : ℕ) (found : Option Picked) → offered turn (turned (Gone n) i) (Slots n) ≡ found → gives (Next n) i ≡ true
      → turned (Next n ∷ Gone n) i ≡ past_behind turn (turned (Gone n) i) (Slots n)
  gave_by n None is gave =
      absurd (false≢true (sym (ap (λ (part : Part). is_some part.slot) (part_is n ∙ ap picked_part is)) ∙ and_right (demanded (Next n) i) (is_some (offer (Next n) i)) gave))
  gave_by n (Some pick) is gave =
      ap (λ g. stepped g (part_at (Next n).parts i) (turned (Gone n) i)) gave
      ∙ ap (λ part. stepped true part (turned (Gone n) i)) (part_is n ∙ ap picked_part is)
      ∙ sym (given_is turn (turned (Gone n) i) (Slots n) pick (sym is))

  next_by : (n : ℕ) (gave : Bool) → gives (Next n) i ≡ gave → turned (Gone n) i ≡ past_of turn (gave_over (Gone n) i node.children)
      → turned (Next n ∷ Gone n) i ≡ past_of turn (cond gave (Slots n ∷ gave_over (Gone n) i node.children) (gave_over (Gone n) i node.children))
  next_by n true e before =
      gave_by n (offered turn (turned (Gone n) i) (Slots n)) refl e ∙ ap (λ past. past_behind turn past (Slots n)) before
  next_by n false e before = ap (λ g. stepped g (part_at (Next n).parts i) (turned (Gone n) i)) e ∙ before

  pub turned_is : (n : ℕ) → turned (Gone n) i ≡ past_of turn (gave_over (Gone n) i node.children)
  turned_is zero = refl
  turned_is (suc n) = next_by n (gives (Next n) i) refl (turned_is n)
