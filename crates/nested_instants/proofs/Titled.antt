-- The title that is held of a node.
use Rattle.std.proofs.Common.{◌≡◌, ◌<◌, ◌∙◌, ℕ, List, [], length, get_or, Bool, true, false, refl, ap, sym, inl, inr}
use Rattle.std.specs.Prelude.{is_some, ◌&&◌}
use Rattle.std.proofs.lemmas.Bool.{false≢true, cases_lt}
use Rattle.std.proofs.lemmas.Option.{slice_get-get_or}
use Rattle.liq_base.specs.declared.memory.Kind.TheVariants.{Mono}
use Rattle.plan_core.specs.declared.node.Node.{Node}
use Rattle.plan_core.specs.declared.node.Op.TheVariants.{Fail}
use Rattle.clock_infer.specs.declared.clock_map.NodeClock.{NodeClock}
use Rattle.frame_core.specs.Slots.{Slot, title_of}
use Rattle.stream_meaning.specs.declared.part.Part.{Part}
use Rattle.stream_meaning.specs.Instants.{Setting, Moment, demanded, gives, lies_in, moment_after, offer, part_at}
use Rattle.stretch_laws.proofs.Parts.{other_part, part_past}
use Rattle.node_states.proofs.Hearing.{given_yes}
use Rattle.clock_instants.specs.Held.{IsHeld}

and_right : (a b : Bool) → (a && b) ≡ true → b ≡ true
and_right true b e = e
and_right false b e = absurd (false≢true e)

no_node : Node
no_node = record { op = Fail; kind = Mono; children = [] }

-- a node that gives lies in the clock
module _ (setting : Setting) (sub : ℕ → ℕ → List Slot) (clock : NodeClock) (past : List Moment) (i : ℕ)
    (gave : gives (moment_after setting sub clock past) i ≡ true) where
  offers : is_some (offer (moment_after setting sub clock past) i) ≡ true
  offers = and_right (demanded (moment_after setting sub clock past) i) (is_some (offer (moment_after setting sub clock past) i)) gave

  pub low : i < length setting.plan.nodes
  low = elim (cases_lt i (length setting.plan.nodes)) [
    | inl less ↦ less
    | inr high ↦ absurd (false≢true (ap (λ (p : Part). is_some p.slot) (sym (part_past setting sub clock past i high)) ∙ offers))
  ]

  pub inside : lies_in setting clock i ≡ true
  inside = by (lies_in setting clock i) refl
    where
      by : (now : Bool) → lies_in setting clock i ≡ now → now ≡ true
      by true e = refl
      by false e = absurd (false≢true (ap (λ (p : Part). is_some p.slot)
          (sym (other_part setting sub clock past (length setting.plan.nodes) i (get_or setting.plan.nodes i no_node) low (slice_get-get_or setting.plan.nodes i no_node low) e)) ∙ offers))

-- what is held of a node that gave has its title
pub held_title : (setting : Setting) (sub : ℕ → ℕ → List Slot) (clock : NodeClock) (past : List Moment) (held : List Part) (i : ℕ) → IsHeld setting sub clock past held
    → gives (moment_after setting sub clock past) i ≡ true → title_of (part_at held i).slot ≡ title_of (offer (moment_after setting sub clock past) i)
held_title setting sub clock past held i is gave =
    ap (λ (p : Part). title_of p.slot) (is.each i (low setting sub clock past i gave) (inside setting sub clock past i gave) ∙ given_yes (moment_after setting sub clock past) i gave)
