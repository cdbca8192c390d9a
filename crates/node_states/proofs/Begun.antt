-- The slots of sub-clocks are as many as were asked for.
use Rattle.std.proofs.Common.{◌≡◌, ◌∙◌, ℕ, List, length}
use Rattle.frame_core.specs.Slots.{Slot}
use Rattle.clock_infer.specs.declared.clock_map.NodeClock.TheVariants.{Sub}
use Rattle.stream_meaning.specs.Instants.{Setting, IsMeaning, first_instants, crossfaded}
use Rattle.stream_meaning.proofs.Unfailing.{slots_long, first_instants_long}
use Rattle.node_states.specs.States.{AreLong}

pub as_many : (setting : Setting) (sub : ℕ → ℕ → List Slot) → IsMeaning setting sub → AreLong sub
as_many setting sub meaning = record { each = each }
  where
    each : (k m : ℕ) → length (sub k m) ≡ m
    each k m =
        let is = meaning k m in
        rw is (slots_long (first_instants setting sub (Sub k) m) (crossfaded setting.plan.nodes k) ∙ first_instants_long setting sub (Sub k) m)
