-- The outputs of a plan with one.
use Rattle.std.proofs.Common.{◌≡◌, ◌∙◌, ℕ, suc, Some, List, [], ◌∷◌, length, slice_get, cond, ap}
use Rattle.std.proofs.lemmas.Option.{get_or_from_slice_get, none-some}
use Rattle.plan_core.specs.declared.plan.Plan.{Plan}
use Rattle.plan_core.specs.declared.sink.SinkPlan.{SinkPlan}
use Rattle.plan_core.specs.declared.sink.SinkPlan.TheVariants.{Output, Feed}
use Rattle.plan_samples.specs.Stereos.{sole_node}
use Rattle.clock_infer.specs.declared.clock_map.ClockMap.{ClockMap}
use Rattle.clock_infer.specs.declared.clock_map.NodeClock.TheVariants.{Main}
use Rattle.frame_core.specs.Library.{Sounds}
use Rattle.stream_meaning.specs.Instants.{same_clock}
use Rattle.clock_ticks.specs.Engines.{outputs_from, outputs_of}
use Rattle.engine_tests.specs.SettingOver.{setting_over}

module _ (plan : Plan) (library : Sounds) (clocks : ClockMap) (node : ℕ) (clock : slice_get clocks.of node ≡ Some (Main 0)) where
  abbrev outputs_among : (i : ℕ) → List SinkPlan → List (ℕ × ℕ)
  outputs_among i sinks = outputs_from (setting_over plan library clocks) 0 i sinks

  one_among : (sinks : List SinkPlan) (i : ℕ) → sole_node sinks ≡ Some node → length (outputs_among i sinks) ≡ 1
  one_among [] i is = absurd (none-some node is)
  one_among (Feed buffer other ∷ sinks) i is = one_among sinks (suc i) is
  one_among (Output name other fallible wide ∷ []) i is =
      let same : other ≡ node = cc in
      let within = ap (λ c. same_clock c (Main 0)) (get_or_from_slice_get clocks.of node (Main 0) (Main 0) clock) in
      let one : List (ℕ × ℕ) = (i, node) ∷ [] in
      let none : List (ℕ × ℕ) = [] in
      ap (λ n. length (outputs_among i (Output name n fallible wide ∷ []))) same ∙ ap (λ b. length (cond b one none)) within
  one_among (Output name other fallible wide ∷ sink ∷ sinks) i is = absurd (none-some node is)

  -- the main clock 0 of a plan that writes one node, which lies in it, has one output
  pub one_output : sole_node plan.sinks ≡ Some node → length (outputs_of (setting_over plan library clocks) 0) ≡ 1
  one_output sinks = one_among plan.sinks 0 sinks
