-- Lawful records of a buffer with room for two windows and what its reader owes.
use Rattle.std.proofs.Common.{◌≡◌, ◌<◌, ◌≤◌, ◌+◌, ◌*◌, ℕ, suc, max, false, length, Some, slice_get, flat_map, inr, refl, ap, sym, subst, ◌∙◌, arith}
use Rattle.plan_core.specs.declared.node.Node.{Node}
use Rattle.plan_core.specs.declared.sink.SinkPlan.TheVariants.{Feed}
use Rattle.clock_infer.specs.declared.clock_map.ClockMap.{ClockMap}
use Rattle.stream_meaning.specs.Operators.{Reads}
use Rattle.stream_meaning.specs.Settings.{IsSetting}
use Rattle.stream_meaning.specs.Instants.{Setting, prefill, new_reading, work_at}
use Rattle.stream_meaning.proofs.Sorted.{reads_op}
use Rattle.run_records.specs.Buffers.{feeder}
use Rattle.run_records.specs.Records.{Run, Window, AreWindows, windows_of, answers_of, puts_of, capacity_of, setting_in, start}
use Rattle.run_records.specs.Pace.{has_none, AreSmall, AreTicks, IsDrawn}
use Rattle.run_records.proofs.Flattening.{all_puts}
use Rattle.run_records.proofs.Pace.{paced_windows_refuse_nothing}
use Rattle.run_records.proofs.Owing.{windows_keep_pace}
use Rattle.run_records.proofs.Paced.{drawn_ticks}
use Rattle.run_records.proofs.Short.{from_empty, upto_small}

module _ (setting : Setting) (clocks : ClockMap) (is : IsSetting setting clocks) (W N D b m i : ℕ) (node : Node) (run : Run) (lawful : AreWindows setting clocks.running W N run)
    (less : b < length setting.plan.buffers) (drawn : IsDrawn (setting_in setting run) b m i node) (runs : m < clocks.running) where
  only : (k : ℕ) (other : Node) → slice_get setting.plan.nodes k ≡ Some other → work_at setting k other ≡ Reads b → k ≡ i
  only k other at does =
      let one = is.plan.one_reader b less in
      one.2 k (other, at, reads_op setting.plan.rate k other.kind other.op b does)
      ∙ sym (one.2 i (node, drawn.found, reads_op setting.plan.rate i node.kind node.op b drawn.does))

  fed : (p q x y : ℕ) → slice_get setting.plan.sinks p ≡ Some (Feed b x) → slice_get setting.plan.sinks q ≡ Some (Feed b y) → p ≡ q
  fed p q x y at also = let one = is.plan.one_feed b less in one.2 p (x, at) ∙ sym (one.2 q (y, also))

  ticks : AreTicks W (answers_of run b) (new_reading setting b).reader (windows_of run b)
  ticks = subst (AreTicks W (answers_of run b) (new_reading setting b).reader) (sym (lawful.are b less))
      (drawn_ticks (setting_in setting run) clocks.running lawful.accepted b W N m i node drawn is.plan.frame.0 only fed drawn.reads runs lawful.count)

  small : AreSmall setting.plan.frame (answers_of run b)
  small =
      let S = setting_in setting run in
      let whole = lawful.legal b less in
      from_empty setting.plan.frame (capacity_of setting b) whole.0 (windows_of run b)
      (subst (AreSmall setting.plan.frame) (sym (ap (flat_map (λ (w : Window). w.0)) (lawful.are b less) ∙ all_puts S clocks.running lawful.accepted b W N lawful.count))
      (upto_small S b clocks.running lawful.accepted (feeder S b) (start W N lawful.count)))
      whole.1

  pub refuses_nothing : max 1 (prefill setting b) ≤ suc D * setting.plan.frame → W + W + D ≤ capacity_of setting b → has_none (puts_of run b) ≡ false
  refuses_nothing low wide =
      let whole = lawful.legal b less in
      let held : 1 ≤ max 1 (prefill setting b) = omega arith in
      paced_windows_refuse_nothing (capacity_of setting b) W D (windows_of run b) whole.0 wide
      (windows_keep_pace D W (windows_of run b) (answers_of run b) (new_reading setting b).reader
      (record { some = is.plan.frame.0; held = held; low = low; small = small }) D (omega arith, inr (refl, held, refl)) ticks)
      whole.1

pub roomy_buffers_refuse_nothing : (setting : Setting) (clocks : ClockMap) → IsSetting setting clocks → (W N D buffer m i : ℕ) (node : Node) (run : Run) → AreWindows setting clocks.running W N run
    → buffer < length setting.plan.buffers → IsDrawn (setting_in setting run) buffer m i node → m < clocks.running
    → max 1 (prefill setting buffer) ≤ suc D * setting.plan.frame → W + W + D ≤ capacity_of setting buffer → has_none (puts_of run buffer) ≡ false
roomy_buffers_refuse_nothing setting clocks is W N D buffer m i node run lawful less drawn runs low wide = refuses_nothing setting clocks is W N D buffer m i node run lawful less drawn runs low wide
