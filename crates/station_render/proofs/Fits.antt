-- What a plan that fits is known to have.
use Rattle.std.proofs.Common.{◌≡◌, ◌<◌, ◌*◌, ◌∙◌, ℕ, zero, suc, Bool, true, false, List, [], ◌∷◌, slice_get, arith, refl, ap, sym, if◌then◌else◌}
use Rattle.std.specs.Prelude.{Some, None, is_none, Contains}
use Rattle.plan_core.specs.declared.plan.Plan.{Plan}
use Rattle.plan_core.specs.declared.sink.SinkPlan.{SinkPlan}
use Rattle.plan_core.specs.declared.sink.SinkPlan.TheVariants.{Output}
use Rattle.clock_infer.specs.declared.clock_map.ClockMap.{ClockMap}
use Rattle.clock_infer.specs.declared.clock_map.NodeClock.TheVariants.{Main}
use Rattle.clock_infer.proofs.MapLaws as map_law
use Rattle.frame_core.specs.Library.{Sounds}
use Rattle.wav_io.specs.Header.{header_at}
use Rattle.stations.specs.Findings.{IsFit, first_name, is_too_long, node_kind, sink_name}
use Rattle.station_render.specs.Renders.{AreMain}
use Rattle.station_render.proofs.Lists.{within, got_is}

pub contains : {A : Type 0} (xs : List A) (k : ℕ) (x : A) → slice_get xs k ≡ Some x → Contains xs x
contains xs k x at = (k, within xs k x at, got_is xs k x x at)

-- a sink that passes is no first one where there is none
pub none_such : (such : SinkPlan → Bool) (sinks : List SinkPlan) (k : ℕ) (sink : SinkPlan) → first_name such sinks ≡ None → slice_get sinks k ≡ Some sink → such sink ≡ false
none_such such [] k sink none at = absurd (cc)
none_such such (x ∷ sinks) k sink none at = by_test (such x) refl k at none (λ j found rest. none_such such sinks j sink rest found)
  where
    by_test : (b : Bool) → such x ≡ b → (k : ℕ) → slice_get (x ∷ sinks) k ≡ Some sink
        → (if b then Some (sink_name x) else first_name such sinks) ≡ None → ((j : ℕ) → slice_get sinks j ≡ Some sink → first_name such sinks ≡ None → such sink ≡ false) → such sink ≡ false
    by_test true is k at none later = absurd (cc)
    by_test false is zero at none later = (let same : x ≡ sink = (cc) in ap such (sym same) ∙ is)
    by_test false is (suc k) at none later = later k at none

module _ (plan : Plan) (library : Sounds) (clocks : ClockMap) (ticks : ℕ) (fit : IsFit plan library clocks ticks) where
  pub are_main : AreMain plan clocks
  are_main k name node fallible wide at =
      map_law.sinks plan clocks (Output name node fallible wide) fit.plan_is fit.map (contains plan.sinks k (Output name node fallible wide) at)

  pub header_fits : (k : ℕ) (name : List ℕ) (node : ℕ) (fallible wide : Bool) → slice_get plan.sinks k ≡ Some (Output name node fallible wide)
      → is_none (header_at wide (node_kind plan node) plan.rate (ticks * plan.frame)) ≡ false
  header_fits k name node fallible wide at = none_such (is_too_long plan ticks) plan.sinks k (Output name node fallible wide) fit.none at

  -- the clock of an output is one of those that run
  pub clock_below : (k : ℕ) (name : List ℕ) (node : ℕ) (fallible wide : Bool) → slice_get plan.sinks k ≡ Some (Output name node fallible wide)
      → (clock : ℕ) → slice_get clocks.of node ≡ Some (Main clock) → (many : ℕ) → many ≡ clocks.running → clock < many
  clock_below k name node fallible wide at clock is many size =
      let main = are_main k name node fallible wide at in
      let both : Some (Main main.0) ≡ Some (Main clock) = sym main.2 ∙ is in
      let same : main.0 ≡ clock = cc in
      let low = main.1 in
      omega (arith, low, same, size)

pub main_below : (plan : Plan) (clocks : ClockMap) → AreMain plan clocks → (k : ℕ) (name : List ℕ) (node : ℕ) (fallible wide : Bool) → slice_get plan.sinks k ≡ Some (Output name node fallible wide)
    → (clock : ℕ) → slice_get clocks.of node ≡ Some (Main clock) → (many : ℕ) → many ≡ clocks.running → clock < many
main_below plan clocks main k name node fallible wide at clock is many size =
    let found = main k name node fallible wide at in
    let both : Some (Main found.0) ≡ Some (Main clock) = sym found.2 ∙ is in
    let same : found.0 ≡ clock = cc in
    let low = found.1 in
    omega (arith, low, same, size)
