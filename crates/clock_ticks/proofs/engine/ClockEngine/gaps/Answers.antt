use Rattle.std.proofs.Common.{◌≡◌, ◌<◌, ◌∙◌, Some, length, get_or, slice_get, arith, ap, sym, refl, subst, inl, inr}
use Rattle.std.proofs.lemmas.Option.{slice_get_read, slice_get_within}
use Rattle.stream_meaning.specs.Sinks.{gaps, IsOutput}
use Rattle.stream_meaning.specs.Instants.{with_rest}
use Rattle.clock_ticks.specs.Engines.{EngineStands, EngineStopped, setting_of}
use Rattle.clock_nodes.proofs.Places.{below_or_same}
use Rattle.clock_ticks.proofs.Numbered.{port_found, port_node}
use Rattle.clock_ticks.proofs.engine.ClockEngine.gaps.Goals as goal

pub returns-then-port-sink-clause-made : goal.returns-then-port-sink-clause-made
returns-then-port-sink-clause-made g c ticks answers rest node stands output =
    let within : c.loop-port.port-index < length c.self.inside.parts.ports.items = omega (arith, c.loop-port-test.true, ap length c.deref-port-items.ensures.value) in
    let at : slice_get c.self.inside.parts.ports.items c.loop-port.port-index ≡ Some c.port-item.result =
    slice_get_read _ _ _ _ refl within (c.port-item.is ∙ ap (λ xs. get_or xs c.loop-port.port-index c.port-item.result) c.deref-port-items.ensures.value) in
    let stood : EngineStands c.self.inside.parts ticks answers = subst (λ w. EngineStands w.parts ticks answers) (sym c.self.view_is) stands in
    let output_in : IsOutput (setting_of c.self.inside.parts) c.self.inside.parts.clock c.args.sink node = subst (λ w. IsOutput (setting_of w.parts) w.parts.clock c.args.sink node) (sym c.self.view_is) output in
    rw (← c.self.view_is) (c.whole_gaps.ensures.runs stood.runs ∙ stood.gaps_are rest c.loop-port.port-index c.port-item.result at
    ∙ ap (λ i. gaps (with_rest (setting_of c.self.inside.parts) answers rest) i ticks)
    (port_node (setting_of c.self.inside.parts) c.self.inside.parts.clock c.self.inside.parts.ports.items c.self.invariant.parts.outputs c.args.sink node output_in c.loop-port.port-index c.port-item.result at c.if-port-sink.true))

pub returns-then-port-sink-clause-stopped : goal.returns-then-port-sink-clause-stopped
returns-then-port-sink-clause-stopped g c ticks answers rest made node stopped output =
    let within : c.loop-port.port-index < length c.self.inside.parts.ports.items = omega (arith, c.loop-port-test.true, ap length c.deref-port-items.ensures.value) in
    let at : slice_get c.self.inside.parts.ports.items c.loop-port.port-index ≡ Some c.port-item.result =
    slice_get_read _ _ _ _ refl within (c.port-item.is ∙ ap (λ xs. get_or xs c.loop-port.port-index c.port-item.result) c.deref-port-items.ensures.value) in
    let halted : EngineStopped c.self.inside.parts ticks answers made = subst (λ w. EngineStopped w.parts ticks answers made) (sym c.self.view_is) stopped in
    let output_in : IsOutput (setting_of c.self.inside.parts) c.self.inside.parts.clock c.args.sink node = subst (λ w. IsOutput (setting_of w.parts) w.parts.clock c.args.sink node) (sym c.self.view_is) output in
    rw (← c.self.view_is) (c.whole_gaps.ensures.stopped halted.fault halted.stopped ∙ halted.gaps_are rest c.loop-port.port-index c.port-item.result at
    ∙ ap (λ i. gaps (with_rest (setting_of c.self.inside.parts) answers rest) i ticks)
    (port_node (setting_of c.self.inside.parts) c.self.inside.parts.clock c.self.inside.parts.ports.items c.self.invariant.parts.outputs c.args.sink node output_in c.loop-port.port-index c.port-item.result at c.if-port-sink.true))

pub loop-port-preserved : goal.loop-port-preserved
loop-port-preserved g c k port below found same =
    let within : c.loop-port.port-index < length c.self.inside.parts.ports.items = omega (arith, c.loop-port-test.true, ap length c.deref-port-items.ensures.value) in
    let at : slice_get c.self.inside.parts.ports.items c.loop-port.port-index ≡ Some c.port-item.result =
    slice_get_read _ _ _ _ refl within (c.port-item.is ∙ ap (λ xs. get_or xs c.loop-port.port-index c.port-item.result) c.deref-port-items.ensures.value) in
    elim (below_or_same k c.loop-port.port-index below) [
      | inl less ↦ c.loop-port.invariant k port less found same
      | inr here ↦ (let one : Some c.port-item.result ≡ Some port = sym at ∙ ap (slice_get c.self.inside.parts.ports.items) (sym here) ∙ found in
          let its : c.port-item.result ≡ port = cc in
          c.if-port-sink.false (ap (λ p. p.sink) its ∙ same))
    ]

pub returns-clause-made : goal.returns-clause-made
returns-clause-made g c ticks answers rest node stands output =
    let output_in : IsOutput (setting_of c.self.inside.parts) c.self.inside.parts.clock c.args.sink node = subst (λ w. IsOutput (setting_of w.parts) w.parts.clock c.args.sink node) (sym c.self.view_is) output in
    let found = port_found (setting_of c.self.inside.parts) c.self.inside.parts.clock c.self.inside.parts.ports.items c.self.invariant.parts.outputs c.args.sink node output_in in
    let within : found.0 < length c.self.inside.parts.ports.items = slice_get_within c.self.inside.parts.ports.items found.0 found.1 found.2 in
    absurd (c.loop-port.invariant found.0 found.1 (omega (arith, within, c.loop-port-test.false, ap length c.deref-port-items.ensures.value)) found.2 found.3)

pub returns-clause-stopped : goal.returns-clause-stopped
returns-clause-stopped g c ticks answers rest made node stopped output =
    let output_in : IsOutput (setting_of c.self.inside.parts) c.self.inside.parts.clock c.args.sink node = subst (λ w. IsOutput (setting_of w.parts) w.parts.clock c.args.sink node) (sym c.self.view_is) output in
    let found = port_found (setting_of c.self.inside.parts) c.self.inside.parts.clock c.self.inside.parts.ports.items c.self.invariant.parts.outputs c.args.sink node output_in in
    let within : found.0 < length c.self.inside.parts.ports.items = slice_get_within c.self.inside.parts.ports.items found.0 found.1 found.2 in
    absurd (c.loop-port.invariant found.0 found.1 (omega (arith, within, c.loop-port-test.false, ap length c.deref-port-items.ensures.value)) found.2 found.3)
