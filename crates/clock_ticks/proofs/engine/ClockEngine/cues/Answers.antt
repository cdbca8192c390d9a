use Rattle.std.proofs.Common.{◌≡◌, ◌<◌, ◌∙◌, Some, length, map, slice_get, arith, ap, sym, refl, subst, inl, inr}
use Rattle.std.proofs.lemmas.Bool.{true≢false}
use Rattle.std.proofs.lemmas.Option.{slice_get_read, slice_get_within}
use Rattle.stream_meaning.specs.Sinks.{cues, IsOutput}
use Rattle.stream_meaning.specs.Instants.{with_rest}
use Rattle.clock_ticks.specs.Cues.{mark_of}
use Rattle.clock_ticks.specs.Engines.{EngineStands, EngineStopped, setting_of}
use Rattle.clock_nodes.proofs.Places.{below_or_same}
use Rattle.clock_ticks.proofs.Numbered.{port_found, port_node}
use Rattle.clock_ticks.proofs.engine.ClockEngine.cues.Goals as goal

-- an engine that keeps no marks
pub returns-then-not-self-clause-made : goal.returns-then-not-self-clause-made
returns-then-not-self-clause-made g c ticks answers rest node stands keeping output =
    absurd (true≢false (sym keeping ∙ sym (ap (λ w. w.parts.cues.keeping) c.self.view_is) ∙ c.if-not-self.true))

pub returns-then-not-self-clause-stopped : goal.returns-then-not-self-clause-stopped
returns-then-not-self-clause-stopped g c ticks answers rest made node stopped keeping output =
    absurd (true≢false (sym keeping ∙ sym (ap (λ w. w.parts.cues.keeping) c.self.view_is) ∙ c.if-not-self.true))

pub returns-then-index-sink-clause-none : goal.returns-then-index-sink-clause-none
returns-then-index-sink-clause-none g c none = absurd (true≢false (sym c.if-not-self.false ∙ ap (λ w. w.parts.cues.keeping) c.self.view_is ∙ none))

pub returns-then-index-sink-clause-made : goal.returns-then-index-sink-clause-made
returns-then-index-sink-clause-made g c ticks answers rest node stands keeping output =
    let within : c.loop-k.k < length c.self.inside.parts.ports.items = omega (arith, c.loop-k-test.true, c.len-k-end.ensures ∙ c.self.inside.parts.ports.ok.0) in
    let at : slice_get c.self.inside.parts.ports.items c.loop-k.k ≡ Some c.index.result.now = slice_get_read _ _ _ _ refl within c.index.ensures in
    let there : c.loop-k.k < length c.self.inside.parts.cues.lists.items = omega (arith, within, c.self.invariant.parts.lists) in
    let its : slice_get c.self.inside.parts.cues.lists.items c.loop-k.k ≡ Some c.index-then-index-sink.result.now = slice_get_read _ _ _ _ refl there c.index-then-index-sink.ensures in
    let stood : EngineStands c.self.inside.parts ticks answers = subst (λ w. EngineStands w.parts ticks answers) (sym c.self.view_is) stands in
    let keeps = ap (λ w. w.parts.cues.keeping) c.self.view_is ∙ keeping in
    let output_in : IsOutput (setting_of c.self.inside.parts) c.self.inside.parts.clock c.args.sink node = subst (λ w. IsOutput (setting_of w.parts) w.parts.clock c.args.sink node) (sym c.self.view_is) output in
    rw (← c.self.view_is) (c.whole_marks.ensures.runs stood.runs
    ∙ stood.cues_are (λ e. absurd (true≢false (sym keeps ∙ e))) rest c.loop-k.k c.index.result.now c.index-then-index-sink.result.now at its
    ∙ ap (λ i. map mark_of (cues (with_rest (setting_of c.self.inside.parts) answers rest) i ticks))
    (port_node (setting_of c.self.inside.parts) c.self.inside.parts.clock c.self.inside.parts.ports.items c.self.invariant.parts.outputs c.args.sink node output_in c.loop-k.k c.index.result.now at c.if-index-sink.true))

pub returns-then-index-sink-clause-stopped : goal.returns-then-index-sink-clause-stopped
returns-then-index-sink-clause-stopped g c ticks answers rest made node stopped keeping output =
    let within : c.loop-k.k < length c.self.inside.parts.ports.items = omega (arith, c.loop-k-test.true, c.len-k-end.ensures ∙ c.self.inside.parts.ports.ok.0) in
    let at : slice_get c.self.inside.parts.ports.items c.loop-k.k ≡ Some c.index.result.now = slice_get_read _ _ _ _ refl within c.index.ensures in
    let there : c.loop-k.k < length c.self.inside.parts.cues.lists.items = omega (arith, within, c.self.invariant.parts.lists) in
    let its : slice_get c.self.inside.parts.cues.lists.items c.loop-k.k ≡ Some c.index-then-index-sink.result.now = slice_get_read _ _ _ _ refl there c.index-then-index-sink.ensures in
    let halted : EngineStopped c.self.inside.parts ticks answers made = subst (λ w. EngineStopped w.parts ticks answers made) (sym c.self.view_is) stopped in
    let keeps = ap (λ w. w.parts.cues.keeping) c.self.view_is ∙ keeping in
    let output_in : IsOutput (setting_of c.self.inside.parts) c.self.inside.parts.clock c.args.sink node = subst (λ w. IsOutput (setting_of w.parts) w.parts.clock c.args.sink node) (sym c.self.view_is) output in
    rw (← c.self.view_is) (c.whole_marks.ensures.stopped halted.fault halted.stopped
    ∙ halted.cues_are (λ e. absurd (true≢false (sym keeps ∙ e))) rest c.loop-k.k c.index.result.now c.index-then-index-sink.result.now at its
    ∙ ap (λ i. map mark_of (cues (with_rest (setting_of c.self.inside.parts) answers rest) i ticks))
    (port_node (setting_of c.self.inside.parts) c.self.inside.parts.clock c.self.inside.parts.ports.items c.self.invariant.parts.outputs c.args.sink node output_in c.loop-k.k c.index.result.now at c.if-index-sink.true))

pub loop-k-preserved : goal.loop-k-preserved
loop-k-preserved g c k port below found same =
    let within : c.loop-k.k < length c.self.inside.parts.ports.items = omega (arith, c.loop-k-test.true, c.len-k-end.ensures ∙ c.self.inside.parts.ports.ok.0) in
    let at : slice_get c.self.inside.parts.ports.items c.loop-k.k ≡ Some c.index.result.now = slice_get_read _ _ _ _ refl within c.index.ensures in
    elim (below_or_same k c.loop-k.k below) [
      | inl less ↦ c.loop-k.invariant k port less found same
      | inr here ↦ (let one : Some c.index.result.now ≡ Some port = sym at ∙ ap (slice_get c.self.inside.parts.ports.items) (sym here) ∙ found in
          let its : c.index.result.now ≡ port = cc in
          c.if-index-sink.false (ap (λ p. p.sink) its ∙ same))
    ]

pub returns-clause-made : goal.returns-clause-made
returns-clause-made g c ticks answers rest node stands keeping output =
    let output_in : IsOutput (setting_of c.self.inside.parts) c.self.inside.parts.clock c.args.sink node = subst (λ w. IsOutput (setting_of w.parts) w.parts.clock c.args.sink node) (sym c.self.view_is) output in
    let found = port_found (setting_of c.self.inside.parts) c.self.inside.parts.clock c.self.inside.parts.ports.items c.self.invariant.parts.outputs c.args.sink node output_in in
    let within : found.0 < length c.self.inside.parts.ports.items = slice_get_within c.self.inside.parts.ports.items found.0 found.1 found.2 in
    absurd (c.loop-k.invariant found.0 found.1 (omega (arith, within, c.loop-k-test.false, c.len-k-end.ensures ∙ c.self.inside.parts.ports.ok.0)) found.2 found.3)

pub returns-clause-stopped : goal.returns-clause-stopped
returns-clause-stopped g c ticks answers rest made node stopped keeping output =
    let output_in : IsOutput (setting_of c.self.inside.parts) c.self.inside.parts.clock c.args.sink node = subst (λ w. IsOutput (setting_of w.parts) w.parts.clock c.args.sink node) (sym c.self.view_is) output in
    let found = port_found (setting_of c.self.inside.parts) c.self.inside.parts.clock c.self.inside.parts.ports.items c.self.invariant.parts.outputs c.args.sink node output_in in
    let within : found.0 < length c.self.inside.parts.ports.items = slice_get_within c.self.inside.parts.ports.items found.0 found.1 found.2 in
    absurd (c.loop-k.invariant found.0 found.1 (omega (arith, within, c.loop-k-test.false, c.len-k-end.ensures ∙ c.self.inside.parts.ports.ok.0)) found.2 found.3)
