-- The first sink that is such.
use Rattle.std.proofs.Common.{◌≡◌, ◌∙◌, ℕ, zero, suc, ◌<◌, ◌&&◌, Bool, true, false, not, List, [], ◌∷◌, Some, None, length, slice_get, refl, ap, subst, arith}
use Rattle.std.specs.Prelude.{if◌then◌else◌}
use Rattle.std.proofs.lemmas.Option.{get_or_from_slice_get, slice_get_within}
use Rattle.plan_core.specs.declared.plan.Plan.{Plan}
use Rattle.plan_core.specs.declared.sink.SinkPlan.{SinkPlan}
use Rattle.plan_core.specs.declared.sink.SinkPlan.TheVariants.{Output, Feed}
use Rattle.plan_core.specs.Plans.{IsWellFormed, sink_node}
use Rattle.fallible_infer.specs.Infallible.{IsMarking, refuses}
use Rattle.fallible_infer.proofs.Marking.{one_marking}
use Rattle.stations.specs.Findings.{first_name, sink_name}

-- the first one, at its place
pub first_at : (such : SinkPlan → Bool) (sinks : List SinkPlan) (k : ℕ) (sink : SinkPlan) → slice_get sinks k ≡ Some sink → such sink ≡ true
    → ((j : ℕ) (s : SinkPlan) → j < k → slice_get sinks j ≡ Some s → such s ≡ false) → first_name such sinks ≡ Some (sink_name sink)
first_at such [] k sink at holds before = absurd cc
first_at such (s ∷ sinks) zero sink at holds before =
    let same : s ≡ sink = cc in
    let here : such s ≡ true = ap such same ∙ holds in
    ap (λ b. if b then Some (sink_name s) else first_name such sinks) here ∙ ap (λ x. Some (sink_name x)) same
first_at such (s ∷ sinks) (suc k) sink at holds before =
    ap (λ b. if b then Some (sink_name s) else first_name such sinks) (before 0 s (omega arith) refl)
    ∙ first_at such sinks k sink at holds (λ j x less there. before (suc j) x (omega arith) there)

-- there is none
pub none_of : (such : SinkPlan → Bool) (sinks : List SinkPlan) → ((j : ℕ) (s : SinkPlan) → slice_get sinks j ≡ Some s → such s ≡ false) → first_name such sinks ≡ None
none_of such [] each = refl
none_of such (s ∷ sinks) each =
    ap (λ b. if b then Some (sink_name s) else first_name such sinks) (each 0 s refl) ∙ none_of such sinks (λ j x there. each (suc j) x there)

-- two tests that are the same for each sink have the same first one
pub first_by : (such other : SinkPlan → Bool) (sinks : List SinkPlan) → ((k : ℕ) (sink : SinkPlan) → slice_get sinks k ≡ Some sink → such sink ≡ other sink)
    → first_name such sinks ≡ first_name other sinks
first_by such other [] same = refl
first_by such other (s ∷ sinks) same =
    ap (λ b. if b then Some (sink_name s) else first_name such sinks) (same 0 s refl)
    ∙ ap (λ o. if other s then Some (sink_name s) else o) (first_by such other sinks (λ k x there. same (suc k) x there))

pub refuses_by : (mark other : ℕ → Bool) (sink : SinkPlan) → mark (sink_node sink) ≡ other (sink_node sink) → refuses mark sink ≡ refuses other sink
refuses_by mark other (Output name node fallible wide) e = ap (λ b. not fallible && not b) e
refuses_by mark other (Feed buffer node) e = refl

-- all markings of a plan refuse the same output first
pub one_refused : (plan : Plan) (mark other : ℕ → Bool) → IsWellFormed plan → IsMarking plan.nodes mark → IsMarking plan.nodes other
    → first_name (refuses mark) plan.sinks ≡ first_name (refuses other) plan.sinks
one_refused plan mark other well a b = first_by (refuses mark) (refuses other) plan.sinks (λ k sink at.
    let within : sink_node sink < length plan.nodes =
    subst (λ s. sink_node s < length plan.nodes) (get_or_from_slice_get plan.sinks k sink sink at) (well.sinks k sink (slice_get_within plan.sinks k sink at)) in
    refuses_by mark other sink (one_marking plan.nodes mark other (sink_node sink) well.nodes a b within))
