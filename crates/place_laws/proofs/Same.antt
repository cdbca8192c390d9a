-- `liq` and `about` say one thing.
use Rattle.std.proofs.Common.{◌≡◌, ◌∙◌, ◌<◌, ℕ, zero, suc, Bool, true, false, List, [], ◌∷◌, Some, None, ap, refl, subst, arith}
use Rattle.std.specs.Prelude.{All, if◌then◌else◌, slice_get}
use Rattle.std.proofs.lemmas.List.Elements.{All-head, All-tail}
use Rattle.fallible_infer.specs.Infallible.{refuses}
use Rattle.plan_core.specs.declared.sink.SinkPlan.{SinkPlan}
use Rattle.wav_io.specs.declared.fault.WavFault.TheVariants.{NotRiff, NoFormat, BadFormat, NotPcm, NoData, Empty}
use Rattle.stations.specs.Findings.{first_name, sink_name}
use Rattle.place_laws.specs.Same.{NoneIsNone, NumbersAgree, OutputsAgree, RulesAgree}

pub numbers : NumbersAgree
numbers NotRiff = refl
numbers NoFormat = refl
numbers BadFormat = refl
numbers NotPcm = refl
numbers NoData = refl
numbers Empty = refl

pub rules : RulesAgree
rules plan = refl

passed : (mark : ℕ → Bool) (sink : SinkPlan) (sinks : List SinkPlan) → refuses mark sink ≡ false
    → first_name (refuses mark) (sink ∷ sinks) ≡ first_name (refuses mark) sinks
passed mark sink sinks is = ap (λ (b : Bool). if b then Some (sink_name sink) else first_name (refuses mark) sinks) is

no_name : (mark : ℕ → Bool) (sinks : List SinkPlan) → All (λ sink. refuses mark sink ≡ false) sinks → first_name (refuses mark) sinks ≡ None
no_name mark [] all = refl
no_name mark (sink ∷ sinks) all =
    let P : SinkPlan → Type 0 = λ s. refuses mark s ≡ false in
    passed mark sink sinks (All-head P sink sinks all) ∙ no_name mark sinks (All-tail P sink sinks all)

pub none : NoneIsNone
none plan mark all = no_name mark plan.sinks all

one_name : (mark : ℕ → Bool) (sinks : List SinkPlan) (k : ℕ) (sink : SinkPlan) → slice_get sinks k ≡ Some sink → refuses mark sink ≡ true
    → ((j : ℕ) (s : SinkPlan) → j < k → slice_get sinks j ≡ Some s → refuses mark s ≡ false)
    → first_name (refuses mark) sinks ≡ Some (sink_name sink)
one_name mark [] k sink there is before = absurd (cc)
one_name mark (s ∷ sinks) zero sink there is before =
    let same : s ≡ sink = cc in
    ap (λ (b : Bool). if b then Some (sink_name s) else first_name (refuses mark) sinks) (ap (refuses mark) same ∙ is) ∙ ap (λ (x : SinkPlan). Some (sink_name x)) same
one_name mark (s ∷ sinks) (suc k) sink there is before =
    passed mark s sinks (before 0 s (omega arith) refl)
    ∙ one_name mark sinks k sink there is (λ j other less at. before (suc j) other (omega (arith, less)) at)

pub outputs : OutputsAgree
outputs plan mark k sink refused at =
    let there = refused.0.1 in
    let same : refused.0.0 ≡ sink = cc in
    one_name mark plan.sinks k sink at (subst (λ (s : SinkPlan). refuses mark s ≡ true) same refused.0.2) refused.1
