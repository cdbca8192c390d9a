-- The place of what leaves an output without a sound.
use Rattle.std.proofs.Common.{◌≡◌, ◌≢◌, ◌∙◌, ℕ, ◌<◌, ◌≤◌, List, [], ◌∷◌, Bool, true, false, Option, Some, None, Result, Ok, Err, length, ap, sym, subst, inl, inr, arith}
use Rattle.std.specs.Prelude.{◌⊎◌, All, IfOk, IfSome, if◌then◌else◌}
use Rattle.std.specs.Str.{bytes_eq}
use Rattle.std.proofs.lemmas.List.Elements.{All-head, All-tail}
use Rattle.std.proofs.lemmas.Option.{slice_get_within}
use Rattle.plan_core.specs.declared.plan.Plan.{Plan}
use Rattle.plan_core.specs.declared.sink.SinkPlan.{SinkPlan}
use Rattle.plan_core.specs.declared.sink.SinkPlan.TheVariants.{Output, Feed}
use Rattle.plan_core.specs.Plans.{sink_node}
use Rattle.plan_blames.specs.Needs.{IsCause}
use Rattle.script_plan.specs.Plans.{IsPlan}
use Rattle.where_lines.specs.Causes.{IsCauseAt, IsCauseOf, or_next, output_named}
use Rattle.where_lines.specs.Nowhere.{HasNoOutput}
use Rattle.where_lines.specs.Sources.{IsSourceAt}

next_of : (b : Bool) (node output : ℕ) (rest : Option ℕ) → or_next (if b then Some node else None) rest ≡ Some output → (node ≡ output) ⊎ (rest ≡ Some output)
next_of true node output rest is = inl cc
next_of false node output rest is = inr is

within : (name : List ℕ) (sinks : List SinkPlan) (n output : ℕ) → All (λ sink. sink_node sink < n) sinks → output_named name sinks ≡ Some output → output < n
within name [] n output all is = absurd cc
within name (Output other node fallible wide ∷ sinks) n output all is =
    let P : SinkPlan → Type 0 = λ sink. sink_node sink < n in
    elim (next_of (bytes_eq other name) node output (output_named name sinks) is) [
      | inl one ↦ subst (λ (x : ℕ). x < n) one (All-head P (Output other node fallible wide) sinks all)
      | inr later ↦ within name sinks n output (All-tail P (Output other node fallible wide) sinks all) later
    ]
within name (Feed buffer node ∷ sinks) n output all is =
    let P : SinkPlan → Type 0 = λ sink. sink_node sink < n in
    within name sinks n output (All-tail P (Feed buffer node) sinks all) is

pub output_there : (name : List ℕ) (sinks slice : List SinkPlan) (n : ℕ) (found : Option ℕ) → slice ≡ sinks → found ≡ output_named name slice
    → All (λ sink. sink_node sink < n) sinks → (found ≡ output_named name sinks) × IfSome found (λ node. node < n)
output_there name sinks slice n (Some node) same is all =
    let own : Some node ≡ output_named name sinks = is ∙ ap (output_named name) same in
    (own, within name sinks n node all (sym own))
output_there name sinks slice n None same is all = (is ∙ ap (output_named name) same, tt)

pub cause_placed : {E : Type 0} (text : List ℕ) (plan : Plan) (output source : ℕ) (r : Result (Option ℕ) E) → IsCause plan.nodes output source
    → IfOk r (λ at. IfSome at (IsSourceAt text source)) → IfOk r (λ at. IfSome at (IsCauseOf text plan output))
cause_placed text plan output source (Ok (Some at)) is place = record { source = source; cause = is; place = place }
cause_placed text plan output source (Ok None) is place = tt
cause_placed text plan output source (Err e) is place = tt

pub cause_there : {E : Type 0} (text : List ℕ) (plan : Plan) (output source : ℕ) (r : Result (Option ℕ) E) → IsPlan text plan → IsCause plan.nodes output source
    → IfOk r (λ at. at ≡ None → (p : Plan) → IsPlan text p → length p.nodes ≤ source) → IfOk r (λ at. at ≢ None)
cause_there text plan output source (Ok at) is_plan is none = λ nothing.
    let low : source < length plan.nodes = slice_get_within plan.nodes source is.ends.node is.ends.there in
    let past : length plan.nodes ≤ source = none nothing plan is_plan in
    omega (arith, low, past)
cause_there text plan output source (Err e) is_plan is none = tt

pub output_placed : {E : Type 0} (text name : List ℕ) (plan : Plan) (output : ℕ) (r : Result (Option ℕ) E) → IsPlan text plan → output_named name plan.sinks ≡ Some output
    → IfOk r (λ at. IfSome at (IsCauseOf text plan output)) → IfOk r (λ at. IfSome at (IsCauseAt text name))
output_placed text name plan output (Ok (Some at)) is_plan named mended = record { plan = plan; is_plan = is_plan; output = output; output_is = named; mended = mended }
output_placed text name plan output (Ok None) is_plan named mended = tt
output_placed text name plan output (Err e) is_plan named mended = tt

pub no_output : (text name : List ℕ) (plan : Plan) → ((p q : Plan) → IsPlan text p → IsPlan text q → p ≡ q) → IsPlan text plan → output_named name plan.sinks ≡ None
    → HasNoOutput text name
no_output text name plan one is_plan none = λ other is_other. ap (λ (p : Plan). output_named name p.sinks) (one other plan is_other is_plan) ∙ none

pub never_none : {E : Type 0} (text name : List ℕ) (r : Result (Option ℕ) E) → IfOk r (λ at. at ≢ None) → IfOk r (λ at. at ≡ None → HasNoOutput text name)
never_none text name (Ok at) some = λ none. absurd (some none)
never_none text name (Err e) some = tt
