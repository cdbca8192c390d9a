-- The place of the call that makes a source.
use Rattle.std.proofs.Common.{◌≡◌, ℕ, ◌≤◌, List, length, Option, Some, None, Result, Ok, Err, ap, sym, subst, inl, inr, ◌∙◌}
use Rattle.std.specs.Prelude.{IfOk, IfSome, slice_get}
use Rattle.std.proofs.lemmas.Option.{slice_get_cases}
use Rattle.plan_core.specs.declared.plan.Plan.{Plan}
use Rattle.script_plan.specs.Plans.{IsPlan}
use Rattle.script_plan.specs.Sources.{HasSources}
use Rattle.where_lines.specs.Nowhere.{HasNoTokens}
use Rattle.where_lines.specs.Sources.{IsSourceAt}
use Rattle.where_lines.specs.Tokens.{IsTokenAt}

pub source_at : {E : Type 0} (text : List ℕ) (plan : Plan) (calls : List ℕ) (k token : ℕ) (r : Result (Option ℕ) E) → HasSources text plan calls → slice_get calls k ≡ Some token
    → IfOk r (λ at. IfSome at (IsTokenAt text token)) → IfOk r (λ at. IfSome at (IsSourceAt text k))
source_at text plan calls k token (Ok (Some at)) has is place = record { plan = plan; calls = calls; sources = has; token = token; token_is = is; place = place }
source_at text plan calls k token (Ok None) has is place = tt
source_at text plan calls k token (Err e) has is place = tt

-- a text with a plan has tokens
pub has_tokens : {E : Type 0} (P : Plan → Type 0) (text : List ℕ) (plan : Plan) (calls : List ℕ) (r : Result (Option ℕ) E) → HasSources text plan calls
    → IfOk r (λ at. at ≡ None → HasNoTokens text) → IfOk r (λ at. at ≡ None → (p : Plan) → IsPlan text p → P p)
has_tokens P text plan calls (Ok at) has none = λ is p is_plan. absurd (none is has.typed.spelled.tokens has.typed.spelled.lexed)
has_tokens P text plan calls (Err e) has none = tt

past : (calls : List ℕ) (k : ℕ) → slice_get calls k ≡ None → length calls ≤ k
past calls k none =
    elim (slice_get_cases calls k).1 [
      | inl there ↦ absurd (let is = sym none ∙ there.2 in cc)
      | inr over ↦ over.0
    ]

-- where no call made it, no plan has it
pub no_source : (text : List ℕ) (plan : Plan) (calls : List ℕ) (k : ℕ) → ((p q : Plan) → IsPlan text p → IsPlan text q → p ≡ q) → IsPlan text plan → length calls ≡ length plan.nodes
    → slice_get calls k ≡ None → (p : Plan) → IsPlan text p → length p.nodes ≤ k
no_source text plan calls k one is_plan each none = λ p has.
    subst (λ (n : ℕ). n ≤ k) (each ∙ ap (λ (q : Plan). length q.nodes) (one plan p is_plan has)) (past calls k none)
