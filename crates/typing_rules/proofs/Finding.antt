-- A search for a use, one step at a time.
use Rattle.std.proofs.Common.{◌≡◌, ℕ, ◌+◌, ◌<◌, List, length, drop, get_or, Some, Option, Bool, cond, sym, ap, ◌∙◌, nat_eq}
use Rattle.std.proofs.lemmas.List.{at_drop_more}
use Rattle.typing_rules.specs.declared.uses.Use.{Use}
use Rattle.typing_rules.specs.Uses.{use_at}

step : (at i : ℕ) (uses : List Use) (u : Use) (b : Bool) → i < length uses → u ≡ get_or uses i u → nat_eq u.at at ≡ b → use_at at (drop i uses) ≡ cond b (Some u) (use_at at (drop (i + 1) uses))
step at i uses u b lt is same =
    let here : Use → Option Use = λ v. cond (nat_eq v.at at) (Some v) (use_at at (drop (i + 1) uses)) in
    at_drop_more (use_at at) uses i u lt ∙ ap here (sym is) ∙ ap (λ (t : Bool). cond t (Some u) (use_at at (drop (i + 1) uses))) same
