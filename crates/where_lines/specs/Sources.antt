-- The call that makes a source.
use Rattle.std.specs.Prelude.{◌≡◌, ℕ, List, Some, slice_get}
use Rattle.plan_core.specs.declared.plan.Plan.{Plan}
use Rattle.script_plan.specs.Sources.{HasSources}
use Rattle.where_lines.specs.Tokens.{IsTokenAt}

-- the plan of the script `text` has a source k, and the call in the script that makes it begins at byte `at`
pub record IsSourceAt (text : List ℕ) (k at : ℕ) : Type 0 where
  pub plan : Plan
  pub calls : List ℕ
  pub sources : HasSources text plan calls
  pub token : ℕ
  pub token_is : slice_get calls k ≡ Some token
  pub place : IsTokenAt text token at
