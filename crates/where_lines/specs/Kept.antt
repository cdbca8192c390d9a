-- What was read of a script, kept for the next line.
use Rattle.std.specs.Prelude.{◌≡◌, ℕ, List, length, slice_get, Option, IfSome, Vec}
use Rattle.std.specs.declared.alloc.Global.{Global}
use Rattle.plan_core.specs.declared.plan.Plan.{Plan}
use Rattle.script_eval.specs.declared.script.Sources.{Sources}
use Rattle.script_lex.specs.Tokens.{AreTokens}
use Rattle.script_lex.specs.declared.token.Token.{Token}
use Rattle.script_plan.specs.Plans.{IsPlan}
use Rattle.script_plan.specs.Sources.{HasSources}
use Rattle.where_lines.specs.declared.kept.Kept.{Kept}

-- the tokens that the program keeps from line to line, if it has them, are those of the script `text`
abbrev pub AreKept : (text : List ℕ) → Option (Vec Token Global) → Type 0
AreKept text kept = IfSome kept (λ tokens. AreTokens text tokens.items)

-- this is the plan of the script `text`, and `calls` has for each source of it the token of the call that makes it
pub record AreSources (text : List ℕ) (plan : Plan) (calls : List ℕ) : Type 0 where
  pub sources : HasSources text plan calls
  pub is_plan : IsPlan text plan
  pub each : length calls ≡ length plan.nodes

-- what the program keeps from line to line of a script's plan and of the calls of its sources, if it has it, is right
-- for the script `text`
abbrev pub SourcesAreKept : (text : List ℕ) → Option Sources → Type 0
SourcesAreKept text kept = IfSome kept (λ found. AreSources text found.plan found.calls)

-- what the program keeps from line to line, the tokens, the plan and the calls of sources, is of the script `text`
pub record IsKept (text : List ℕ) (kept : Kept) : Type 0 where
  pub tokens : AreKept text kept.tokens
  pub sources : SourcesAreKept text kept.sources

-- `call` is the token of the call that makes this source of the script's plan; None if the plan has no such source
pub record IsCallOf (text : List ℕ) (source : ℕ) (call : Option ℕ) : Type 0 where
  pub plan : Plan
  pub calls : List ℕ
  pub are : AreSources text plan calls
  pub call_is : slice_get calls source ≡ call
