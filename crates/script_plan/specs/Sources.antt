-- The plan of a text, with the calls that make its sources.
use Rattle.std.specs.Prelude.{◌≡◌, ℕ, List, Ok}
use Rattle.plan_core.specs.declared.plan.Plan.{Plan}
use Rattle.script_grammar.specs.Tree.{Script}
use Rattle.typing_rules.specs.declared.uses.Use.{Use}
use Rattle.typing_rules.specs.Answers.{IsTyped}
use Rattle.eval_meaning.specs.Scripts.{sources}
use Rattle.script_plan.specs.Plans.{Types}

-- the evaluation of the text's script ends with this plan, and for each of its sources `calls` has the token of the
-- call that made it
pub record HasSources (text : List ℕ) (plan : Plan) (calls : List ℕ) : Type 0 where
  pub script : Script
  pub uses : List Use
  pub typed : Types text script uses
  pub evaluated : sources script uses ≡ Ok (plan, calls)

-- the evaluation of this script ends with this plan and these calls; this is for `src/sources.rt` alone
pub record AreSources (script : Script) (plan : Plan) (calls : List ℕ) : Type 0 where
  pub uses : List Use
  pub typed : IsTyped script uses
  pub evaluated : sources script uses ≡ Ok (plan, calls)
