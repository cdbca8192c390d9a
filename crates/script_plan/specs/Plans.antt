-- The plan of a text, and its fault: over the definitions of tokens, of the tree, of typing and of evaluation.
use Rattle.std.specs.Prelude.{◌≡◌, ◌≢◌, ℕ, List, Some, Ok, Err}
use Rattle.plan_core.specs.declared.plan.Plan.{Plan}
use Rattle.script_lex.specs.declared.token.Token.{Token}
use Rattle.script_lex.specs.Tokens.{AreTokens, HasFault}
use Rattle.parse_base.specs.Gives.{kinds}
use Rattle.script_grammar.specs.Placed.{IsPlaced}
use Rattle.script_grammar.specs.Spelling.{spelling}
use Rattle.script_grammar.specs.Tree.{Script}
use Rattle.script_parse.specs.declared.fault.ParseFault.{ParseFault}
use Rattle.script_parse.specs.Answer.{IsShallow, IsFault}
use Rattle.typing_rules.specs.declared.fault.TypeFault.{TypeFault}
use Rattle.typing_rules.specs.declared.fault.TypeFault.TheVariants as type_fault
use Rattle.typing_rules.specs.declared.uses.Use.{Use}
use Rattle.typing_rules.specs.Answers.{IsTyped, IsTypeFault}
use Rattle.script_values.specs.declared.fault.EvalFault.{EvalFault}
use Rattle.eval_meaning.specs.Scripts.{evaluation}
use Rattle.script_plan.specs.declared.fault.ScriptFault.{ScriptFault}
use Rattle.script_plan.specs.declared.fault.ScriptFault.TheVariants as fault

-- the text's tokens spell this script, each `at` in it is the index of its token, and it nests no deeper than is
-- allowed
pub record Spells (text : List ℕ) (script : Script) : Type 0 where
  pub tokens : List Token
  pub lexed : AreTokens text tokens
  pub spelled : spelling script ≡ kinds tokens
  pub placed : IsPlaced 0 script
  pub shallow : IsShallow (kinds tokens)

-- the text spells this script, which has a typing, with these uses of names: what each name means where it stands
pub record Types (text : List ℕ) (script : Script) (uses : List Use) : Type 0 where
  pub spelled : Spells text script
  pub typed : IsTyped script uses

-- this is the text's plan: the text spells a script, typing finds its uses, and its evaluation ends with this plan
pub record IsPlan (text : List ℕ) (plan : Plan) : Type 0 where
  pub script : Script
  pub uses : List Use
  pub typed : Types text script uses
  pub evaluated : evaluation script uses ≡ Ok plan

-- this is the text's fault of syntax: the text has tokens, but they spell no script
pub record IsSyntaxFault (text : List ℕ) (f : ParseFault) : Type 0 where
  pub tokens : List Token
  pub lexed : AreTokens text tokens
  pub told : IsFault (kinds tokens) f

-- This is the text's fault of types: the text spells a script, which has no typing, and f says why. That memory ran out
-- is no fault of the text.
pub record IsTypingFault (text : List ℕ) (f : TypeFault) : Type 0 where
  pub script : Script
  pub spelled : Spells text script
  pub told : IsTypeFault script f
  pub meant : f ≢ type_fault.Memory

-- this is the text's fault of evaluation: the text spells a script that has a typing, but its evaluation ends without
-- a plan
pub record IsEvaluationFault (text : List ℕ) (f : EvalFault) : Type 0 where
  pub script : Script
  pub uses : List Use
  pub typed : Types text script uses
  pub told : evaluation script uses ≡ Err (Some f)

-- The fault of a text. Each stage but the first stands on what the stages before it answer, so an earlier one's fault
-- comes first.
abbrev pub IsPlanFault : List ℕ → ScriptFault → Type 0
IsPlanFault text (fault.Lex f) = HasFault text f
IsPlanFault text (fault.Parse f) = IsSyntaxFault text f
IsPlanFault text (fault.Type f) = IsTypingFault text f
IsPlanFault text (fault.Eval f) = IsEvaluationFault text f
IsPlanFault text fault.Memory = ⊥
