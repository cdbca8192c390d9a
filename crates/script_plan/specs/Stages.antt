-- What each stage tells: its fault in the place of the text's, and a script's plan and fault behind parsing. These are
-- for the functions of `src/plan.rt` alone.
use Rattle.std.specs.Prelude.{◌≡◌, ◌≢◌, List, Some, Ok, Err, ⊤}
use Rattle.plan_core.specs.declared.plan.Plan.{Plan}
use Rattle.script_lex.specs.declared.token.LexFault.{LexFault}
use Rattle.script_lex.specs.declared.token.LexFault.TheVariants as lex_fault
use Rattle.script_grammar.specs.Tree.{Script}
use Rattle.script_parse.specs.declared.fault.ParseFault.{ParseFault}
use Rattle.script_parse.specs.declared.fault.ParseFault.TheVariants as parse_fault
use Rattle.typing_rules.specs.declared.fault.TypeFault.{TypeFault}
use Rattle.typing_rules.specs.declared.fault.TypeFault.TheVariants as type_fault
use Rattle.typing_rules.specs.declared.uses.Use.{Use}
use Rattle.typing_rules.specs.Answers.{IsTyped, IsTypeFault}
use Rattle.script_values.specs.declared.fault.EvalFault.{EvalFault}
use Rattle.script_values.specs.declared.fault.EvalFault.TheVariants as eval_fault
use Rattle.eval_meaning.specs.Scripts.{evaluation}
use Rattle.script_plan.specs.declared.fault.ScriptFault.{ScriptFault}
use Rattle.script_plan.specs.declared.fault.ScriptFault.TheVariants as fault

-- the fault of a text whose tokens have the fault f; that memory ran out is told alike by all stages
abbrev pub lexical : LexFault → ScriptFault
lexical lex_fault.Memory = fault.Memory
lexical f = fault.Lex f

-- the fault of a text whose tokens are no script, for the reason f; that memory ran out is told alike by all stages
abbrev pub syntactic : ParseFault → ScriptFault
syntactic parse_fault.Memory = fault.Memory
syntactic f = fault.Parse f

-- the fault of a text whose script has the fault of types f; that memory ran out is told alike by all stages
abbrev pub of_typing : TypeFault → ScriptFault
of_typing type_fault.Memory = fault.Memory
of_typing f = fault.Type f

-- the fault of a text whose evaluation ends with the fault f; that memory ran out is told alike by all stages
abbrev pub of_evaluation : EvalFault → ScriptFault
of_evaluation eval_fault.Memory = fault.Memory
of_evaluation f = fault.Eval f

-- the script has a typing, and with the uses that it finds its evaluation ends with this plan
pub record HasPlan (script : Script) (plan : Plan) : Type 0 where
  pub uses : List Use
  pub typed : IsTyped script uses
  pub evaluated : evaluation script uses ≡ Ok plan

-- the script has a typing, and with the uses that it finds its evaluation ends without a plan, for this fault
pub record EndsBy (script : Script) (f : EvalFault) : Type 0 where
  pub uses : List Use
  pub typed : IsTyped script uses
  pub told : evaluation script uses ≡ Err (Some f)

-- what the stage of typing may tell of a script in place of its uses of names: the script's fault of types, or that
-- memory ran out
abbrev pub IsOfTyping : Script → ScriptFault → Type 0
IsOfTyping script (fault.Lex f) = ⊥
IsOfTyping script (fault.Parse f) = ⊥
IsOfTyping script (fault.Type f) = (f ≢ type_fault.Memory) × IsTypeFault script f
IsOfTyping script (fault.Eval f) = ⊥
IsOfTyping script fault.Memory = ⊤

-- what the stage of evaluation may tell of a script with these uses of names, in place of a plan: the fault with which
-- its evaluation ends, or that memory ran out
abbrev pub IsOfEvaluation : Script → List Use → ScriptFault → Type 0
IsOfEvaluation script uses (fault.Lex f) = ⊥
IsOfEvaluation script uses (fault.Parse f) = ⊥
IsOfEvaluation script uses (fault.Type f) = ⊥
IsOfEvaluation script uses (fault.Eval f) = evaluation script uses ≡ Err (Some f)
IsOfEvaluation script uses fault.Memory = ⊤

-- what may be told of a script in place of its plan: the fault of its types, the fault of its evaluation, or that
-- memory ran out
abbrev pub IsOfScript : Script → ScriptFault → Type 0
IsOfScript script (fault.Lex f) = ⊥
IsOfScript script (fault.Parse f) = ⊥
IsOfScript script (fault.Type f) = (f ≢ type_fault.Memory) × IsTypeFault script f
IsOfScript script (fault.Eval f) = EndsBy script f
IsOfScript script fault.Memory = ⊤
