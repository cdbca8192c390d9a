-- A text has one list of the calls that make its plan's sources.
use Rattle.std.proofs.Common.{◌≡◌, ℕ, List, Result, Ok, Err, sym, ap, ◌∙◌, subst, length}
use Rattle.plan_core.specs.declared.plan.Plan.{Plan}
use Rattle.script_grammar.specs.Placed.{IsPlaced}
use Rattle.script_grammar.specs.Tree.{Script}
use Rattle.script_values.specs.declared.machine.Machine.{Machine}
use Rattle.typing_rules.specs.declared.uses.Use.{Use}
use Rattle.typing_rules.specs.Answers.{IsTyped}
use Rattle.eval_meaning.specs.Scripts.{Ending, and_then, plan_of, ran, sources, sources_of}
use Rattle.script_plan.specs.Plans.{IsPlan}
use Rattle.script_plan.specs.Sources.{HasSources}
use Rattle.script_plan.proofs.OneAnswer.{spelled_one}

-- the parts of what evaluation ends with
abbrev plan_in : Plan → Result (Plan × List ℕ) Ending → Plan
plan_in other (Ok found) = found.0
plan_in other (Err e) = other

abbrev calls_in : List ℕ → Result (Plan × List ℕ) Ending → List ℕ
calls_in other (Ok found) = found.1
calls_in other (Err e) = other

planned : (r : Result Plan Ending) (own calls : List ℕ) (plan : Plan)
    → and_then {B = Plan × List ℕ} r (λ p. Ok (p, own)) ≡ Ok (plan, calls) → r ≡ Ok plan
planned (Ok p) own calls plan is = ap Ok (ap (plan_in p) is)
planned (Err e) own calls plan is = absurd cc

ended : (r : Result Machine Ending) (calls : List ℕ) (plan : Plan) → and_then r sources_of ≡ Ok (plan, calls) → and_then r plan_of ≡ Ok plan
ended (Ok m) calls plan is = planned (plan_of m) m.calls calls plan is
ended (Err e) calls plan is = absurd cc

pub plan_made : (text : List ℕ) (plan : Plan) (calls : List ℕ) → HasSources text plan calls → IsPlan text plan
plan_made text plan calls has = record {
  script = has.script;
  uses = has.uses;
  typed = has.typed;
  evaluated = ended (ran has.script has.uses) calls plan has.evaluated;
}

-- the law of evaluation that this rests on
abbrev OneRun : Type 0
OneRun = (script : Script) (uses others : List Use) → IsPlaced 0 script → IsTyped script uses → IsTyped script others
    → sources script uses ≡ sources script others

calls_are : (p q : Plan) (calls others : List ℕ) → ◌≡◌ {A = Result (Plan × List ℕ) Ending} (Ok (p, calls)) (Ok (q, others)) → calls ≡ others
calls_are p q calls others is = ap (calls_in calls) is

pub calls_one : OneRun → (text : List ℕ) (p q : Plan) (calls others : List ℕ) → HasSources text p calls → HasSources text q others → calls ≡ others
calls_one law text p q calls others a b =
    let same = spelled_one text a.script b.script a.typed.spelled b.typed.spelled in
    calls_are p q calls others (sym a.evaluated ∙ ap (λ (s : Script). sources s a.uses) same
    ∙ law b.script a.uses b.uses b.typed.spelled.placed (subst (λ (s : Script). IsTyped s a.uses) same a.typed.typed) b.typed.typed ∙ b.evaluated)

pub call_each : ((script : Script) (uses : List Use) (plan : Plan) (calls : List ℕ) → sources script uses ≡ Ok (plan, calls) → length calls ≡ length plan.nodes)
    → (text : List ℕ) (plan : Plan) (calls : List ℕ) → HasSources text plan calls → length calls ≡ length plan.nodes
call_each law text plan calls has = law has.script has.uses plan calls has.evaluated
