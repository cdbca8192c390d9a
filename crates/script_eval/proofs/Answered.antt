-- A plan that is answered is well formed, and each of its sources has a call.
use Rattle.std.proofs.Common.{◌≡◌, ◌∙◌, ℕ, List, length, Result, Ok, Err, refl, sym, ap}
use Rattle.std.specs.Prelude.{IfOk}
use Rattle.plan_core.specs.declared.plan.Plan.{Plan}
use Rattle.plan_core.specs.Plans.{IsWellFormed}
use Rattle.script_grammar.specs.Placed.{IsPlaced}
use Rattle.script_grammar.specs.Tree.{Script}
use Rattle.typing_rules.specs.declared.uses.Use.{Use}
use Rattle.typing_rules.specs.Answers.{IsTypedScript}
use Rattle.script_values.specs.declared.fault.EvalFault.{EvalFault}
use Rattle.script_values.specs.declared.machine.Machine.{Machine}
use Rattle.eval_meaning.specs.Safety.{IsNotStuck}
use Rattle.eval_meaning.specs.Scripts.{Answers, Ending, and_then, evaluation, plan_of, ran, sources, sources_of}
use Rattle.eval_meaning.proofs.BuiltinCalls.{builtins_are_safe}
use Rattle.eval_meaning.proofs.SafeScripts.{safe_script}
use Rattle.eval_meaning.proofs.KeepingScripts.{each_has_a_call, plan_is_well_formed}
use Rattle.script_eval.specs.declared.script.Sources.{Sources}
use Rattle.script_eval.proofs.Statements.{ends_same, ends_then}

by_plan : (r : Result Plan Ending) (calls : List ℕ) → r ≡ and_then (and_then r (λ p. Ok (p, calls))) (λ (x : Plan × List ℕ). Ok x.0)
by_plan (Ok p) calls = refl
by_plan (Err e) calls = refl

by_end : (r : Result Machine Ending) → and_then r plan_of ≡ and_then (and_then r sources_of) (λ (x : Plan × List ℕ). Ok x.0)
by_end (Ok m) = by_plan (plan_of m) m.calls
by_end (Err e) = refl

-- the plan is that of the sources
pub plan_is : (script : Script) (uses : List Use) → evaluation script uses ≡ and_then (sources script uses) (λ (x : Plan × List ℕ). Ok x.0)
plan_is script uses = by_end (ran script uses)

pub answers_plan : (script : Script) (uses : List Use) (r : Result Sources EvalFault) → Answers (λ (s : Sources). (s.plan, s.calls)) r (sources script uses) → Answers (λ (s : Sources). s.plan) r (evaluation script uses)
answers_plan script uses (Ok s) is = plan_is script uses ∙ ap (λ q. and_then q (λ (x : Plan × List ℕ). Ok x.0)) is
answers_plan script uses (Err e) is = ends_same e _ (evaluation script uses) (sym (plan_is script uses)) (ends_then e (sources script uses) (λ (x : Plan × List ℕ). Ok x.0) is)

pub made_well : (script : Script) (uses : List Use) (r : Result Sources EvalFault) → Answers (λ (s : Sources). s.plan) r (evaluation script uses) → IfOk r (λ (s : Sources). IsWellFormed s.plan)
made_well script uses (Ok s) is = plan_is_well_formed script uses s.plan is
made_well script uses (Err e) is = tt

pub each_called : (script : Script) (uses : List Use) (r : Result Sources EvalFault) → Answers (λ (s : Sources). (s.plan, s.calls)) r (sources script uses) → IfOk r (λ (s : Sources). length s.calls ≡ length s.plan.nodes)
each_called script uses (Ok s) is = each_has_a_call script uses s.plan s.calls is
each_called script uses (Err e) is = tt

pub is_not_stuck : (script : Script) (uses : List Use) → IsPlaced 0 script → IsTypedScript script uses → IsNotStuck (evaluation script uses)
is_not_stuck = safe_script builtins_are_safe
