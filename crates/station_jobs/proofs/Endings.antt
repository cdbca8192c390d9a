-- Why the steps before a rendering end.
use Rattle.std.proofs.Common.{◌≡◌, ◌≢◌, ℕ, List, ◌∙◌, subst, sym, arith}
use Rattle.std.specs.Prelude.{Some, None, Err}
use Rattle.std.specs.Option.{ForSome}
use Rattle.liq_base.specs.Files.{file_at}
use Rattle.liq_base.specs.Shelves.{OnlyRead, ShelfTold}
use Rattle.plan_core.specs.declared.plan.Plan.{Plan}
use Rattle.script_plan.specs.declared.fault.ScriptFault.{ScriptFault}
use Rattle.script_plan.specs.declared.fault.ScriptFault.TheVariants as script_fault
use Rattle.script_plan.specs.Plans.{IsPlan, IsPlanFault}
use Rattle.stations.specs.Findings.{Fails, IsFound}
use Rattle.station_check.specs.declared.halt.CheckEnd.{CheckEnd}
use Rattle.station_check.specs.declared.halt.CheckEnd.TheVariants.{Refused as check_refused, Read as check_read, Memory as check_memory}
use Rattle.station_check.specs.Halts.{HaltsFor}
use Rattle.refusal_lines.specs.declared.fault.Fault.{Fault}
use Rattle.refusal_lines.specs.declared.fault.Fault.TheVariants.{Script}
use Rattle.station_jobs.specs.Words.{Rendering}
use Rattle.station_jobs.specs.declared.halt.CallEnd.{CallEnd}
use Rattle.station_jobs.specs.declared.halt.CallEnd.TheVariants.{Memory, Refused as refused_for}
use Rattle.station_jobs.specs.Verdicts.{HasPlan, clash_of}
use Rattle.station_jobs.specs.Prepared.{ClashEnds, EndsFor, IsOneOutcome, Lost, halt_of_check, halt_of_script}
use Rattle.station_jobs.proofs.Found.{ScriptLaws, clash_has, plan_outcome, script_has}

-- a step ends as its part did
pub ends_as : {T U : Type 0} (rendering : Rendering) (old new : ShelfTold) (e : CallEnd)
    → EndsFor {T = T} rendering old new (Err e) → EndsFor {T = U} rendering old new (Err e)
ends_as rendering old new e ends = record {
  fault = λ fault at. ends.fault fault (cc);
  read = λ at. ends.read (cc);
  no_write = λ at. ends.no_write (cc);
}

-- a step that refuses
pub ends_refused : {T : Type 0} (rendering : Rendering) (old new : ShelfTold) (fault : Fault)
    → ForSome old.files (λ files. IsOneOutcome files rendering (Lost fault)) → EndsFor {T = T} rendering old new (Err (refused_for fault))
ends_refused rendering old new fault is = record {
  fault = λ other at files t. let same : fault ≡ other = (cc) in subst (λ f. IsOneOutcome files rendering (Lost f)) same (is files t);
  read = λ at. absurd (cc);
  no_write = λ at. absurd (cc);
}

-- one for which memory was refused
ends_starved : {T : Type 0} (rendering : Rendering) (old new : ShelfTold) → EndsFor {T = T} rendering old new (Err Memory)
ends_starved rendering old new = record {
  fault = λ other at. absurd (cc);
  read = λ at. absurd (cc);
  no_write = λ at. absurd (cc);
}

module _ {T : Type 0} (laws : ScriptLaws) (rendering : Rendering) (old new : ShelfTold) (text : List ℕ)
    (there : ForSome old.files (λ files. file_at files rendering.file ≡ Some text)) where
  script_refused : (fault : ScriptFault) → IsPlanFault text fault → EndsFor {T = T} rendering old new (Err (refused_for (Script fault)))
  script_refused fault is = ends_refused rendering old new (Script fault) (λ files t. script_has laws files rendering text (there files t) fault is)

  -- the script has no plan
  pub script_ends : (e : ScriptFault) → (e ≢ script_fault.Memory → IsPlanFault text e) → EndsFor {T = T} rendering old new (Err (halt_of_script e))
  script_ends (script_fault.Lex f) is = script_refused (script_fault.Lex f) (is (λ same. absurd (cc)))
  script_ends (script_fault.Parse f) is = script_refused (script_fault.Parse f) (is (λ same. absurd (cc)))
  script_ends (script_fault.Type f) is = script_refused (script_fault.Type f) (is (λ same. absurd (cc)))
  script_ends (script_fault.Eval f) is = script_refused (script_fault.Eval f) (is (λ same. absurd (cc)))
  script_ends script_fault.Memory is = ends_starved rendering old new

  -- two files of its rendering would have one name
  pub clash_ends : {U : Type 0} (plan : Plan) → IsPlan text plan → (e : CallEnd) → ClashEnds {T = U} (clash_of plan rendering.trace rendering.cues) (Err e) → EndsFor {T = T} rendering old new (Err e)
  clash_ends plan is_plan e ends = record {
    fault = λ fault at files t.
        let clash = ends.fault fault (cc) in
        subst (λ f. IsOneOutcome files rendering (Lost f)) (sym clash.1) (clash_has laws files rendering text (there files t) plan is_plan clash.0 clash.2);
    read = λ at. absurd (ends.no_read (cc));
    no_write = λ at. ends.no_write (cc);
  }

-- the plan of the script is not rendered
pub check_ends : {T : Type 0} (laws : ScriptLaws) (rendering : Rendering) (first old new : ShelfTold) (plan : Plan)
    → ForSome first.files (λ files. HasPlan files rendering.file plan) → clash_of plan rendering.trace rendering.cues ≡ None → OnlyRead first old → (h : CheckEnd)
    → HaltsFor old new (λ files fault. IsFound files plan rendering.ticks (Fails fault)) h → EndsFor {T = T} rendering first new (Err (halt_of_check h))
check_ends laws rendering first old new plan there apart read (check_refused fault) halts =
    ends_refused rendering first new (Fault.Station fault) (λ files t. plan_outcome laws files rendering plan (there files t) apart (Fails fault) (halts files (read.files ∙ t)))
check_ends laws rendering first old new plan there apart read check_read halts = record {
  fault = λ other at. absurd (cc);
  read = λ at. (let low = read.reads in omega (arith, halts, low));
  no_write = λ at. absurd (cc);
}
check_ends laws rendering first old new plan there apart read check_memory halts = ends_starved rendering first new
