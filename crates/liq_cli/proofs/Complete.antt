-- Where no count rose, the verdict is the status: it follows from the rows by status.
use Rattle.std.proofs.Common.{ℕ, zero, suc, List, ◌≡◌, refl, sym, subst, inl, inr, arith}
use Rattle.liq_base.specs.Files.{Files}
use Rattle.liq_base.specs.Shelves.{ShelfTold}
use Rattle.refusal_lines.specs.declared.fault.Fault.{Fault}
use Rattle.station_jobs.specs.Verdicts.{Verdict, Usage, Refused, Checked, Accepted, Made, ForVerdict}
use Rattle.liq_cli.proofs.Asking.{each_of_one, for_usage}
use Rattle.liq_cli.specs.Call.{Calm, Completes, Ends, HasVerdict, IsComplete, Outside, WriteFailed}
use Rattle.station_jobs.specs.Jobs.{IsDone, IsStarved}

no_write : (words : List (List ℕ)) (old new : Outside) → Calm old new → WriteFailed words old new → ⊥
no_write words old new calm (inl usage) = calm.err usage.part.rose
no_write words old new calm (inr (inl line)) = calm.err line.part.rose
no_write words old new calm (inr (inr (inl report))) = calm.out report.part.rose
no_write words old new calm (inr (inr (inr rendering))) = calm.writes rendering.cause

done_completes : (v : Verdict) (files : Files) (old new : ShelfTold) (report : List ℕ) → IsDone v files old new report → Completes v 0
done_completes v files old new report (inl done) = subst (λ w. Completes w 0) (sym done.1) (inl refl)
done_completes v files old new report (inr (inl done)) = subst (λ w. Completes w 0) (sym done.1) (inl refl)
done_completes v files old new report (inr (inr done)) = subst (λ w. Completes w 0) (sym done.2) (inl refl)

refused_completes : (v : Verdict) (fault : Fault) → v ≡ Refused fault → Completes v 1
refused_completes v fault is = subst (λ w. Completes w 1) (sym is) (inl refl)

starved_completes : (v : Verdict) (files : Files) (old new : ShelfTold) → IsStarved v files old new → Completes v 5
starved_completes (Accepted station) files old new starved = inr refl
starved_completes (Checked station) files old new starved = inr refl
starved_completes (Made made station) files old new starved = inr refl
starved_completes (Refused fault) files old new starved = inr refl
starved_completes Usage files old new starved = absurd (starved.0 refl)

verdict_there : (words : List (List ℕ)) (files : Files) (P : Verdict → Type 0) → ForVerdict words files P → HasVerdict words files
verdict_there words files P one = (one.verdict, one.is_verdict)

pub completes : (words : List (List ℕ)) (old new : Outside) (status : ℕ) → Ends words old new status → IsComplete words old new status
completes words old new zero ends calm files told =
    let said = ends.done refl in
    let one = said.done files told in
    (inr (verdict_there words files _ one), each_of_one words files (λ v. IsDone v files old.shelf new.shelf said.report) (λ v. Completes v 0) (λ v. done_completes v files old.shelf new.shelf said.report) one)
completes words old new (suc zero) ends calm files told =
    let said = ends.refused refl in
    let one = said.refused files told in
    (inr (verdict_there words files _ one), each_of_one words files (λ v. v ≡ Refused said.fault) (λ v. Completes v 1) (λ v. refused_completes v said.fault) one)
completes words old new (suc (suc zero)) ends calm files told =
    let one = for_usage words files (λ v. Completes v 2) (ends.usage refl).no_form refl in
    (inr (verdict_there words files (λ v. Completes v 2) one), each_of_one words files (λ v. Completes v 2) (λ v. Completes v 2) (λ v p. p) one)
completes words old new (suc (suc (suc zero))) ends calm files told = absurd (calm.reads (ends.read_fault refl).cause)
completes words old new (suc (suc (suc (suc zero)))) ends calm files told = absurd (no_write words old new calm (ends.write_fault refl))
completes words old new (suc (suc (suc (suc (suc zero))))) ends calm files told =
    (inl refl, λ verdict is. starved_completes verdict files old.shelf new.shelf ((ends.memory refl).starved files told verdict is))
completes words old new (suc (suc (suc (suc (suc (suc n)))))) ends calm files told = absurd (let le = ends.is_status in omega arith)
