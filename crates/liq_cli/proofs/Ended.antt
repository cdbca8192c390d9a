-- A call ends by the way that its job did.
use Rattle.std.proofs.Common.{◌≡◌, ◌≤◌, ◌⊎◌, ◌∙◌, ℕ, zero, suc, List, refl, sym, subst, inl, inr, lit≤, ⊎_elim}
use Rattle.std.specs.Prelude.{Result, Ok, Err, String, string_bytes}
use Rattle.std.specs.declared.alloc.Global.{Global}
use Rattle.liq_base.specs.Files.{Files}
use Rattle.liq_base.specs.Shelves.{OnlyRead}
use Rattle.refusal_lines.specs.declared.fault.Fault.{Fault}
use Rattle.station_jobs.specs.Words.{Asked, HasNoForm}
use Rattle.station_jobs.specs.Verdicts.{Verdict, Usage, Refused, usage_line}
use Rattle.liq_cli.specs.Call.{Ends, ForFiles, LineSaid, NoMemory, Outside, ReadFailed, ReportSaid, UsageBroke, UsageSaid, WriteFailed}
use Rattle.station_jobs.specs.Jobs.{IsDone, IsStarved}
use Rattle.station_jobs.specs.Prepared.{Ended, ForOneOf}
use Rattle.liq_cli.specs.Telling.{Finishes, Tells}
use Rattle.station_jobs.specs.declared.halt.CallEnd.{CallEnd}
use Rattle.station_jobs.specs.declared.halt.CallEnd.TheVariants.{Read, Write, Memory, Refused as refused_for}
use Rattle.liq_cli.proofs.Asking.{AsksOne, each_one, for_verdict, for_each_verdict, one_more}

-- what is said at each status
abbrev Row : (words : List (List ℕ)) → (old new : Outside) → ℕ → Type 0
Row words old new zero = ReportSaid words old new
Row words old new (suc zero) = LineSaid words old new
Row words old new (suc (suc zero)) = UsageSaid words old new
Row words old new (suc (suc (suc zero))) = ReadFailed old new
Row words old new (suc (suc (suc (suc zero)))) = WriteFailed words old new
Row words old new (suc (suc (suc (suc (suc zero))))) = NoMemory words old new
Row words old new (suc (suc (suc (suc (suc (suc status)))))) = ⊥

by_row : (words : List (List ℕ)) (old new : Outside) (status : ℕ) → status ≤ 5 → Row words old new status
    → (HasNoForm words → (status ≡ 2) ⊎ ((status ≡ 4) × UsageBroke words old new)) → Ends words old new status
by_row words old new status most row none = record {
  is_status = most;
  done = λ at. subst (Row words old new) at row;
  refused = λ at. subst (Row words old new) at row;
  usage = λ at. subst (Row words old new) at row;
  read_fault = λ at. subst (Row words old new) at row;
  write_fault = λ at. subst (Row words old new) at row;
  memory = λ at. subst (Row words old new) at row;
  no_form = none;
}

module _ (words : List (List ℕ)) (old new : Outside) (asked : Asked) (asks : AsksOne words asked) where
  formed : (status : ℕ) → status ≤ 5 → Row words old new status → Ends words old new status
  formed status most row = by_row words old new status most row (λ none. absurd (none asked asks.is))

  for_files : (P : Files → Verdict → Type 0) → ForOneOf asked old.shelf P → ForFiles words old.shelf P
  for_files P told = λ files t. for_verdict words asked files (P files) asks (told files t)

  -- memory was refused for the line of a fault
  unsaid : (fault : Fault) (files : Files) (verdict : Verdict) → OnlyRead old.shelf new.shelf → verdict ≡ Refused fault → IsStarved verdict files old.shelf new.shelf
  unsaid fault files verdict kept is = ((λ same. absurd (let e : Refused fault ≡ Usage = sym is ∙ same in cc)), inl kept)

  pub finished : (job : Result (String Global) CallEnd) (status : ℕ) → Ended asked old.shelf new.shelf job → Finishes job old.out new.out old.err new.err status → Ends words old new status
  finished (Ok report) status ended told =
      let done : ForFiles words old.shelf (λ files v. IsDone v files old.shelf new.shelf (string_bytes report)) = for_files (λ files v. IsDone v files old.shelf new.shelf (string_bytes report)) ended in
      ⊎_elim (λ all. subst (Ends words old new) (sym all.0) (formed 0 (lit≤ tt) (record { report = string_bytes report; said = all.1; done = done; err_kept = told.1 })))
      (λ part. subst (Ends words old new) (sym part.0) (formed 4 (lit≤ tt) (inr (inr (inl (record { report = string_bytes report; part = part.1; done = done; err_kept = told.1 })))))) told.0
  finished (Err (refused_for fault)) status ended told =
      let refused : ForFiles words old.shelf (λ files v. v ≡ Refused fault) = for_files (λ files v. v ≡ Refused fault) ended.0 in
      ⊎_elim (λ starved. subst (Ends words old new) (sym starved.0) (formed 5 (lit≤ tt) (record {
        starved = λ files t. for_each_verdict words asked files (λ v. IsStarved v files old.shelf new.shelf) asks
            (each_one asked files (λ v. IsStarved v files old.shelf new.shelf)
            (one_more asked files (λ v. v ≡ Refused fault) (λ v. IsStarved v files old.shelf new.shelf) (λ v is. unsaid fault files v ended.1 is) (ended.0 files t)));
        out_kept = told.1;
        err_kept = starved.1;
      })))
      (⊎_elim (λ all. subst (Ends words old new) (sym all.0) (formed 1 (lit≤ tt) (record { fault = fault; said = all.1; refused = refused; shelf_read = ended.1; out_kept = told.1 })))
      (λ part. subst (Ends words old new) (sym part.0) (formed 4 (lit≤ tt) (inr (inl (record { fault = fault; part = part.1; refused = refused; shelf_read = ended.1; out_kept = told.1 })))))) told.0
  finished (Err Read) status ended told =
      subst (Ends words old new) (sym told.0) (formed 3 (lit≤ tt) (record { cause = ended.0; shelf_read = ended.1; out_kept = told.1; err_kept = told.2 }))
  finished (Err Write) status ended told =
      subst (Ends words old new) (sym told.0) (formed 4 (lit≤ tt) (inr (inr (inr (record { cause = ended.0; broken = for_files _ ended.1; out_kept = told.1; err_kept = told.2 })))))
  finished (Err Memory) status ended told = subst (Ends words old new) (sym told.0) (formed 5 (lit≤ tt) (record {
    starved = λ files t. for_each_verdict words asked files (λ v. IsStarved v files old.shelf new.shelf) asks (ended files t);
    out_kept = told.1;
    err_kept = told.2;
  }))

-- words of no form
pub unformed : (words : List (List ℕ)) (old new : Outside) (status : ℕ) → HasNoForm words → new.shelf ≡ old.shelf → new.out ≡ old.out → Tells usage_line 2 old.err new.err status → Ends words old new status
unformed words old new status none shelf out told =
    ⊎_elim (λ all. subst (Ends words old new) (sym all.0)
    (by_row words old new 2 (lit≤ tt) (record { no_form = none; said = all.1; shelf_kept = shelf; out_kept = out }) (λ at. inl refl)))
    (λ part.
    let broke : UsageBroke words old new = record { no_form = none; part = part.1; shelf_kept = shelf; out_kept = out } in
    subst (Ends words old new) (sym part.0) (by_row words old new 4 (lit≤ tt) (inl broke) (λ at. inr (refl, broke)))) told
