-- What one call leaves, for each status.
use Rattle.std.specs.Prelude.{◌≡◌, ◌≤◌, ◌⊎◌, ℕ, List, true, Some}
use Rattle.std.specs.Option.{ForSome}
use Rattle.liq_base.specs.Counts.{Rose}
use Rattle.liq_base.specs.Pieces.{SinkTold, TookPiece, TookPart}
use Rattle.liq_base.specs.Files.{Files}
use Rattle.liq_base.specs.Shelves.{OnlyRead, ShelfTold}
use Rattle.refusal_lines.specs.declared.fault.Fault.{Fault}
use Rattle.refusal_lines.specs.Lines.{line_of}
use Rattle.station_jobs.specs.Jobs.{IsBroken, IsDone, IsStarved}
use Rattle.station_jobs.specs.Words.{HasNoForm}
use Rattle.station_jobs.specs.Verdicts.{Verdict, Usage, Refused, Checked, Accepted, Made, ForVerdict, ForEachVerdict, IsVerdict, usage_line}

-- what the world around a call tells at one moment: the shelf of its files, and the sinks `out` and `err`
pub record Outside : Type 0 where
  pub shelf : ShelfTold
  pub out : SinkTold
  pub err : SinkTold

-- puts together what the shelf of files and the sinks `out` and `err` tell at one moment
abbrev pub outside_of : (shelf : ShelfTold) (out err : SinkTold) → Outside
outside_of shelf out err = record { shelf = shelf; out = out; err = err }

-- what a shelf tells, but that it holds these files and never failed
abbrev pub sure_of : Files → ShelfTold → ShelfTold
sure_of files shelf = record shelf { files = Some files; reads = 0; writes = 0 }

-- what is outside of the call, where the shelf holds these files and never failed
abbrev pub over : Files → Outside → Outside
over files outside = record { shelf = sure_of files outside.shelf; out = outside.out; err = outside.err }

-- if the shelf tells its files, these words of a call have a verdict over them, and P holds of the files and the
-- verdict
abbrev pub ForFiles : (words : List (List ℕ)) → ShelfTold → (Files → Verdict → Type 0) → Type 0
ForFiles words shelf P = ForSome shelf.files (λ files. ForVerdict words files (P files))

-- status 0: `out` got the report in one piece
pub record ReportSaid (words : List (List ℕ)) (old new : Outside) : Type 0 where
  pub report : List ℕ
  pub said : TookPiece report old.out new.out
  pub done : ForFiles words old.shelf (λ files verdict. IsDone verdict files old.shelf new.shelf report)
  pub err_kept : new.err ≡ old.err

-- status 1: what the words ask for is refused, and `err` got the line of the fault in one piece; files were only read
pub record LineSaid (words : List (List ℕ)) (old new : Outside) : Type 0 where
  pub fault : Fault
  pub said : TookPiece (line_of fault) old.err new.err
  pub refused : ForFiles words old.shelf (λ files verdict. verdict ≡ Refused fault)
  pub shelf_read : OnlyRead old.shelf new.shelf
  pub out_kept : new.out ≡ old.out

-- status 2: `err` got the usage line in one piece
pub record UsageSaid (words : List (List ℕ)) (old new : Outside) : Type 0 where
  pub no_form : HasNoForm words
  pub said : TookPiece usage_line old.err new.err
  pub shelf_kept : new.shelf ≡ old.shelf
  pub out_kept : new.out ≡ old.out

-- status 3: a read from the shelf failed, and nothing was written: neither to a file nor to `out` or `err`
pub record ReadFailed (old new : Outside) : Type 0 where
  pub cause : Rose old.shelf.reads new.shelf.reads
  pub shelf_read : OnlyRead old.shelf new.shelf
  pub out_kept : new.out ≡ old.out
  pub err_kept : new.err ≡ old.err

-- status 4: the words have no form, and the usage line broke off when it was written to `err`
pub record UsageBroke (words : List (List ℕ)) (old new : Outside) : Type 0 where
  pub no_form : HasNoForm words
  pub part : TookPart usage_line old.err new.err
  pub shelf_kept : new.shelf ≡ old.shelf
  pub out_kept : new.out ≡ old.out

-- status 4: what the words ask for is refused, and the line of the fault broke off when it was written to `err`
pub record LineBroke (words : List (List ℕ)) (old new : Outside) : Type 0 where
  pub fault : Fault
  pub part : TookPart (line_of fault) old.err new.err
  pub refused : ForFiles words old.shelf (λ files verdict. verdict ≡ Refused fault)
  pub shelf_read : OnlyRead old.shelf new.shelf
  pub out_kept : new.out ≡ old.out

-- status 4: the report broke off, once all else was done
pub record ReportBroke (words : List (List ℕ)) (old new : Outside) : Type 0 where
  pub report : List ℕ
  pub part : TookPart report old.out new.out
  pub done : ForFiles words old.shelf (λ files verdict. IsDone verdict files old.shelf new.shelf report)
  pub err_kept : new.err ≡ old.err

-- status 4: a rendering broke off: a creation, an output, a cue file, the trace or a closing failed
pub record RenderingBroke (words : List (List ℕ)) (old new : Outside) : Type 0 where
  pub cause : Rose old.shelf.writes new.shelf.writes
  pub broken : ForFiles words old.shelf (λ files verdict. IsBroken verdict true files old.shelf new.shelf)
  pub out_kept : new.out ≡ old.out
  pub err_kept : new.err ≡ old.err

-- status 4: the usage line, the line of a fault, the report or a rendering broke off
abbrev pub WriteFailed : (words : List (List ℕ)) → (old new : Outside) → Type 0
WriteFailed words old new = UsageBroke words old new ⊎ LineBroke words old new ⊎ ReportBroke words old new
    ⊎ RenderingBroke words old new

-- Status 5: `out` and `err` got nothing. If the shelf tells its files, the words have a form, and the shelf was only
-- read or a rendering broke off. No field says that memory was refused indeed, so nothing ties this status to a cause.
pub record NoMemory (words : List (List ℕ)) (old new : Outside) : Type 0 where
  pub starved : ForSome old.shelf.files
      (λ files. ForEachVerdict words files (λ verdict. IsStarved verdict files old.shelf new.shelf))
  pub out_kept : new.out ≡ old.out
  pub err_kept : new.err ≡ old.err

-- What a call with these words leaves, by its status, from 0 to 5: how what is outside of it, its files and its sinks
-- `out` and `err`, came from `old` to `new`.
pub record Ends (words : List (List ℕ)) (old new : Outside) (status : ℕ) : Type 0 where
  pub is_status : status ≤ 5
  pub done : status ≡ 0 → ReportSaid words old new
  pub refused : status ≡ 1 → LineSaid words old new
  pub usage : status ≡ 2 → UsageSaid words old new
  pub read_fault : status ≡ 3 → ReadFailed old new
  pub write_fault : status ≡ 4 → WriteFailed words old new
  pub memory : status ≡ 5 → NoMemory words old new
  pub no_form : HasNoForm words → (status ≡ 2) ⊎ ((status ≡ 4) × UsageBroke words old new)

-- nothing failed during the call: no count of failed reads or writes rose, on the shelf, `out` and `err`
pub record Calm (old new : Outside) : Type 0 where
  pub reads : Rose old.shelf.reads new.shelf.reads → ⊥
  pub writes : Rose old.shelf.writes new.shelf.writes → ⊥
  pub out : Rose old.out.faults new.out.faults → ⊥
  pub err : Rose old.err.faults new.err.faults → ⊥

-- this status is the one that the verdict on the words asks for: 0 if done, 1 if refused, 2 for no form; or else 5 for
-- want of memory
abbrev pub Completes : Verdict → ℕ → Type 0
Completes (Made made station) status = (status ≡ 0) ⊎ (status ≡ 5)
Completes (Accepted station) status = (status ≡ 0) ⊎ (status ≡ 5)
Completes (Checked station) status = (status ≡ 0) ⊎ (status ≡ 5)
Completes (Refused fault) status = (status ≡ 1) ⊎ (status ≡ 5)
Completes Usage status = status ≡ 2

-- there is a verdict on these words over these files
abbrev pub HasVerdict : List (List ℕ) → Files → Type 0
HasVerdict words files = (verdict : Verdict) × IsVerdict words files verdict

-- If no count of failed reads or writes rose, the status is 5 or there is a verdict on the words, and each verdict asks
-- for this status, unless that is 5. Status 5 has no cause here: a body that always ends with it meets this.
abbrev pub IsComplete : List (List ℕ) → Outside → Outside → ℕ → Type 0
IsComplete words old new status = Calm old new → ForSome old.shelf.files (λ files.
    ((status ≡ 5) ⊎ HasVerdict words files) × ForEachVerdict words files (λ verdict. Completes verdict status))

-- A call rests on no file and no device of the shelf: it ends with this status as it would over any files, and with a
-- shelf that never fails. So it never ends with 3, and with 4 only where `out` or `err` failed.
pub record EndsApart (words : List (List ℕ)) (old new : Outside) (status : ℕ) : Type 0 where
  pub ends : (files : Files) → Ends words (over files old) (over files new) status
  pub complete : (files : Files) → IsComplete words (over files old) (over files new) status
