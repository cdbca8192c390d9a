-- What a call leaves, for each status.
use Rattle.std.specs.Prelude.{◌≡◌, ◌≢◌, ◌≤◌, ◌<◌, ◌⊎◌, ℕ, List, length, Option, Some, None, IsSomeAnd, Result, Ok, Err}
use Rattle.std.specs.Option.{ForSome}
use Rattle.about_cli.specs.Told.{HasNoPlan, Tells}
use Rattle.about_cli.specs.Words.{AsksFor, HasNoForm, usage_line}
use Rattle.about_cli.specs.declared.verb.Question.{Question}
use Rattle.about_cli.specs.declared.verb.Question.TheVariants.{Files, Tokens}
use Rattle.about_cli.specs.declared.verb.Verb.{Verb}
use Rattle.about_cli.specs.declared.verb.Verb.TheVariants.{Where, Tell}
use Rattle.plan_core.specs.declared.plan.Plan.{Plan}
use Rattle.script_plan.specs.Plans.{IsPlan}
use Rattle.liq_base.specs.Counts.{Rose}
use Rattle.liq_base.specs.Files.{file_at}
use Rattle.liq_base.specs.Pieces.{SinkTold, TookPart, TookPiece}
use Rattle.liq_base.specs.Shelves.{OnlyRead, ShelfTold}
use Rattle.liq_base.specs.declared.limits.TheConstants.{MAX_SCRIPT_BYTES}
use Rattle.where_lines.specs.Broken.{BrokeOff}
use Rattle.where_lines.specs.Passes.{AllPassed}
use Rattle.where_lines.specs.declared.passing.Broke.{Broke}
use Rattle.where_lines.specs.declared.passing.Broke.TheVariants.{Input, Output, Memory}

-- All that is outside of a call at one time, as its objects tell it: the shelf of scripts, the shelf of audio files,
-- standard output and standard error.
pub record Outside : Type 0 where
  pub scripts : ShelfTold
  pub shelf : ShelfTold
  pub out : SinkTold
  pub err : SinkTold

-- all that is outside of a call, as its objects tell it: the two shelves, standard output and standard error
abbrev pub outside_of : (scripts shelf : ShelfTold) (out err : SinkTold) → Outside
outside_of scripts shelf out err = record { scripts = scripts; shelf = shelf; out = out; err = err }

-- A sink took the bytes `piece` whole, and a call's status is the `wanted` one; or the write failed with a beginning
-- of them, and the status is 4. `old` and `new` are what the sink tells before and after.
abbrev pub Puts : (piece : List ℕ) → (wanted : ℕ) → (old new : SinkTold) → (status : ℕ) → Type 0
Puts piece wanted old new status = ((status ≡ wanted) × TookPiece piece old new)
    ⊎ ((status ≡ 4) × TookPart piece old new)

-- Standard output took all bytes of some answer, `told`, in one piece, and P holds of the answer. `out` and `out_new`
-- are what the sink of standard output tells before and after.
pub record Said (P : List ℕ → Type 0) (out out_new : SinkTold) : Type 0 where
  pub told : List ℕ
  pub said : TookPiece told out out_new
  pub is : P told

-- A write to standard output failed: the sink took a beginning of some answer, `told`, maybe nothing of it, and P
-- holds of the whole answer. `out` and `out_new` are what the sink tells before and after.
pub record Broken (P : List ℕ → Type 0) (out out_new : SinkTold) : Type 0 where
  pub told : List ℕ
  pub part : TookPart told out out_new
  pub is : P told

-- The bytes `told` are the right answer to the question for each script that is longer than the limit, so they rest on
-- no byte of it. The `shelf` of the script's audio files stays as it is.
abbrev pub TellsEachLong : Question → (shelf : ShelfTold) → (told : List ℕ) → Type 0
TellsEachLong question shelf told = (text : List ℕ) → MAX_SCRIPT_BYTES < length text → Tells question text shelf shelf told

-- What a call leaves for a question about a script with the bytes `text`, by status: 0 answered, 1 the script has no
-- plan, 4 the write failed, 5 memory was refused. `old` and `new` are the shelf before and after the call, `out` and
-- `out_new` standard output.
pub record TellsText (question : Question) (text : List ℕ) (old new : ShelfTold) (out out_new : SinkTold)
    (status : ℕ) : Type 0 where
  pub is_status : status ≤ 5
  pub done : status ≡ 0 → Said (Tells question text old new) out out_new
  pub no_plan : status ≡ 1 → (question ≢ Tokens) × HasNoPlan text × (out_new ≡ out)
  pub no_usage : status ≡ 2 → ⊥
  pub no_read : status ≡ 3 → ⊥
  pub unwritten : status ≡ 4 → Broken (Tells question text old new) out out_new
  pub refused : status ≡ 5 → out_new ≡ out

-- What a call leaves for a question about a script that is longer than the limit, by status as for other scripts. The
-- script's bytes and the files of the `shelf` are not read. `out` and `out_new` are standard output before and after
-- the call.
pub record TellsLong (question : Question) (shelf : ShelfTold) (out out_new : SinkTold) (status : ℕ) : Type 0 where
  pub is_status : status ≤ 5
  pub done : status ≡ 0 → Said (TellsEachLong question shelf) out out_new
  pub no_plan : status ≡ 1 → (question ≢ Tokens) × (out_new ≡ out)
  pub no_usage : status ≡ 2 → ⊥
  pub no_read : status ≡ 3 → ⊥
  pub unwritten : status ≡ 4 → Broken (TellsEachLong question shelf) out out_new
  pub refused : status ≡ 5 → out_new ≡ out

-- A script of the name `file` is on this shelf, and P holds of its bytes. Where the shelf does not tell its files,
-- nothing is claimed.
abbrev pub Holds : ShelfTold → (file : List ℕ) → (List ℕ → Type 0) → Type 0
Holds shelf file P = ForSome shelf.files (λ files. IsSomeAnd (file_at files file) P)

-- What a call leaves for a question about the script named `file`, by status: 0 answered, 1 it has no plan, 3 it is
-- not there or a read failed, 4 the write failed, 5 memory was refused. `scripts` is the shelf of scripts before the
-- call, `old` the other shelf, and `out` standard output. With `new` they are those after it.
pub record Told (question : Question) (file : List ℕ) (scripts scripts_new old new : ShelfTold) (out out_new : SinkTold)
    (status : ℕ) : Type 0 where
  pub is_status : status ≤ 5
  pub done : status ≡ 0
      → Said (λ told. Holds scripts file (λ text. Tells question text old new told)) out out_new
  pub no_plan : status ≡ 1 → (question ≢ Tokens) × Holds scripts file HasNoPlan × (out_new ≡ out)
  pub no_usage : status ≡ 2 → ⊥
  pub unread : status ≡ 3
      → (Rose scripts.reads scripts_new.reads ⊎ ForSome scripts.files (λ files. file_at files file ≡ None))
      × (out_new ≡ out)
  pub unwritten : status ≡ 4
      → Broken (λ told. Holds scripts file (λ text. Tells question text old new told)) out out_new
  pub refused : status ≡ 5 → out_new ≡ out

-- The status of `where`, by how its copying of input lines ended: 0 where all were passed on, 3 where the input
-- failed, 4 where the output failed, 5 where memory was refused.
abbrev pub IsPassedBy : Result (Unit {0}) Broke → (status : ℕ) → Type 0
IsPassedBy (Ok done) status = status ≡ 0
IsPassedBy (Err Input) status = status ≡ 3
IsPassedBy (Err Output) status = status ≡ 4
IsPassedBy (Err Memory) status = status ≡ 5

-- The last argument is the bytes of the script named `file`. It may be `None` only where the script is not there or
-- too long, or where a read failed. `scripts` and `scripts_new` are the shelf of scripts before and after.
abbrev pub IsScript : (file : List ℕ) → (scripts scripts_new : ShelfTold) → Option (List ℕ) → Type 0
IsScript file scripts scripts_new (Some text) = ForSome scripts.files (λ files. file_at files file ≡ Some text)
IsScript file scripts scripts_new None = Rose scripts.reads scripts_new.reads
    ⊎ ForSome scripts.files (λ files. file_at files file ≡ None)
    ⊎ Holds scripts file (λ text. MAX_SCRIPT_BYTES < length text)

-- All lines of the input were passed on to standard output, with the places in the script that they name. `file` is
-- the script's name, and `script` its bytes if they can be told. `scripts` is the shelf of scripts before and
-- `scripts_new` after, and so are `out` and `out_new` standard output.
pub record AllShown (file : List ℕ) (scripts scripts_new : ShelfTold) (input : Option (List ℕ))
    (out out_new : SinkTold) : Type 0 where
  pub script : Option (List ℕ)
  pub is_script : IsScript file scripts scripts_new script
  pub passed : AllPassed file script input out out_new

-- The passing on of input lines to standard output broke off for the reason `broke`: what was passed on until then.
-- `file` is the script's name, and `script` its bytes if they can be told. `scripts` is the shelf of scripts before
-- and `scripts_new` after, and so are `out` and `out_new` standard output.
pub record ShownUntil (broke : Broke) (file : List ℕ) (scripts scripts_new : ShelfTold) (input : Option (List ℕ))
    (out out_new : SinkTold) : Type 0 where
  pub script : Option (List ℕ)
  pub is_script : IsScript file scripts scripts_new script
  pub broke_off : BrokeOff file script broke input out out_new

-- What a call of `where` leaves, by status: 0 all lines were passed on, 3 the input failed, 4 the output failed, 5
-- memory was refused. `file` names the script in which places are looked up. Why reading an input fails is not told,
-- so neither is why status 3 came.
pub record Passed (file : List ℕ) (scripts scripts_new : ShelfTold) (input : Option (List ℕ))
    (out out_new : SinkTold) (status : ℕ) : Type 0 where
  pub is_status : status ≤ 5
  pub done : status ≡ 0 → AllShown file scripts scripts_new input out out_new
  pub no_plan : status ≡ 1 → ⊥
  pub no_usage : status ≡ 2 → ⊥
  pub unread : status ≡ 3 → ShownUntil Input file scripts scripts_new input out out_new
  pub unwritten : status ≡ 4 → ShownUntil Output file scripts scripts_new input out out_new
  pub refused : status ≡ 5 → (out_new ≡ out) ⊎ ShownUntil Memory file scripts scripts_new input out out_new

-- What a call of a verb leaves, by status: `where` passes the input on, with places in the script `file`. Any other
-- verb is a question that is answered about that script. `old` and `new` are all outside before and after.
abbrev pub Answers : Verb → (file : List ℕ) → (input : Option (List ℕ)) → (old new : Outside) → (status : ℕ) → Type 0
Answers Where file input old new status =
    Passed file old.scripts new.scripts input old.out new.out status × (new.shelf ≡ old.shelf)
Answers (Tell question) file input old new status =
    Told question file old.scripts new.scripts old.shelf new.shelf old.out new.out status

-- A call with words that the program does not know as a form: it writes the usage line to standard error, and nothing
-- else. The status is 2, or 4 where that write failed. `old` and `new` are all outside before and after.
pub record UsageSaid (old new : Outside) (status : ℕ) : Type 0 where
  pub said : Puts usage_line 2 old.err new.err status
  pub out_kept : new.out ≡ old.out
  pub scripts_kept : new.scripts ≡ old.scripts
  pub shelf_kept : new.shelf ≡ old.shelf

-- What a call leaves outside (from `old` to `new`) and with which status, by its words and by what is still to be read
-- of the input. Shelves are only read. A verb is answered, and words without a form get the usage line.
pub record Ends (words : List (List ℕ)) (input : Option (List ℕ)) (old new : Outside) (status : ℕ) : Type 0 where
  pub scripts_read : OnlyRead old.scripts new.scripts
  pub shelf_read : OnlyRead old.shelf new.shelf
  pub asked : (verb : Verb) (file : List ℕ) → AsksFor words verb file
      → Answers verb file input old new status × (new.err ≡ old.err)
  pub usage : HasNoForm words → UsageSaid old new status

-- the words of a call ask which files some script needs
abbrev pub AsksForFiles : List (List ℕ) → Type 0
AsksForFiles words = (file : List ℕ) × AsksFor words (Tell Files) file

-- The words of a call ask for the lines of the input, about some script `file`.
abbrev pub AsksForLines : List (List ℕ) → Type 0
AsksForLines words = (file : List ℕ) × AsksFor words Where file

-- Nothing failed in a call, from `old` to `new`: the number of failed reads of scripts did not rise, nor did that of
-- failed writes to standard output or standard error.
pub record Calm (old new : Outside) : Type 0 where
  pub scripts : Rose old.scripts.reads new.scripts.reads → ⊥
  pub out : Rose old.out.faults new.out.faults → ⊥
  pub err : Rose old.err.faults new.err.faults → ⊥

-- the status of a call is the `wanted` one, or 5 for want of memory
abbrev pub Comes : (wanted status : ℕ) → Type 0
Comes wanted status = (status ≡ wanted) ⊎ (status ≡ 5)

-- the status of a question about a text: 0, or 1 if it needs a plan and the text has none, or 5 for want of memory
pub record Completes (question : Question) (text : List ℕ) (status : ℕ) : Type 0 where
  pub tokens : question ≡ Tokens → Comes 0 status
  pub planned : (plan : Plan) → IsPlan text plan → Comes 0 status
  pub unplanned : question ≢ Tokens → HasNoPlan text → Comes 1 status

-- The status of a question about a script with these bytes; `None` says that it is not there, which gives status 3.
-- Want of memory gives 5 in any case.
abbrev pub CompletesFor : Question → Option (List ℕ) → (status : ℕ) → Type 0
CompletesFor question None status = Comes 3 status
CompletesFor question (Some text) status = Completes question text status

-- Where nothing failed from `old` to `new`, the status is the one that the words and the files come to, unless memory
-- was refused. `where` may also end with 3, as nothing is told of why an input fails.
pub record IsComplete (words : List (List ℕ)) (old new : Outside) (status : ℕ) : Type 0 where
  pub told : Calm old new → (question : Question) (file : List ℕ) → AsksFor words (Tell question) file
      → ForSome old.scripts.files (λ files. CompletesFor question (file_at files file) status)
  pub shown : Calm old new → (file : List ℕ) → AsksFor words Where file
      → (status ≡ 0) ⊎ (status ≡ 3) ⊎ (status ≡ 5)
  pub usage : Calm old new → HasNoForm words → status ≡ 2
