-- What the writing of the one text of a call leaves. Only what is private cites this.
use Rattle.std.specs.Prelude.{◌≡◌, ◌⊎◌, ℕ, List, Result, Ok, Err, String, string_bytes}
use Rattle.std.specs.declared.alloc.Global.{Global}
use Rattle.liq_base.specs.Pieces.{SinkTold, TookPiece, TookPart}
use Rattle.refusal_lines.specs.Lines.{line_of}
use Rattle.station_jobs.specs.declared.halt.CallEnd.{CallEnd}
use Rattle.station_jobs.specs.declared.halt.CallEnd.TheVariants.{Read, Write, Memory, Refused as refused_for}

-- How writing the one text of a call to a sink ends, which came from `old` to `new`. All of it was written and the
-- status is the one `wanted`, or it broke off and the status is 4.
abbrev pub Tells : List ℕ → ℕ → (old new : SinkTold) → ℕ → Type 0
Tells text wanted old new status = ((status ≡ wanted) × TookPiece text old new) ⊎ ((status ≡ 4) × TookPart text old new)

-- How making and writing the one text of a call to a sink ends, which came from `old` to `new`. It was written with the
-- status `wanted`, or broke off with 4. Or the status is 5 and nothing was written, as when memory is refused.
abbrev pub MayTell : List ℕ → ℕ → (old new : SinkTold) → ℕ → Type 0
MayTell text wanted old new status = ((status ≡ 5) × (new ≡ old)) ⊎ Tells text wanted old new status

-- How a call ends, by the end of its job, which is a report or a reason why there is none. `out` got the report, or
-- `err` the line of a refusal, or neither got anything. The sinks came to `out_new` and `err_new`, and the last number
-- is the status, which says which.
abbrev pub Finishes : Result (String Global) CallEnd → (out out_new err err_new : SinkTold) → ℕ → Type 0
Finishes (Ok report) out out_new err err_new status = Tells (string_bytes report) 0 out out_new status × (err_new ≡ err)
Finishes (Err (refused_for fault)) out out_new err err_new status = MayTell (line_of fault) 1 err err_new status
    × (out_new ≡ out)
Finishes (Err Read) out out_new err err_new status = (status ≡ 3) × (out_new ≡ out) × (err_new ≡ err)
Finishes (Err Write) out out_new err err_new status = (status ≡ 4) × (out_new ≡ out) × (err_new ≡ err)
Finishes (Err Memory) out out_new err err_new status = (status ≡ 5) × (out_new ≡ out) × (err_new ≡ err)
