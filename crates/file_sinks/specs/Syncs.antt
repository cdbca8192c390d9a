-- What a sync answers, and what that says of the bytes.
use Rattle.std.specs.Prelude.{◌≡◌, ◌⊎◌, IfErr}
use Rattle.std.specs.declared.result.Result.{Result}
use Rattle.std.specs.declared.io.ErrorKind.{ErrorKind}
use Rattle.std.specs.declared.io.ErrorKind.TheVariants.{InvalidInput, Unsupported}

-- what the system answers where it is asked to make written bytes certain on the disk (a sync): it went well, or why
-- not
abbrev pub SyncAnswer : Type 0
SyncAnswer = Result (Unit {0}) ErrorKind

-- this kind of error, with which a sync (to bring written bytes to the disk) was refused, says that what is open knows
-- no sync, as a pipe; its faults showed in its writes
abbrev pub SaysNoSync : ErrorKind → Type 0
SaysNoSync kind = (kind ≡ InvalidInput) ⊎ (kind ≡ Unsupported)

-- after this answer to a sync the written bytes are as certain as the system can make them: it went well, or what is
-- open, as a pipe, knows no sync
abbrev pub MakesCertain : SyncAnswer → Type 0
MakesCertain answer = IfErr answer SaysNoSync
