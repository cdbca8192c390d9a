use Rattle.std.proofs.Common.{rules, ◌≡◌, Err}
use Rattle.std.specs.Option.{ForSome}
use Rattle.liq_base.specs.Files.{file_at}
use Rattle.track_library.specs.Heads.{HeadFound}
use Rattle.track_library.specs.Walk.{bytes_in, wav_opened}
use Rattle.track_library.proofs.Counting.{bad_counts, counted_by_head}
use Rattle.track_library.proofs.reading.count_audio.Goals as goal

pub returns-in-Ok-clause-counted : goal.returns-in-Ok-clause-counted
returns-in-Ok-clause-counted g c =
    let found : HeadFound c.args.name.now c.args.rules.file (g.S.Shelf.told c.args.shelf.now).files c.in-Ok.head c.in-Ok.size = search rules in
    rw c.count_head.ensures (counted_by_head c.args.rules c.args.name.now (g.S.Shelf.told c.args.shelf.now).files c.in-Ok.head c.in-Ok.size found)

pub returns-in-Err-clause-counted : goal.returns-in-Err-clause-counted
returns-in-Err-clause-counted g c =
    let bad : ForSome (g.S.Shelf.told c.args.shelf.now).files (λ all. wav_opened (bytes_in c.args.rules.file (file_at all c.args.name.now)) ≡ Err c.in-Err.fault) = search rules in
    λ all t. bad_counts c.args.rules (bytes_in c.args.rules.file (file_at all c.args.name.now)) c.in-Err.fault (bad all t)
