use Rattle.std.proofs.Common.{rules, ◌≡◌, Err}
use Rattle.std.specs.Option.{ForSome}
use Rattle.liq_base.specs.Files.{file_at}
use Rattle.track_library.specs.Heads.{HeadFound}
use Rattle.track_library.specs.Walk.{bytes_in, wav_opened}
use Rattle.sound_looks.proofs.Looking.{looked_bad, looked_head}
use Rattle.sound_looks.proofs.look.look_at.Goals as goal

pub returns-in-Ok-Ok-clause-looked : goal.returns-in-Ok-Ok-clause-looked
returns-in-Ok-Ok-clause-looked g c =
    let found : HeadFound c.args.name.now c.args.rules.file (g.S.Shelf.told c.args.shelf.now).files c.in-Ok-Ok.head c.in-Ok-Ok.size = search rules in
    rw c.facts_of.ensures (looked_head c.args.rules c.args.name.now (g.S.Shelf.told c.args.shelf.now).files c.in-Ok-Ok.head c.in-Ok-Ok.size found)

pub returns-in-Ok-Err-clause-looked : goal.returns-in-Ok-Err-clause-looked
returns-in-Ok-Err-clause-looked g c =
    let bad : ForSome (g.S.Shelf.told c.args.shelf.now).files (λ all. wav_opened (bytes_in c.args.rules.file (file_at all c.args.name.now)) ≡ Err c.in-Ok-Err.fault) = search rules in
    λ all t. looked_bad c.args.rules (bytes_in c.args.rules.file (file_at all c.args.name.now)) c.in-Ok-Err.fault (bad all t)
