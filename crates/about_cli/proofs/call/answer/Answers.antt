use Rattle.about_cli.proofs.Telling.{told_of_long}
use Rattle.about_cli.proofs.call.answer.Goals as goal

pub returns-in-Ok-TooLarge-clause-told : goal.returns-in-Ok-TooLarge-clause-told
returns-in-Ok-TooLarge-clause-told g c =
    told_of_long c.args.question c.args.file.now (g.T.Shelf.told c.args.scripts.now) (g.T.Shelf.told c.read.new.self) (g.S.Shelf.told c.args.shelf.now)
    (g.O.Sink.told c.args.out.now) (g.O.Sink.told c.tell_long.new.out) c.tell_long.result
    (c.in-Ok-TooLarge.ensures.too_large (let at = c.in-Ok-TooLarge.field-0-is in cc))
    (c.tell_long.ensures (g.S.Shelf.told c.args.shelf.now))
