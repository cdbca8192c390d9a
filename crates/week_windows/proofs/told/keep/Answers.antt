use Rattle.std.proofs.lemmas.List.Elements.{All-push}
use Rattle.week_windows.specs.Told.{IsTold}
use Rattle.week_windows.proofs.told.keep.Goals as goal

pub returns : goal.returns
returns c = rw c.in_ok-push.ensures.items (All-push IsTold c.args.told.now.items c.args.one c.requires.told c.requires.one)
