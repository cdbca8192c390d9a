use Rattle.std.proofs.lemmas.List.Elements.{All-push}
use Rattle.week_plan.specs.Looked.{IsLooked}
use Rattle.week_plan.proofs.looked.keep.Goals as goal

pub returns-clause-kept : goal.returns-clause-kept
returns-clause-kept c = rw c.in_ok-push.ensures.items (All-push IsLooked c.args.kept.now.items c.args.looked c.requires.kept c.requires.looked)
