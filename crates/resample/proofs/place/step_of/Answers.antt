use Rattle.std.proofs.lemmas.Nat.{div-add-mod'}
use Rattle.resample.proofs.place.step_of.Goals as goal

pub returns-clause-whole : goal.returns-clause-whole
returns-clause-whole c = div-add-mod' c.args.from c.args.to
