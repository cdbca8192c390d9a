use Rattle.fallible_infer.proofs.Marking as law
use Rattle.fallible_infer.proofs.laws.one_marking.Goals as goal

pub returns : goal.returns
returns c = law.one_marking
