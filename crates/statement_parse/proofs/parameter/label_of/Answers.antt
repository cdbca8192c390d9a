use Rattle.statement_parse.specs.Reads.{label_of}
use Rattle.statement_parse.proofs.parameter.label_of.Goals as goal

pub returns-then-assign-clause-gives : goal.returns-then-assign-clause-gives
unfolding label_of
returns-then-assign-clause-gives c = rw (c.perhaps-assign.ensures.gives, c.if-assign.true) c.default_of.ensures.gives
