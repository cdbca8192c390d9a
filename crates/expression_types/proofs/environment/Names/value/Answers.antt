use Rattle.type_steps.specs.Environment.{term_at}
use Rattle.expression_types.specs.Seen.{types_seen}
use Rattle.expression_types.proofs.Lookups.{value_older}
use Rattle.expression_types.proofs.environment.Names.value.Goals as goal

pub returns-in-None : goal.returns-in-None
returns-in-None c = value_older c.args.at c.args.self.now.defs.now c.args.self.now.before.now (term_at c.args.at (types_seen c.args.self.now.inner.now)) c.var_in.result c.var.result c.var.ensures c.var_in.ensures c.in-None.is
