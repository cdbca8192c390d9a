use Rattle.std.proofs.Common.{arith}
use Rattle.builtin_calls.proofs.Lists.{short_pair, long_pair}
use Rattle.builtin_calls.proofs.sources.pair_in.Goals as goal

pub returns-in-len1-clause-given : goal.returns-in-len1-clause-given
returns-in-len1-clause-given c = short_pair c.args.plan.now.nodes c.args.kind c.args.parts.now (omega arith)

pub returns-in-len3-up-clause-given : goal.returns-in-len3-up-clause-given
returns-in-len3-up-clause-given c = long_pair c.args.plan.now.nodes c.args.kind c.args.parts.now (omega arith)
