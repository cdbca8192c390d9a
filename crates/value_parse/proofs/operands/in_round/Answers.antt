use Rattle.std.proofs.Common.{refl, arith}
use Rattle.value_parse.proofs.Tuples.{tuple_seen, tuple_is_whole}
use Rattle.value_parse.proofs.operands.in_round.Goals as goal

pub returns-then-len-gt1-clause-made : goal.returns-then-len-gt1-clause-made
returns-then-len-gt1-clause-made c = tuple_seen c.args.at c.args.parts c.args.parts.items refl (omega (arith, c.args.parts.ok.0))

pub returns-then-len-gt1-clause-whole : goal.returns-then-len-gt1-clause-whole
returns-then-len-gt1-clause-whole c = tuple_is_whole c.args.at c.args.parts c.args.parts.items refl (omega (arith, c.args.parts.ok.0))
