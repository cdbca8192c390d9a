use Rattle.std.proofs.Common.{ap, arith}
use Rattle.type_terms.specs.Counting.{free_types}
use Rattle.type_terms.proofs.Counting.{types_all, types_split}
use Rattle.type_terms.proofs.free_counts.free_types_behind.Goals as goal

pub returns-then-first-types : goal.returns-then-first-types
returns-then-first-types c = types_all c.args.first c.args.types.now (omega (arith, c.if-first-types.true))

pub returns : goal.returns
returns c = let e = ap free_types c.split_at.ensures.back in let s = types_split c.args.first c.args.types.now in omega (arith, c.count_types.ensures, e, s)
