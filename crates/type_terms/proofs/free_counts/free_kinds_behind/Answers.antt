use Rattle.std.proofs.Common.{ap, arith}
use Rattle.type_terms.specs.Counting.{free_kinds}
use Rattle.type_terms.proofs.Counting.{kinds_all, kinds_split}
use Rattle.type_terms.proofs.free_counts.free_kinds_behind.Goals as goal

pub returns-then-first-kinds : goal.returns-then-first-kinds
returns-then-first-kinds c = kinds_all c.args.first c.args.kinds.now (omega (arith, c.if-first-kinds.true))

pub returns : goal.returns
returns c = let e = ap free_kinds c.split_at.ensures.back in let s = kinds_split c.args.first c.args.kinds.now in omega (arith, c.count_kinds.ensures, e, s)
