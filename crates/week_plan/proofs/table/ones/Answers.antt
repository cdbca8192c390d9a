use Rattle.std.proofs.Common.{arith}
use Rattle.std.proofs.lemmas.Nat.{one_shl}
use Rattle.std.proofs.Math.Nat.{pow-le-pow_right}
use Rattle.week_plan.proofs.table.ones.Goals as goal

pub overflow_sub-result : goal.overflow_sub-result
overflow_sub-result c =
    rw (one_shl c.args.from 64 (omega (arith, c.requires.order, c.requires.minute)), one_shl c.args.to 64 (omega (arith, c.requires.minute)))
    (pow-le-pow_right {n = 2} (omega arith) c.requires.order)

pub returns : goal.returns
returns c = rw (one_shl c.args.from 64 (omega (arith, c.requires.order, c.requires.minute)), one_shl c.args.to 64 (omega (arith, c.requires.minute)))
