use Rattle.std.proofs.Common.{arith}
use Rattle.week_plan.proofs.Tables.{met_at, met_nowhere}
use Rattle.week_plan.proofs.table.meet.Goals as goal

pub returns-then-one-k-ne0-clause-some : goal.returns-then-one-k-ne0-clause-some
returns-then-one-k-ne0-clause-some c = λ yes. met_at c.args.one.now c.args.other.now c.loop-k.k (omega (arith, c.loop-k-test.true)) c.requires.one c.if-one-k-ne0.true

pub returns-clause-none : goal.returns-clause-none
returns-clause-none c = λ no. met_nowhere c.args.one.now c.args.other.now (λ k low. c.loop-k.invariant k (omega (arith, c.loop-k-test.false, low)))
