use Rattle.std.proofs.Common.{arith, refl}
use Rattle.week_plan.proofs.Alike.{daily, same_minute}
use Rattle.week_plan.proofs.days.is_daily.Goals as goal

pub returns-then-words-k : goal.returns-then-words-k
returns-then-words-k c = (
  λ yes. absurd cc,
  λ is. absurd (c.if-words-k.true (same_minute c.args.words.now c.loop-k.k (omega (arith, c.loop-k-test.true)) (record { size = c.requires.size; small = c.requires.small }) is)),
)

pub returns : goal.returns
returns c = (λ is. daily c.args.words.now (λ j low. c.loop-k.invariant j (omega (arith, c.loop-k-test.false, low))), λ is. refl)
