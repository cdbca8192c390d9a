use Rattle.week_plan.proofs.Bits.{turned_alike, turned_apart}
use Rattle.week_plan.proofs.stretch.others.Goals as goal

pub returns-then-told-clause-apart : goal.returns-then-told-clause-apart
returns-then-told-clause-apart c = λ second low none. turned_apart c.args.word second c.args.told c.if-told.true low none

pub returns-then-told-clause-alike : goal.returns-then-told-clause-alike
returns-then-told-clause-alike c = λ second low is. turned_alike c.args.word second c.args.told c.if-told.true low is
