use Rattle.resample.proofs.Numbers.{long_narrow, long_wide}
use Rattle.resample.proofs.changed.count_in.Goals as goal

pub returns-then-wide : goal.returns-then-wide
returns-then-wide c = long_wide c.args.wide c.args.bytes.now c.if-wide.true

pub returns-else-wide : goal.returns-else-wide
returns-else-wide c = long_narrow c.args.wide c.args.bytes.now c.if-wide.false
