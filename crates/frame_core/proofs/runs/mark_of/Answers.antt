use Rattle.std.proofs.Common.{refl}
use Rattle.frame_core.proofs.runs.mark_of.Goals as goal

pub returns-then-run : goal.returns-then-run
returns-then-run c = rw c.if-run.true refl

pub returns-else-run : goal.returns-else-run
returns-else-run c = rw c.if-run.false refl
