use Rattle.std.proofs.Common.{rules}
use Rattle.time_pred.proofs.Rows.{all_is_always, any_is_always, all_is_never, any_is_never}
use Rattle.time_pred.proofs.pred.+form.Goals as goal

pub is_always-returns-in-All : goal.is_always-returns-in-All
is_always-returns-in-All t c = rw (c.in-All.is, all_is_always c.in-All.parts) (search rules)

pub is_always-returns-in-Any : goal.is_always-returns-in-Any
is_always-returns-in-Any t c = rw (c.in-Any.is, any_is_always c.in-Any.parts) (search rules)

pub is_never-returns-in-All : goal.is_never-returns-in-All
is_never-returns-in-All t c = rw (c.in-All.is, all_is_never c.in-All.parts) (search rules)

pub is_never-returns-in-Any : goal.is_never-returns-in-Any
is_never-returns-in-Any t c = rw (c.in-Any.is, any_is_never c.in-Any.parts) (search rules)
