use Rattle.week_windows.proofs.Seconds.{spans_are}
use Rattle.week_windows.proofs.laws.spans_are_longest.Goals as goal

pub returns : goal.returns
returns c = spans_are
