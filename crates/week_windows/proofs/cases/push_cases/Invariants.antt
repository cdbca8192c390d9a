use Rattle.week_windows.proofs.Takings.{AreTaken}
use Rattle.week_windows.proofs.cases.push_cases.Given as goal

abbrev pub invariant-loop-k : goal.invariant-loop-k
invariant-loop-k l = AreTaken l.preds l.k l.into.items l.free
