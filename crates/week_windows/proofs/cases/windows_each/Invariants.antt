use Rattle.std.proofs.Common.{◌≡◌, take}
use Rattle.std.specs.Prelude.{map}
use Rattle.week_windows.specs.Windows.{in_all, lengths_of, spans_in}
use Rattle.week_windows.proofs.cases.windows_each.Given as goal

abbrev pub invariant-loop-spans : goal.invariant-loop-spans
invariant-loop-spans l = l.all.items ≡ map (λ spans. in_all (lengths_of (spans_in spans))) (take l.spans-index l.cases)
