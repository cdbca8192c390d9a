use Rattle.std.proofs.Common.{◌≡◌, ◌-◌, length}
use Rattle.script_values.specs.Machines.{filled}
use Rattle.script_values.proofs.machine.fill.Given as goal

abbrev pub invariant-turns : goal.invariant-turns
invariant-turns l = filled l.at l.sources l.calls ≡ filled l.at l.sources l.fn.calls

abbrev pub decreases-turns : goal.decreases-turns
decreases-turns l = l.sources - length l.calls
