use Rattle.std.proofs.Common.{◌≡◌, drop}
use Rattle.liq_base.specs.Entries.{stored, given_entries}
use Rattle.liq_base.proofs.closed.find_given.Given as goal

abbrev pub invariant-loop-other : goal.invariant-loop-other
invariant-loop-other l = stored l.name (given_entries (drop l.other-index l.given)) ≡ stored l.name (given_entries l.given)
