use Rattle.std.proofs.Common.{◌≡◌, ◌++◌, drop}
use Rattle.liq_base.specs.ShelfStates.{appends_of}
use Rattle.liq_base.proofs.mem_shelf.listed_appends.Given as goal

abbrev pub invariant-loop-fail : goal.invariant-loop-fail
invariant-loop-fail l = l.own.items ++ appends_of l.sink (drop l.fail-index l.fails) ≡ appends_of l.sink l.fails
