use Rattle.std.proofs.Common.{◌≡◌, ◌++◌, drop}
use Rattle.week_plan.specs.Listing.{rounds_before}
use Rattle.week_plan.proofs.listing.push_before.Given as goal

abbrev pub invariant-loop-span : goal.invariant-loop-span
invariant-loop-span l = l.fn.rounds.items ++ rounds_before l.end l.spans ≡ l.rounds.items ++ rounds_before l.end (drop l.span-index l.spans)
