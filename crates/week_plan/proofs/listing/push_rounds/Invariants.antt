use Rattle.std.proofs.Common.{◌≡◌, ◌≤◌, ◌++◌, drop}
use Rattle.week_plan.specs.Listing.{rounds_text}
use Rattle.week_plan.proofs.listing.push_rounds.Given as goal

abbrev pub invariant-loop-k : goal.invariant-loop-k
invariant-loop-k l = (l.k ≤ 8) × (l.fn.into.items ++ rounds_text l.daily 0 l.rounds ≡ l.into.items ++ rounds_text l.daily l.k (drop l.k l.rounds))
