use Rattle.std.proofs.Common.{◌≡◌, ◌<◌, ◌-◌, ◌++◌}
use Rattle.plan_picture.specs.Numbers.{further}
use Rattle.plan_picture.proofs.numbers.push_further.Given as goal

abbrev pub invariant-loop-place : goal.invariant-loop-place
invariant-loop-place l = (l.rest < 1000000) × (l.initial.into.items ++ further 5 l.millionths ≡ l.into.items ++ further (5 - l._place) l.rest)
