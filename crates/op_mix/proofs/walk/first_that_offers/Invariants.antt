use Rattle.std.proofs.Common.{◌≡◌, drop}
use Rattle.op_mix.specs.Stretches.{first_that_gives, offers_in}
use Rattle.op_mix.proofs.walk.first_that_offers.Given as goal

abbrev pub invariant-loop-child : goal.invariant-loop-child
invariant-loop-child l = first_that_gives (offers_in l.parts) (drop l.child-index l.children) ≡ first_that_gives (offers_in l.parts) l.children
