use Rattle.std.specs.Prelude.{⊤}
use Rattle.week_plan.proofs.looked.place_among.Given as goal

abbrev pub invariant-loop-place : goal.invariant-loop-place
invariant-loop-place l = ⊤
