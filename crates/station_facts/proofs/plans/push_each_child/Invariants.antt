use Rattle.std.proofs.Common.{[], ◌∷◌, ℕ}
use Rattle.std.specs.Prelude.{decimal}
use Rattle.json.specs.Token.{number}
use Rattle.station_facts.proofs.Each.{Goes}
use Rattle.station_facts.proofs.plans.push_each_child.Given as goal

abbrev pub invariant-loop-child : goal.invariant-loop-child
invariant-loop-child l = Goes (λ (child : ℕ). number (decimal child) ∷ []) l.children l.child-index l.fn.out l.out
