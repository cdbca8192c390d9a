use Rattle.std.proofs.Common.{◌≡◌, ◌||◌, ℕ, false, drop, get_or, nat_eq}
use Rattle.std.specs.List.{list_any}
use Rattle.stream_meaning.specs.Instants.{offering}
use Rattle.clock_instants.proofs.demand.demand_offering.Given as goal

abbrev pub invariant-loop-child : goal.invariant-loop-child
invariant-loop-child l = (j : ℕ) →
    (get_or l.demanded j false || list_any (nat_eq j) (offering l.parts (drop l.child-index l.children)))
    ≡ (get_or l.initial.demanded j false || list_any (nat_eq j) (offering l.parts l.children))
