use Rattle.std.proofs.Common.{◌≡◌, ◌≤◌, ℕ, suc, true, false, get_or, length}
use Rattle.stream_meaning.specs.Instants.{Setting}
use Rattle.clock_instants.specs.Demands.{PicksOffer, with_plan}
use Rattle.clock_nodes.specs.Nodes.{lies_at}
use Rattle.clock_instants.proofs.Marking.{Marked}
use Rattle.clock_instants.proofs.demand.find_demanded.Given as goal

abbrev pub invariant-loop-i : goal.invariant-loop-i
invariant-loop-i l = record {
  within : l.i ≤ length l.all;
  own : (j : ℕ) → l.i ≡ suc j → lies_at l.scene.clocks.now l.fn.clock j ≡ true;
  others : (j : ℕ) → lies_at l.scene.clocks.now l.fn.clock j ≡ false → get_or l.demanded j false ≡ false;
  marked : (setting : Setting) → PicksOffer l.scene.plan.now.nodes l.parts
      → Marked (with_plan l.scene.plan.now setting) (λ j. get_or l.initial.demanded j false) l.all l.parts l.demanded l.i;
}

abbrev pub decreases-loop-i : goal.decreases-loop-i
decreases-loop-i l = l.i
