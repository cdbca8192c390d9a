use Rattle.std.proofs.Common.{◌≡◌, false, take}
use Rattle.std.specs.List.{list_any, zip}
use Rattle.plan_blames.proofs.Blaming.{asks_for}
use Rattle.plan_blames.proofs.red_nodes.is_needed.Given as goal

abbrev pub invariant-loop-k : goal.invariant-loop-k
invariant-loop-k l = list_any (asks_for l.child) (take l.k (zip l.nodes l.reds)) ≡ false
