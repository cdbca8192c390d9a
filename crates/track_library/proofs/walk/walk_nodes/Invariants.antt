use Rattle.std.proofs.Common.{◌≡◌, ℕ, List, [], drop, length}
use Rattle.std.specs.Prelude.{Ok}
use Rattle.std.specs.Option.{ForSome}
use Rattle.liq_base.specs.Shelves.{OnlyRead}
use Rattle.track_library.specs.Walk.{nodes_walked, nothing_met}
use Rattle.track_library.specs.Reads.{LoadReads, NodesRead}
use Rattle.track_library.specs.States.{heard_of, Keeps, walked_of}
use Rattle.track_library.proofs.Leaves.{LeavesSoFar}
use Rattle.track_library.proofs.OneFile.{SinglesSoFar}
use Rattle.track_library.proofs.walk.walk_nodes.Given as goal

-- the leaves so far and the nodes that are left make the whole
abbrev pub invariant-loop-node : goal.invariant-loop-node
invariant-loop-node g l =
    OnlyRead (g.S.Shelf.told l.fn.shelf) (g.S.Shelf.told l.shelf)
    × LeavesSoFar (heard_of l.walk.audio) l.leaves
    × ForSome (g.S.Shelf.told l.fn.shelf).files (λ files. nodes_walked l.rules files l.plan.nodes (Ok (nothing_met, []))
    ≡ nodes_walked l.rules files (drop l.node-index l.plan.nodes) (Ok (walked_of l.walk, l.leaves)))
    × ForSome (g.S.Shelf.told l.fn.shelf).files (λ files. (read : List ℕ)
    → NodesRead l.rules files (drop l.node-index l.plan.nodes) (Ok (walked_of l.walk, l.leaves)) read
    → LoadReads l.rules files l.plan.nodes read)
    × (length l.leaves ≡ l.node-index)
    × SinglesSoFar l.node-index l.plan.nodes l.leaves
    × Keeps l.rules (g.S.Shelf.told l.fn.shelf).files l.fn.walk.audio l.walk.audio
