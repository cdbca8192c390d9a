-- A region within the one above it.
use Rattle.std.proofs.Common.{◌≡◌, ℕ, suc, List, ◌++◌, codes, decimal, ap}
use Rattle.clock_infer.specs.declared.clock_map.NodeClock.{NodeClock}
use Rattle.clock_infer.specs.declared.clock_map.NodeClock.TheVariants.{Sub}
use Rattle.plan_picture.specs.Regions.{clock_of, opening}

pub open_more : (of : List NodeClock) (levels n k : ℕ) → levels ≡ suc n
    → opening of levels (Sub k) ≡ opening of n (clock_of of k) ++ (codes "subgraph cluster_sub" ++ decimal k ++ codes " { ")
open_more of levels n k e = ap (λ (m : ℕ). opening of m (Sub k)) e
