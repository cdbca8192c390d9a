-- The samples of nodes, where the lane of one is exchanged.
use Rattle.std.proofs.Common.{◌≡◌, ◌<◌, ◌∙◌, ◌++◌, ℕ, ℤ, zero, suc, Bool, true, false, List, [], ◌∷◌, cond, length, pos, replicate, set, take, arith, ap, refl}
use Rattle.std.specs.Prelude.{Vec, nat_lt}
use Rattle.std.specs.declared.alloc.Global.{Global}
use Rattle.std.specs.Option.{option_map_or}
use Rattle.std.proofs.lemmas.Bool.{le-ltb}
use Rattle.std.proofs.lemmas.List.{length-append}
use Rattle.op_mix.specs.Stretches.{Lanes, heard_of, lane_at, samples_of}
use Rattle.clock_nodes.proofs.Places.{slice_get-set_same}

pub take_front : {A : Type 0} (n : ℕ) (new rest : List A) → length new ≡ n → take n (new ++ rest) ≡ new
take_front zero [] rest long = refl
take_front zero (x ∷ new) rest long = absurd (omega (arith, long))
take_front (suc n) [] rest long = absurd (omega (arith, long))
take_front (suc n) (x ∷ new) rest long = ap (λ l. x ∷ l) (take_front n new rest (omega (arith, long)))

heard_front : (count : ℕ) (new rest : List ℤ) → length new ≡ count → heard_of (new ++ rest) count ≡ new
heard_front count new rest long =
    let all = length-append new rest in
    ap (λ short. cond short (replicate count (pos 0)) (take count (new ++ rest))) (le-ltb (length (new ++ rest)) count (omega (arith, all, long)))
    ∙ take_front count new rest long

lane_own : (i : ℕ) (lanes : Lanes) (lane : Vec ℤ Global) → i < length lanes → lane_at (set lanes i lane) i ≡ lane.items
lane_own i lanes lane within = ap (λ found. option_map_or (λ (l : Vec ℤ Global). l.items) found []) (slice_get-set_same lanes i lane within)

-- there are none of no instant
pub samples_none : (lanes : Lanes) (i : ℕ) → samples_of lanes i 0 ≡ []
samples_none lanes i = by (nat_lt (length (lane_at lanes i)) 0)
  where
    by : (short : Bool) → cond short (replicate 0 (pos 0)) (take 0 (lane_at lanes i)) ≡ []
    by true = refl
    by false = refl

-- and the node's are those at the front of its lane
pub samples_own : (i count : ℕ) (lanes : Lanes) (lane : Vec ℤ Global) (new rest : List ℤ) → i < length lanes → lane.items ≡ new ++ rest → length new ≡ count
    → samples_of (set lanes i lane) i count ≡ new
samples_own i count lanes lane new rest within is long = ap (λ l. heard_of l count) (lane_own i lanes lane within ∙ is) ∙ heard_front count new rest long
