-- How many samples of a lane are heard.
use Rattle.std.proofs.Common.{◌≡◌, ℕ, ℤ, Bool, true, false, List, cond, length, pos, replicate, take, refl}
use Rattle.std.proofs.lemmas.Bool.{ltb-false}
use Rattle.std.proofs.lemmas.List.{length-replicate, length-take-le}
use Rattle.std.specs.Prelude.{nat_lt}
use Rattle.op_mix.specs.Stretches.{Lanes, lane_at, samples_of}

heard_by : (lane : List ℤ) (count : ℕ) → (short : Bool) → nat_lt (length lane) count ≡ short → length (cond short (replicate count (pos 0)) (take count lane)) ≡ count
heard_by lane count true is = length-replicate count (pos 0)
heard_by lane count false is = length-take-le count lane (ltb-false (length lane) count is)

-- the samples of a node are as many as are asked for
pub samples_long : (lanes : Lanes) (i count : ℕ) → length (samples_of lanes i count) ≡ count
samples_long lanes i count = heard_by (lane_at lanes i) count (nat_lt (length (lane_at lanes i)) count) refl
