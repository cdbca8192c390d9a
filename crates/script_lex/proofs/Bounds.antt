-- What a bounded reading gives.
use Rattle.std.proofs.Common.{◌≡◌, Bool, true, false, Some, None, refl, if◌then◌else◌}

-- a value is there exactly within the bound
pub given : {A : Type 0} (t : Bool) (m v : A) → Some v ≡ (if t then Some m else None) → (t ≡ true) × (v ≡ m)
given true m v is = (refl, cc)
given false m v is = cc
