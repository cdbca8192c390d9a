-- What is there of a list of slots.
use Rattle.std.specs.Prelude.{◌≡◌, List, [], ◌∷◌, ◌++◌, Option, Some, None, refl}
use Rattle.std.proofs.Common.{ap}
use Rattle.frame_core.specs.Frames.{somes}

pub somes-append : {X : Type 0} (xs ys : List (Option X)) → somes (xs ++ ys) ≡ somes xs ++ somes ys
somes-append [] ys = refl
somes-append (None ∷ xs) ys = somes-append xs ys
somes-append (Some x ∷ xs) ys = ap (λ l. x ∷ l) (somes-append xs ys)
