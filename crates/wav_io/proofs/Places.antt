-- Where the blocks stand in the file.
use Rattle.std.proofs.Common.{◌≡◌, ◌≤◌, ◌+◌, ◌∙◌, ℕ, zero, suc, List, [], ◌∷◌, length, take, drop, arith, ap, refl, sym, length-drop, length-take}

front_again : {X : Type 0} (n m : ℕ) (ys : List X) → take n (take m ys) ≡ take (length (take n (take m ys))) ys
front_again zero m ys = refl
front_again (suc n) zero ys = refl
front_again (suc n) (suc m) [] = refl
front_again (suc n) (suc m) (y ∷ ys) = ap (λ l. y ∷ l) (front_again n m ys)

-- a front of a front of what stands behind a place
pub placed : {X : Type 0} (part : List X) (n m k : ℕ) (whole : List X) → k ≤ length whole → part ≡ take n (take m (drop k whole))
    → (part ≡ take (length part) (drop k whole)) × (k + length part ≤ length whole)
placed part n m k whole there is = (
  is ∙ front_again n m (drop k whole) ∙ ap (λ l. take (length l) (drop k whole)) (sym is),
  omega (arith, there, ap length is, length-take n (take m (drop k whole)), length-take m (drop k whole), length-drop k whole),
)
