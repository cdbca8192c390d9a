-- A list by its places.
use Rattle.std.specs.Prelude.{ℕ, zero, suc, List, [], ◌∷◌, ◌++◌}

-- the list of a function's values at 0 to n - 1, in order, as of what each of n buffers has
abbrev pub listed : {A : Type 0} → (n : ℕ) → (ℕ → A) → List A
listed zero f = []
listed (suc n) f = listed n f ++ f n ∷ []
