-- Cells of one title.
use Rattle.std.proofs.Common.{◌≡◌, ℕ, ℤ, List, [], ◌∷◌, length, arith, ap, refl, suc}
use Rattle.cell_ring.specs.Rings.{inner_cells}

-- inner cells are as many as the samples
pub long_run : (title : ℕ) (lefts rights : List ℤ) → length rights ≡ length lefts → length (inner_cells title lefts rights) ≡ length lefts
long_run title [] rights same = refl
long_run title (x ∷ xs) [] same = absurd (omega (arith, same))
long_run title (x ∷ xs) (y ∷ ys) same = ap suc (long_run title xs ys (omega (arith, same)))
