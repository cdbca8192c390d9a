-- The code of a cell, for what is seen of a value that holds cells.
use Rattle.std.specs.Prelude.{ℕ, ℤ, Bool, refl}
use Rattle.std.specs.Coded.{Coded, code_by, coded×, coded_ℤ, coded_bool, coded_ℕ}
use Rattle.frame_core.specs.declared.cell.Cell.{Cell}

-- how a cell is coded as a number, by way of nested pairs, so that contracts may see a value that holds cells
abbrev pub cell_coded : Coded Cell
cell_coded =
    code_by (ℤ × (ℤ × (Bool × ℕ))) (coded× coded_ℤ (coded× coded_ℤ (coded× coded_bool coded_ℕ)))
    (λ c. (c.left, (c.right, (c.first, c.title)))) (λ p. record {
      left = p.0;
      right = p.1.0;
      first = p.1.1.0;
      title = p.1.1.1;
    }) (λ _. refl)
