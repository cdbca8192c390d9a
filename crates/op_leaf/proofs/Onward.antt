-- A reader that plays, some cells on.
use Rattle.std.proofs.Common.{◌≡◌, ◌∙◌, ℕ, zero, suc, true, List, [], ◌∷◌, drop, slice_get, refl, ap, add-one}
use Rattle.std.proofs.lemmas.List.{drop-drop}
use Rattle.frame_core.specs.declared.cell.Cell.{Cell}
use Rattle.op_leaf.specs.Readers.{Reader, after_cell, read_by, reader_slot}

at_front : (cells : List Cell) (prefill frame : ℕ) → reader_slot (record { cells = cells; playing = true; prefill = prefill; frame = frame }) ≡ slice_get cells 0
at_front [] prefill frame = refl
at_front (cell ∷ cells) prefill frame = refl

behind : (cells : List Cell) (j : ℕ) → slice_get (drop j cells) 0 ≡ slice_get cells j
behind cells zero = refl
behind [] (suc j) = refl
behind (cell ∷ cells) (suc j) = behind cells j

pub played : (j : ℕ) (cells : List Cell) (prefill frame : ℕ) → read_by j (record { cells = cells; playing = true; prefill = prefill; frame = frame })
    ≡ record { cells = drop j cells; playing = true; prefill = prefill; frame = frame }
played zero cells prefill frame = refl
played (suc j) cells prefill frame =
    ap after_cell (played j cells prefill frame)
    ∙ ap (λ (held : List Cell). record { cells = held; playing = true; prefill = prefill; frame = frame }) (drop-drop 1 j cells ∙ ap (λ n. drop n cells) (add-one j))

-- what it offers after so many cells more
pub plays_on : (reader : Reader) (j : ℕ) → reader.playing ≡ true → reader_slot (read_by j reader) ≡ slice_get reader.cells j
plays_on reader j plays =
    let is : reader ≡ record { cells = reader.cells; playing = true; prefill = reader.prefill; frame = reader.frame } =
    ap (λ on. record { cells = reader.cells; playing = on; prefill = reader.prefill; frame = reader.frame }) plays in
    ap (λ r. reader_slot (read_by j r)) is ∙ ap reader_slot (played j reader.cells reader.prefill reader.frame)
    ∙ at_front (drop j reader.cells) reader.prefill reader.frame ∙ behind reader.cells j

-- a cell given before the others
pub one_before : (j : ℕ) (reader : Reader) → read_by j (after_cell reader) ≡ read_by (suc j) reader
one_before zero reader = refl
one_before (suc j) reader = ap after_cell (one_before j reader)
