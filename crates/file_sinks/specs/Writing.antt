-- What a writer of known bytes got of a piece.
use Rattle.std.specs.Prelude.{◌≡◌, ℕ, List, ◌++◌, Option}
use Rattle.std.specs.Io.KnownBytes.{Appends}

-- a write took the first bytes of a piece, maybe none or all: they were added to what the writer held, which went from
-- `before` to `after`, where that is known
pub record AppendsPart (before after : Option (List ℕ)) (piece : List ℕ) : Type 0 where
  pub done : List ℕ
  pub rest : List ℕ
  pub piece_is : piece ≡ done ++ rest
  pub appended : Appends before after done
