-- The bytes of an output in a tick.
use Rattle.std.specs.Prelude.{ℕ, List}

-- the bytes that an output has collected of the tick so far, and how many bytes it has room for in all
pub record Filled : Type 0 where
  pub bytes : List ℕ
  pub room : ℕ
