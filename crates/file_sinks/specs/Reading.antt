-- What the reading of a file leaves.
use Rattle.std.specs.Prelude.{◌≡◌, ◌≤◌, ℕ, List, ◌++◌, length, take, Option}
use Rattle.std.specs.Option.{ForSome}
use Rattle.std.specs.Io.KnownBytes.{Consumes}

-- a read added bytes to a list: the list kept what it held, and more came behind it
pub record Extends (before after : List ℕ) : Type 0 where
  pub more : List ℕ
  pub after_is : after ≡ before ++ more

-- A read added bytes to a list, which went from `before` to `after`. It got the first bytes that the reader had left
-- (`had`), and the others are left now (`has`), where these are known.
pub record Reads (had has : Option (List ℕ)) (before after : List ℕ) : Type 0 where
  pub more : List ℕ
  pub after_is : after ≡ before ++ more
  pub consumed : Consumes had has more

-- a read added to the list `before`, which became `after`, all bytes that the reader had left (`had`), where those are
-- known
abbrev pub ReadsWhole : Option (List ℕ) → List ℕ → List ℕ → Type 0
ReadsWhole had before after = ForSome had (λ bytes. after ≡ before ++ bytes)

-- A read added to the list `before`, which became `after`, the first `count` bytes that the reader had left (`had`).
-- Where these are known, they were at least so many.
abbrev pub ReadsFront : (count : ℕ) → Option (List ℕ) → List ℕ → List ℕ → Type 0
ReadsFront count had before after =
    ForSome had (λ bytes. (count ≤ length bytes) × (after ≡ before ++ take count bytes))
