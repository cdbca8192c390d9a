-- The value of a token.
use Rattle.std.specs.Prelude.{ℕ, zero, suc, List, Option, None, get_or, slice_get}

-- The value of the token with index t, by a list with a place for each token; `None` where its place is empty or behind
-- the end.
abbrev pub at_token : {X : Type 0} → ℕ → List (Option X) → Option X
at_token t places = get_or places t None

-- The value that a place of a token table stands for: 0 is no value, and n is the n-th of these values, counted from 1.
abbrev pub value_at : {X : Type 0} → List X → ℕ → Option X
value_at values zero = None
value_at values (suc before) = slice_get values before
