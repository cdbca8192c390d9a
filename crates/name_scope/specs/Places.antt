-- Where a name stands among names.
use Rattle.std.specs.Prelude.{ℕ, suc, List, [], ◌∷◌, Option, Some, None, Bool, cond}
use Rattle.std.specs.Str.{bytes_eq}

-- one step of a search for the last match in a list: a place found further on, counted one higher; without one, place
-- 0 if the first item fits
abbrev pub or_here : Option ℕ → Bool → Option ℕ
or_here (Some place) fits = Some (suc place)
or_here None fits = cond fits (Some 0) None

-- the place of the last of these names, counted from 0, that is the same as `name`
abbrev pub last_place : List ℕ → List (List ℕ) → Option ℕ
last_place name [] = None
last_place name (x ∷ xs) = or_here (last_place name xs) (bytes_eq name x)
