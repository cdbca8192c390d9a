-- Which use stands for a name token.
use Rattle.std.specs.Prelude.{ℕ, List, Option, find, nat_eq}
use Rattle.typing_rules.specs.declared.uses.Use.{Use}

-- the first use, in this list, of the name at this token: what the name means there, and its kinds; None if there is
-- none
abbrev pub use_at : ℕ → List Use → Option Use
use_at at uses = find (λ u. nat_eq u.at at) uses
