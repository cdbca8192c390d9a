-- What it does to a substitution to make two types the same that are not taken apart.
use Rattle.std.specs.Prelude.{◌≡◌}
use Rattle.type_terms.specs.Differ.{AreSame, AreNeverSame}
use Rattle.type_terms.specs.Term.{Term}
use Rattle.type_terms.specs.Table.{Table}
use Rattle.type_terms.specs.declared.unifier.Direct.{Direct}
use Rattle.type_terms.specs.declared.unifier.Direct.TheVariants.{Same, Clash, Apart}

-- What was done to make two types equal without taking them apart is right; s' is the substitution s after it. `Same`:
-- s' makes them equal. `Clash`: s' is s, and they are equal at no solution. `Apart`: s' is s, and their parts are to be
-- compared.
abbrev pub IsDirect : Table → Table → Term → Term → Direct → Type 0
IsDirect s s' left right Same = AreSame s' left right
IsDirect s s' left right Clash = (s' ≡ s) × AreNeverSame s left right
IsDirect s s' left right Apart = s' ≡ s
