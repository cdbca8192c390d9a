-- What look-ups by token find.
use Rattle.std.specs.Prelude.{◌≡◌, ℕ, List, [], ◌∷◌, cond, nat_eq, Option, Some, None}
use Rattle.std.specs.List.{position}
use Rattle.std.specs.Option.{option_or}
use Rattle.liq_base.specs.At.{at_token}
use Rattle.typing_rules.specs.declared.uses.Target.{Target}
use Rattle.typing_rules.specs.Scripts.{Targets}
use Rattle.expression_types.specs.declared.environment.Known.{Known}
use Rattle.expression_types.specs.declared.environment.KnownDef.{KnownDef}
use Rattle.expression_types.specs.declared.environment.Known.TheVariants as known

-- what the name at each token means, looked up in a table by tokens
abbrev pub targets_of : List (Option Target) → Targets
targets_of m t = at_token t m

-- the number of a type variable: that of the value which a statement has bound to the name at token t; none if what the
-- statement bound is a def, or has its name at another token
abbrev pub number_known : ℕ → Known → Option ℕ
number_known t (known.Value n) = cond (nat_eq n.at t) (Some n.var) None
number_known t (known.Function i) = None

-- the number of the type variable of the newest value whose name stands at token t
abbrev pub newest_number : ℕ → List Known → Option ℕ
newest_number t [] = None
newest_number t (k ∷ ks) = option_or (newest_number t ks) (number_known t k)

-- the first of these defs whose name stands at token t, if there is one
abbrev pub def_seen : ℕ → List KnownDef → Option KnownDef
def_seen t [] = None
def_seen t (d ∷ ds) = cond (nat_eq d.at t) (Some d) (def_seen t ds)

-- the table by tokens is right: at each token it has the index of the first of the defs ds whose name stands there,
-- and nothing without one
abbrev pub ArePlaces : List (Option ℕ) → List KnownDef → Type 0
ArePlaces places ds = (t : ℕ) → at_token t places ≡ position (λ d. nat_eq d.at t) ds
