-- How many open kinds the text of a def has, and how many kinds each use is to have.
use Rattle.std.specs.Prelude.{◌≡◌, ℕ, List, [], ◌∷◌, length, Option, Some, None, cond, nat_eq, ⊤}
use Rattle.std.specs.List.{flat_map}
use Rattle.typing_rules.specs.declared.uses.Target.{Target}
use Rattle.typing_rules.specs.declared.uses.Target.TheVariants as target
use Rattle.typing_rules.specs.Kinds.{numbered_on}
use Rattle.typing_rules.specs.Scripts.{def_token}
use Rattle.typing_rules.specs.Table.{signature}
use Rattle.type_instances.specs.Schemes.{Scheme, open_numbers}
use Rattle.type_steps.specs.Environment.{Found, Known, Pending, TextUse, function, of_def, of_term, value}

-- The number of a kind that each call of a def gives anew (an open kind), as a list. The list is empty for a kind that
-- is a term over the variables of unification.
abbrev pub open_in : Pending → List ℕ
open_in (of_term k) = []
open_in (of_def j) = j ∷ []

-- the numbers of the open kinds (those that each call of the def gives anew) in the text of a def, in the order of its
-- uses
abbrev pub opens_in : List TextUse → List ℕ
opens_in us = flat_map (λ u. flat_map open_in u.kinds) us

-- how many open kinds (those that each call gives anew) the text of a def has, if they are numbered from 0 on as they
-- first come; nothing if they are numbered otherwise
abbrev pub text_count : List TextUse → Option ℕ
text_count us = numbered_on 0 (opens_in us)

-- how many of the kinds over which a def's type is general are open: given anew by each call, and taken by a use in the
-- text of the def
abbrev pub scheme_count : Scheme → ℕ
scheme_count g = length (open_numbers 0 g.kinds)

-- how many kinds each call of a def gives anew, for the newest def in the list whose name stands at token t; nothing if
-- there is no such def, or if its text does not number them in order
abbrev pub count_at : ℕ → List Known → Option ℕ
count_at t [] = None
count_at t (value x u ∷ ks) = count_at t ks
count_at t (function d us ∷ ks) = cond (nat_eq (def_token d) t) (text_count us) (count_at t ks)

-- A use of a name with this target is instantiated at n kinds: a value at none, a def at as many as its text has open
-- ones, which each call gives anew, and a builtin at as many as its signature has. The list has the defs that are
-- known.
abbrev pub HasCount : List Known → Target → ℕ → Type 0
HasCount ks (target.Slot t) n = n ≡ 0
HasCount ks (target.Def t) n = count_at t ks ≡ Some n
HasCount ks (target.Builtin b) n = n ≡ (signature b).kinds

-- each use that was found outside of defs has as many kinds as the type of what it names has open (given anew by each
-- use), where the defs ks are known
abbrev pub AreCounted : List Known → List Found → Type 0
AreCounted ks [] = ⊤
AreCounted ks (f ∷ fs) = HasCount ks f.target (length f.kinds) × AreCounted ks fs

-- each use in the text of a def has as many kinds as the type of what it names has open (given anew by each use), where
-- the defs ks are known
abbrev pub IsTextCounted : List Known → List TextUse → Type 0
IsTextCounted ks [] = ⊤
IsTextCounted ks (u ∷ us) = HasCount ks u.target (length u.kinds) × IsTextCounted ks us
