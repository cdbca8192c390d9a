-- What is known of the uses of a statement by the targets and the defs that the program holds.
use Rattle.std.specs.Prelude.{◌≡◌, ℕ, List, [], ◌∷◌, length, Some, option_map, ⊤}
use Rattle.typing_rules.specs.declared.uses.Target.{Target}
use Rattle.typing_rules.specs.declared.uses.Target.TheVariants as target
use Rattle.typing_rules.specs.Scoping.{Meaning}
use Rattle.typing_rules.specs.Scripts.{Targets}
use Rattle.typing_rules.specs.Table.{signature}
use Rattle.type_instances.specs.Schemes.{scheme_of}
use Rattle.type_steps.specs.Environment.{Found, Known, TextUse}
use Rattle.type_steps.specs.Counts.{count_at, scheme_count}
use Rattle.expression_types.specs.Seen.{def_seen}
use Rattle.expression_types.specs.declared.environment.KnownDef.{KnownDef}

-- the name at the token t, with what it means: a value, a def or a builtin, as `targets` says
abbrev pub aimed : Targets → ℕ → Meaning
aimed targets t = (t, targets t)

-- each of these names means what the targets say at its token
abbrev pub AreAimed : Targets → List Meaning → Type 0
AreAimed targets [] = ⊤
AreAimed targets (m ∷ ms) = (targets m.0 ≡ m.1) × AreAimed targets ms

-- how many kinds the general type of a def leaves open for each use to choose
abbrev pub opens_of : KnownDef → ℕ
opens_of d = scheme_count (scheme_of d.general)

-- A use of this target has n kinds. These are none for a value, and for a def or a builtin as many as its type leaves
-- open to each use. ds are the defs so far.
abbrev pub HasCountIn : List KnownDef → Target → ℕ → Type 0
HasCountIn ds (target.Slot t) n = n ≡ 0
HasCountIn ds (target.Def t) n = option_map opens_of (def_seen t ds) ≡ Some n
HasCountIn ds (target.Builtin b) n = n ≡ (signature b).kinds

-- each use that was found has as many kinds as the type of its target leaves open; ds are the defs so far
abbrev pub HaveCountsIn : List KnownDef → List Found → Type 0
HaveCountsIn ds [] = ⊤
HaveCountsIn ds (f ∷ fs) = HasCountIn ds f.target (length f.kinds) × HaveCountsIn ds fs

-- each use in a def's text has as many kinds as the type of its target leaves open; ds are the defs so far
abbrev pub IsTextCountedIn : List KnownDef → List TextUse → Type 0
IsTextCountedIn ds [] = ⊤
IsTextCountedIn ds (u ∷ us) = HasCountIn ds u.target (length u.kinds) × IsTextCountedIn ds us

-- Each def of ds that is found by its token has as many open kinds in its text, as `before` has it, as in its general
-- type. Of defs by one token the newest counts.
pub record AreNumberedDefs (ds : List KnownDef) (before : List Known) : Type 0 where
  pub each : (t : ℕ) (d : KnownDef) → def_seen t ds ≡ Some d → count_at t before ≡ Some (opens_of d)
