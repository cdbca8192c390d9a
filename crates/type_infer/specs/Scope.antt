-- What is known of the defs in scope.
use Rattle.std.specs.Prelude.{ℕ, ◌<◌, List, [], ◌∷◌, length, ⊤}
use Rattle.type_terms.specs.Table.{Table}
use Rattle.typing_rules.specs.Scripts.{Targets}
use Rattle.type_steps.specs.Environment.{AreKnownOver}
use Rattle.expression_types.specs.Seen.{DefIs, def_seen, newest_first}
use Rattle.expression_types.specs.declared.environment.Known.{Known as AKnown}
use Rattle.expression_types.specs.declared.environment.Known.TheVariants as known
use Rattle.expression_types.specs.declared.environment.KnownDef.{KnownDef}
use Rattle.type_steps.specs.Defs.{outside}

-- each def among these bound names is named by an index below n, the number of defs
abbrev pub AreAmong : ℕ → List AKnown → Type 0
AreAmong n [] = ⊤
AreAmong n (known.Value v ∷ ks) = AreAmong n ks
AreAmong n (known.Function i ∷ ks) = (i < n) × AreAmong n ks

-- The bound names bs and the defs ds fit together under the substitution s: each def that is named is there, and types
-- have only variables of s. A def is called at just the instances of its general type; `targets` says what names mean.
pub record AreSeenDefs (s : Table) (targets : Targets) (bs : List AKnown) (ds : List KnownDef) : Type 0 where
  pub here : AreAmong (length ds) bs
  pub over : AreKnownOver s (newest_first ds bs)
  pub calls : (t : ℕ) → DefIs s (outside targets (newest_first ds bs)) t (def_seen t ds)
