-- Over any relation that says how a text may be typed: the instances of its general type are its typings.
use Rattle.std.proofs.Common.{◌≡◌, List, length, map}
use Rattle.liq_base.specs.declared.memory.Kind.{Kind}
use Rattle.type_terms.specs.Agrees.{Agrees, Follows}
use Rattle.type_terms.specs.Ground.{Ground, Assignment}
use Rattle.type_terms.specs.Table.{Table, Solves}
use Rattle.type_terms.specs.Term.{Term, meaning, kind_meaning}
use Rattle.type_terms.specs.declared.ty.KindTerm.{KindTerm}
use Rattle.type_instances.specs.Schemes.{AreAmong}
use Rattle.general_types.specs.Holding.{SameTypes}

-- Between s and s1 inference of a text found these types and kinds: they give, at the solutions, exactly its typings, which depend on the names alone.
pub record IsInferred (s s1 : Table) (names : List Term) (Text : Assignment → List Ground → Ground → List Kind → Type 0) (params : List Term) (result : Term) (kinds : List KindTerm) : Type 0 where
  pub over : AreAmong (length s.types) (length s.kinds) names
  pub follows : Follows s s1
  pub by_names : (a b : Assignment) → Solves a s1 → Solves b s1 → SameTypes names a b → (ts : List Ground) (r : Ground) (ks : List Kind) → Text b ts r ks → Text a ts r ks
  pub sound : (a : Assignment) → Solves a s1 → Text a (map (meaning a) params) (meaning a result) (map (kind_meaning a) kinds)
  pub complete : (a : Assignment) → Solves a s → (ts : List Ground) (r : Ground) (ks : List Kind) → Text a ts r ks →
      (b : Assignment) × Solves b s1 × Agrees s a b × (map (meaning b) params ≡ ts) × (meaning b result ≡ r) × (map (kind_meaning b) kinds ≡ ks)
