-- A scheme with new variables for its own.
use Rattle.std.specs.Prelude.{◌≡◌, ℕ, List, length, map, Some, slice_get}
use Rattle.liq_base.specs.declared.memory.Kind.{Kind}
use Rattle.type_terms.specs.Agrees.{Agrees, Follows}
use Rattle.type_terms.specs.Ground.{Ground, Assignment}
use Rattle.type_terms.specs.Table.{Table, Solves, IsOver}
use Rattle.type_terms.specs.Term.{Term, source_term, meaning, kind_meaning, term_of}
use Rattle.type_terms.specs.declared.ty.KindTerm.{KindTerm}
use Rattle.type_instances.specs.declared.instances.Instance.{Instance}
use Rattle.type_instances.specs.Schemes.{AreAmong, Scheme, IsInstance}

-- A substitution s (type and kind variables with their bindings) grew into s' without a loss: s' has all variables and
-- bindings of s, and each solution of s is, on the old variables, that of a solution of s'.
pub record Grows (s s' : Table) : Type 0 where
  pub follows : Follows s s'
  pub each : (a : Assignment) → Solves a s → (b : Assignment) × Solves b s' × Agrees s a b

-- The types of the parameters of a call, read from the program's list, as terms of the specification.
abbrev pub instance_params : Instance → List Term
instance_params i = map term_of i.params.items

-- A general type g was instantiated with new variables, by which the substitution s became s'. The call has these
-- parameters, result and open kinds (kind variables that the text of a def names). In each solution of s' they are an
-- instance of g (sound), and each instance of g is that of a solution of s' (complete).
pub record Instantiates (s s' : Table) (g : Scheme) (params : List Term) (result : Term) (kinds : List KindTerm) : Type
    0 where
  pub params_over : AreAmong (length s'.types) (length s'.kinds) params
  pub result_over : IsOver s' result
  pub kinds_over : (i : ℕ) (k : KindTerm) → slice_get kinds i ≡ Some k → IsOver s' (source_term k)
  pub follows : Follows s s'
  pub sound : (a : Assignment) → Solves a s'
      → IsInstance g a (map (meaning a) params) (meaning a result) (map (kind_meaning a) kinds)
  pub complete : (a : Assignment) → Solves a s → (ts : List Ground) (r : Ground) (ks : List Kind)
      → IsInstance g a ts r ks →
      (b : Assignment) × Solves b s' × Agrees s a b × (map (meaning b) params ≡ ts) × (meaning b result ≡ r)
      × (map (kind_meaning b) kinds ≡ ks)
