-- Solutions that are as meaning at the free variables.
use Rattle.std.specs.Prelude.{◌≡◌, ℕ, None}
use Rattle.type_terms.specs.Ground.{Assignment, base_type}
use Rattle.type_terms.specs.Term.{kind_meaning}
use Rattle.type_terms.specs.declared.ty.Base.TheVariants.{Int}
use Rattle.liq_base.specs.declared.memory.Kind.TheVariants.{Mono, Stereo}
use Rattle.type_terms.specs.declared.ty.KindTerm.{KindTerm}
use Rattle.type_terms.specs.Table.{Table, Solves, bound_at, kind_at}

-- the assignment a is the solution of the substitution s that p begins: it gives each free variable what p gives it
pub record Extends (s : Table) (p a : Assignment) : Type 0 where
  pub solves : Solves a s
  pub types : (k : ℕ) → bound_at s.types k ≡ None → a.type_of k ≡ p.type_of k
  pub kinds : (k : ℕ) → kind_at s.kinds k ≡ None → a.kind_of k ≡ p.kind_of k

-- the solution whose free kinds are stereo and whose other free variables are int: a kind is mono there exactly where
-- it is at every solution
pub record HasDefaults (s : Table) : Type 0 where
  pub at : Assignment
  pub solves : Solves at s
  pub types : (k : ℕ) → bound_at s.types k ≡ None → at.type_of k ≡ base_type Int
  pub kinds : (k : ℕ) → kind_at s.kinds k ≡ None → at.kind_of k ≡ Stereo
  pub mono : (k : KindTerm) → kind_meaning at k ≡ Mono → (a : Assignment) → Solves a s → kind_meaning a k ≡ Mono
