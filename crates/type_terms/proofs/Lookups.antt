-- What a look-up in the list of variables tells.
use Rattle.std.proofs.Common.{◌≡◌, ◌∙◌, sym, ap, subst, refl, ℕ, ◌<◌, List, length, get_or, Some, None, arith}
use Rattle.std.proofs.lemmas.Option.{slice_get_read}
use Rattle.type_terms.specs.Ground.{Assignment}
use Rattle.type_terms.specs.Variables.{Variable}
use Rattle.type_terms.specs.Rank.{rank_of}
use Rattle.type_terms.specs.Table.{IsTriangular, MeetsBindings, bound_in, bound_at}
use Rattle.type_terms.specs.Term.{Term, term_of, meaning, height, InTerm}
use Rattle.type_terms.specs.declared.ty.Ty.{Ty}
use Rattle.type_terms.specs.declared.ty.Ty.TheVariants.{Var as TyVar}
use Rattle.type_terms.proofs.Ranks.{rank_of_bound}
use Rattle.type_terms.proofs.Views.{term_Var}

pub bound_is : (vs : List Variable) (k : ℕ) (v : Variable) → k < length vs → v ≡ get_or vs k v → bound_at vs k ≡ v.bound
bound_is vs k v h e = ap bound_in (slice_get_read vs (length vs) k v refl h e)

pub bound_read : (vs : List Variable) (k : ℕ) (v : Variable) (t : Term) → k < length vs → v ≡ get_or vs k v → Some t ≡ v.bound → bound_at vs k ≡ Some t
bound_read vs k v t h e b = bound_is vs k v h e ∙ sym b

pub bound_height : (vs : List Variable) → IsTriangular vs → (k : ℕ) (t : Term) (u : Ty) → u ≡ TyVar k → bound_at vs k ≡ Some t → height (rank_of vs) t < height (rank_of vs) (term_of u)
bound_height vs tri k t u is e =
    let r = rank_of_bound vs tri.ranked.0 tri.ranked.1 k t e in
    let h = ap (height (rank_of vs)) (term_Var u k is) in omega arith

pub bound_value : (vs : List Variable) (a : Assignment) → MeetsBindings vs a → (k : ℕ) (t : Term) (u : Ty) → u ≡ TyVar k → bound_at vs k ≡ Some t → meaning a t ≡ meaning a (term_of u)
bound_value vs a m k t u is e = sym (m k t e) ∙ sym (ap (meaning a) (term_Var u k is))

pub bound_none : (vs : List Variable) (k : ℕ) (v : Variable) → k < length vs → v ≡ get_or vs k v → None ≡ v.bound → bound_at vs k ≡ None
bound_none vs k v h e b = bound_is vs k v h e ∙ sym b

-- what the variable `u` is bound to, where its slot was read
pub read_bound : (vs : List Variable) (k : ℕ) (v : Variable) (t : Term) (u : Ty) → u ≡ TyVar k → InTerm (λ n. n < length vs) (λ _. Unit {0}) (term_of u) → v ≡ get_or vs k v → Some t ≡ v.bound → bound_at vs k ≡ Some t
read_bound vs k v t u is o e b = bound_read vs k v t (subst (λ s. InTerm (λ n. n < length vs) (λ _. Unit {0}) s) (term_Var u k is) o) e b

pub read_free : (vs : List Variable) (k : ℕ) (v : Variable) (u : Ty) → u ≡ TyVar k → InTerm (λ n. n < length vs) (λ _. Unit {0}) (term_of u) → v ≡ get_or vs k v → None ≡ v.bound → bound_at vs k ≡ None
read_free vs k v u is o e b = bound_none vs k v (subst (λ s. InTerm (λ n. n < length vs) (λ _. Unit {0}) s) (term_Var u k is) o) e b
