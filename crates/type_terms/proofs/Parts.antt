-- What holds of a tuple's type holds of its parts.
use Rattle.std.proofs.Common.{◌≡◌, ◌∙◌, sym, ap, subst, refl, ℕ, zero, suc, ◌+◌, ◌<◌, ◌≤◌, map, List, [], ◌∷◌, ◌++◌, length, get_or, take, add-one, arith, Vec, Global}
use Rattle.type_terms.specs.Term.{Term, term_of, terms_of, tuple_term, height, heights, InTerm, InTerms}
use Rattle.type_terms.specs.declared.ty.Ty.{Ty}
use Rattle.type_terms.specs.declared.ty.Ty.TheViews as view
use Rattle.type_terms.proofs.Views.{term_Tuple}

pub heights_at : (w : ℕ → ℕ) (ps : List Ty) (i : ℕ) (d : Ty) → i < length ps → height w (term_of (get_or ps i d)) ≤ heights w (terms_of (map term_of ps))
heights_at w [] i d h = absurd (omega arith)
heights_at w (p ∷ ps) zero d h = omega arith
heights_at w (p ∷ ps) (suc i) d h = let k = heights_at w ps i d (omega arith) in omega arith

pub InTerms-at : (P Q : ℕ → Type 0) (ps : List Ty) (i : ℕ) (d : Ty) → i < length ps → InTerms P Q (terms_of (map term_of ps)) → InTerm P Q (term_of (get_or ps i d))
InTerms-at P Q [] i d h a = absurd (omega arith)
InTerms-at P Q (p ∷ ps) zero d h a = a.0
InTerms-at P Q (p ∷ ps) (suc i) d h a = InTerms-at P Q ps i d (omega arith) a.1

pub InTerms-push : (P Q : ℕ → Type 0) (ts : List Term) (t : Term) → InTerms P Q (terms_of ts) → InTerm P Q t → InTerms P Q (terms_of (ts ++ (t ∷ [])))
InTerms-push P Q [] t a h = (h, tt)
InTerms-push P Q (u ∷ ts) t a h = (a.0, InTerms-push P Q ts t a.1 h)

map_take_suc : (ps : List Ty) (i : ℕ) (d : Ty) → i < length ps → map term_of (take (suc i) ps) ≡ map term_of (take i ps) ++ (term_of (get_or ps i d) ∷ [])
map_take_suc [] i d h = absurd (omega arith)
map_take_suc (p ∷ ps) zero d h = refl
map_take_suc (p ∷ ps) (suc i) d h = ap (λ ts. term_of p ∷ ts) (map_take_suc ps i d (omega arith))

pub map_take_next : (ps : List Ty) (i : ℕ) (d : Ty) → i < length ps → map term_of (take (i + 1) ps) ≡ map term_of (take i ps) ++ (term_of (get_or ps i d) ∷ [])
map_take_next ps i d h = rw add-one (map_take_suc ps i d h)

module _ (u : Ty) (v : Vec Ty Global) (xs : List Ty) (is : u ≡ view.Tuple v) (items : xs ≡ v.items) where
  pub tuple_is : term_of u ≡ tuple_term (terms_of (map term_of xs))
  tuple_is = term_Tuple u v is ∙ ap (λ ys. tuple_term (terms_of (map term_of ys))) (sym items)

  module _ (i : ℕ) (p : Ty) (h : i < length xs) (e : p ≡ get_or xs i p) where
    pub part_height : (w : ℕ → ℕ) → height w (term_of p) < height w (term_of u)
    part_height w =
        let a = heights_at w xs i p h in
        let b = ap (height w) tuple_is in
        let d = ap (λ q. height w (term_of q)) e in omega arith

    pub part_over : (P Q : ℕ → Type 0) → InTerm P Q (term_of u) → InTerm P Q (term_of p)
    part_over P Q o =
        subst (λ q. InTerm P Q (term_of q)) (sym e) (InTerms-at P Q xs i p h (subst (λ t. InTerm P Q t) tuple_is o))
