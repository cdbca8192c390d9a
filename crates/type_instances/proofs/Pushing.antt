-- Types pushed onto a list, as terms.
use Rattle.std.proofs.Common.{◌≡◌, ◌∙◌, sym, ap, ap₂, refl, ℕ, ◌+◌, ◌<◌, List, [], ◌∷◌, ◌++◌, map, take, get_or, length}
use Rattle.std.proofs.lemmas.List.{map_push, take_more}
use Rattle.type_terms.specs.Term.{Term, term_of}
use Rattle.type_terms.specs.declared.ty.Ty.{Ty}

map_last : (ps : List Ty) (p : Ty) → map term_of (ps ++ (p ∷ [])) ≡ map term_of ps ++ (term_of p ∷ [])
map_last [] p = refl
map_last (q ∷ ps) p = ap (λ (xs : List Term). term_of q ∷ xs) (map_last ps p)

pub next_pushed : (qs qs' : List Ty) (q : Ty) → qs' ≡ qs ++ (q ∷ []) → map term_of qs' ≡ map term_of qs ++ (term_of q ∷ [])
next_pushed qs qs' q e = ap (map term_of) e ∙ map_last qs q

-- what is pushed for each item of a list
pub named_next : {A : Type 0} (f : A → Term) (us us' : List Ty) (xs : List A) (i : ℕ) (d : A) (u : Ty) → i < length xs → term_of u ≡ f (get_or xs i d) → us' ≡ us ++ (u ∷ []) → map term_of us ≡ map f (take i xs) → map term_of us' ≡ map f (take (i + 1) xs)
named_next {A} f us us' xs i d u l is pushed before =
    next_pushed us us' u pushed ∙ ap₂ (λ (ts : List Term) (t : Term). ts ++ (t ∷ [])) before is
    ∙ sym (ap (map f) (take_more xs i d l) ∙ map_push f (take i xs) (get_or xs i d))
