-- Each shape of a settled type.
use Rattle.std.proofs.Common.{◌≡◌, ◌∙◌, sym, ap, ap₂, subst, refl, ℕ, ◌+◌, ◌<◌, ◌≤◌, List, [], ◌∷◌, ◌++◌, map, take, take_all, length, get_or}
use Rattle.type_terms.specs.Ground.{Assignment, tuple, and_more, no_more}
use Rattle.type_terms.specs.Term.{Term, InTerm, InTerms, meaning, meanings, tuple_term, term_of, terms_of}
use Rattle.type_terms.specs.Table.{Table, Solves, MeetsBindings}
use Rattle.type_terms.specs.declared.ty.Ty.{Ty}
use Rattle.type_terms.proofs.Parts.{map_take_next}
use Rattle.type_terms.specs.Resolved.{IsResolved, IsFreeType, IsFreeKind}

pub resolved_by : (s : Table) (t l u : Term) → ((a : Assignment) → MeetsBindings s.types a → meaning a l ≡ meaning a t) → IsResolved s l u → IsResolved s t u
resolved_by s t l u e r = record { unbound = r.unbound; same = λ a m. r.same a m ∙ e a m.types }

pub resolved_itself : (s : Table) (u : Term) → InTerm (IsFreeType s) (IsFreeKind s) u → IsResolved s u u
resolved_itself s u f = record { unbound = f; same = λ a m. refl }

pub resolved_terms : (s : Table) (t u t' u' : Term) → t ≡ t' → u ≡ u' → IsResolved s t' u' → IsResolved s t u
resolved_terms s t u t' u' e f r = subst (λ x. IsResolved s x u) (sym e) (subst (λ y. IsResolved s t' y) (sym f) r)

-- the parts so far
pub record AreResolved (s : Table) (ts us : List Term) : Type 0 where
  pub unbound : InTerms (IsFreeType s) (IsFreeKind s) (terms_of us)
  pub same : (a : Assignment) → Solves a s → meanings a (terms_of us) ≡ meanings a (terms_of ts)

meaning_last : (a : Assignment) (ts us : List Term) (t u : Term) → meanings a (terms_of us) ≡ meanings a (terms_of ts) → meaning a u ≡ meaning a t → meanings a (terms_of (us ++ (u ∷ []))) ≡ meanings a (terms_of (ts ++ (t ∷ [])))
meaning_last a [] [] t u e f = ap (λ x. and_more x no_more) f
meaning_last a [] (y ∷ us) t u e f = cc
meaning_last a (x ∷ ts) [] t u e f = cc
meaning_last a (x ∷ ts) (y ∷ us) t u e f =
    let h : meaning a y ≡ meaning a x = cc in
    let r : meanings a (terms_of us) ≡ meanings a (terms_of ts) = cc in
    ap₂ and_more h (meaning_last a ts us t u r f)

free_last : (s : Table) (us : List Term) (u : Term) → InTerms (IsFreeType s) (IsFreeKind s) (terms_of us) → InTerm (IsFreeType s) (IsFreeKind s) u → InTerms (IsFreeType s) (IsFreeKind s) (terms_of (us ++ (u ∷ [])))
free_last s [] u h f = (f, tt)
free_last s (x ∷ us) u h f = (h.0, free_last s us u h.1 f)

map_last : (ps : List Ty) (p : Ty) → map term_of (ps ++ (p ∷ [])) ≡ map term_of ps ++ (term_of p ∷ [])
map_last [] p = refl
map_last (q ∷ ps) p = ap (λ xs. term_of q ∷ xs) (map_last ps p)

resolved_more : (s : Table) (ts us : List Term) (t u : Term) → AreResolved s ts us → IsResolved s t u → AreResolved s (ts ++ (t ∷ [])) (us ++ (u ∷ []))
resolved_more s ts us t u h r = record { unbound = free_last s us u h.unbound r.unbound; same = λ a m. meaning_last a ts us t u (h.same a m) (r.same a m) }

pub next_resolved : (s : Table) (ps qs qs' : List Ty) (i : ℕ) (p q : Ty) → i < length ps → p ≡ get_or ps i p → qs' ≡ qs ++ (q ∷ []) → AreResolved s (map term_of (take i ps)) (map term_of qs) → IsResolved s (term_of p) (term_of q) → AreResolved s (map term_of (take (i + 1) ps)) (map term_of qs')
next_resolved s ps qs qs' i p q l e pushed h r =
    let t : map term_of (take (i + 1) ps) ≡ map term_of (take i ps) ++ (term_of p ∷ []) = (map_take_next ps i p l ∙ ap (λ x. map term_of (take i ps) ++ (term_of x ∷ [])) (sym e)) in
    let u : map term_of qs' ≡ map term_of qs ++ (term_of q ∷ []) = ap (map term_of) pushed ∙ map_last qs q in
    subst (λ x. AreResolved s x (map term_of qs')) (sym t) (subst (λ y. AreResolved s (map term_of (take i ps) ++ (term_of p ∷ [])) y) (sym u) (resolved_more s _ _ _ _ h r))

pub all_resolved : (s : Table) (ps qs : List Ty) (i : ℕ) → length ps ≤ i → AreResolved s (map term_of (take i ps)) (map term_of qs) → IsResolved s (tuple_term (terms_of (map term_of ps))) (tuple_term (terms_of (map term_of qs)))
all_resolved s ps qs i l h =
    let r = subst (λ x. AreResolved s (map term_of x) (map term_of qs)) (take_all i ps l) h in
    record { unbound = r.unbound; same = λ a m. ap tuple (r.same a m) }
