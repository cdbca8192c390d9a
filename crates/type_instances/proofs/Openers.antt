-- The kinds of the open variables, one by one.
use Rattle.std.proofs.Common.{◌≡◌, ◌∙◌, sym, ap, ℕ, zero, suc, ◌+◌, ◌<◌, List, [], ◌∷◌, ◌++◌, append_assoc, length, drop, get_or, add-one, arith}
use Rattle.type_terms.specs.declared.ty.KindTerm.{KindTerm}
use Rattle.type_terms.specs.declared.ty.KindTerm.TheVariants.{Var}
use Rattle.type_instances.specs.declared.general.KindParameter.{KindParameter}
use Rattle.type_instances.specs.declared.general.KindParameter.TheVariants.{Open}
use Rattle.type_instances.specs.NewVariables.{open_terms}

at_open : (ps : List KindParameter) (ns : List ℕ) (i : ℕ) (d : KindParameter) (e : ℕ) → i < length ps → length ns ≡ length ps → get_or ps i d ≡ Open → open_terms (drop i ps) (drop i ns) ≡ Var (get_or ns i e) ∷ open_terms (drop (suc i) ps) (drop (suc i) ns)
at_open [] ns i d e l m is = absurd (omega (arith, l))
at_open (p ∷ ps) [] i d e l m is = absurd (omega (arith, m))
at_open (p ∷ ps) (n ∷ ns) zero d e l m is = ap (λ (q : KindParameter). open_terms (q ∷ ps) (n ∷ ns)) is
at_open (p ∷ ps) (n ∷ ns) (suc i) d e l m is = at_open ps ns i d e (omega (arith, l)) (let f : length ns ≡ length ps = omega (arith, m) in f) is

-- a parameter that gives no kind
abbrev pub GivesNone : KindParameter → Type 0
GivesNone q = (ps : List KindParameter) (n : ℕ) (ns : List ℕ) → open_terms (q ∷ ps) (n ∷ ns) ≡ open_terms ps ns

at_other : (ps : List KindParameter) (ns : List ℕ) (i : ℕ) (d q : KindParameter) → GivesNone q → i < length ps → length ns ≡ length ps → get_or ps i d ≡ q → open_terms (drop i ps) (drop i ns) ≡ open_terms (drop (suc i) ps) (drop (suc i) ns)
at_other [] ns i d q none l m is = absurd (omega (arith, l))
at_other (p ∷ ps) [] i d q none l m is = absurd (omega (arith, m))
at_other (p ∷ ps) (n ∷ ns) zero d q none l m is = ap (λ (r : KindParameter). open_terms (r ∷ ps) (n ∷ ns)) is ∙ none ps n ns
at_other (p ∷ ps) (n ∷ ns) (suc i) d q none l m is = at_other ps ns i d q none (omega (arith, l)) (let f : length ns ≡ length ps = omega (arith, m) in f) is

pub open_next : (ps : List KindParameter) (ns : List ℕ) (i : ℕ) (d : KindParameter) (e : ℕ) (ks ks' all : List KindTerm) → i < length ps → length ns ≡ length ps → get_or ps i d ≡ Open → ks' ≡ ks ++ (Var (get_or ns i e) ∷ []) → ks ++ open_terms (drop i ps) (drop i ns) ≡ all → ks' ++ open_terms (drop (i + 1) ps) (drop (i + 1) ns) ≡ all
open_next ps ns i d e ks ks' all l m is pushed before =
    rw add-one (ap (λ (xs : List KindTerm). xs ++ open_terms (drop (suc i) ps) (drop (suc i) ns)) pushed
    ∙ append_assoc ks (Var (get_or ns i e) ∷ []) (open_terms (drop (suc i) ps) (drop (suc i) ns))
    ∙ ap (λ (xs : List KindTerm). ks ++ xs) (sym (at_open ps ns i d e l m is)) ∙ before)

pub other_next : (ps : List KindParameter) (ns : List ℕ) (i : ℕ) (d q : KindParameter) (ks all : List KindTerm) → GivesNone q → i < length ps → length ns ≡ length ps → get_or ps i d ≡ q → ks ++ open_terms (drop i ps) (drop i ns) ≡ all → ks ++ open_terms (drop (i + 1) ps) (drop (i + 1) ns) ≡ all
other_next ps ns i d q ks all none l m is before =
    rw add-one (ap (λ (xs : List KindTerm). ks ++ xs) (sym (at_other ps ns i d q none l m is)) ∙ before)
