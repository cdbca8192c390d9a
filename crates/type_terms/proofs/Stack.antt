-- Stacks of pairs, and the parts of two types.
use Rattle.std.proofs.Common.{◌≡◌, ◌∙◌, sym, ap, ap₂, subst, refl, ℕ, zero, suc, ◌+◌, ◌<◌, List, [], ◌∷◌, ◌++◌, map, take, length, get_or, add-one, append_assoc, arith}
use Rattle.std.specs.Borrow.{Bor}
use Rattle.type_terms.specs.Ground.{Ground, Grounds, Assignment, list, tuple, and_more}
use Rattle.type_terms.specs.Term.{Term, Terms, list_term, tuple_term, no_terms, one_more, term_of, terms_of, meaning, meanings}
use Rattle.type_terms.specs.Table.{Table, IsOver}
use Rattle.type_terms.specs.declared.ty.Ty.{Ty}
use Rattle.type_terms.specs.Agenda.{pairs_of}
use Rattle.type_terms.specs.Pairs.{pairs, AllEqual, AllOver, zipped, parts_of, part_count, IsSplit}

pub pairs-append : (xs ys : List (Bor Ty × Bor Ty)) → pairs (xs ++ ys) ≡ pairs xs ++ pairs ys
pairs-append [] ys = refl
pairs-append (x ∷ xs) ys = ap (λ ps. (term_of x.0.now, term_of x.1.now) ∷ ps) (pairs-append xs ys)

pub pairs_of-append : (xs ys : List (Ty × Ty)) → pairs_of (xs ++ ys) ≡ pairs_of xs ++ pairs_of ys
pairs_of-append [] ys = refl
pairs_of-append (x ∷ xs) ys = ap (λ ps. (term_of x.0, term_of x.1) ∷ ps) (pairs_of-append xs ys)

pub equal_left : (a : Assignment) (xs ys : List (Term × Term)) → AllEqual a (xs ++ ys) → AllEqual a xs
equal_left a [] ys h = tt
equal_left a (x ∷ xs) ys h = (h.0, equal_left a xs ys h.1)

pub equal_right : (a : Assignment) (xs ys : List (Term × Term)) → AllEqual a (xs ++ ys) → AllEqual a ys
equal_right a [] ys h = h
equal_right a (x ∷ xs) ys h = equal_right a xs ys h.1

pub equal_both : (a : Assignment) (xs ys : List (Term × Term)) → AllEqual a xs → AllEqual a ys → AllEqual a (xs ++ ys)
equal_both a [] ys h k = k
equal_both a (x ∷ xs) ys h k = (h.0, equal_both a xs ys h.1 k)

pub over_left : (s : Table) (xs ys : List (Term × Term)) → AllOver s (xs ++ ys) → AllOver s xs
over_left s [] ys h = tt
over_left s (x ∷ xs) ys h = (h.0, over_left s xs ys h.1)

pub over_right : (s : Table) (xs ys : List (Term × Term)) → AllOver s (xs ++ ys) → AllOver s ys
over_right s [] ys h = h
over_right s (x ∷ xs) ys h = over_right s xs ys h.1

pub over_both : (s : Table) (xs ys : List (Term × Term)) → AllOver s xs → AllOver s ys → AllOver s (xs ++ ys)
over_both s [] ys h k = k
over_both s (x ∷ xs) ys h k = (h.0, over_both s xs ys h.1 k)

list_same : (x y : Ground) → list x ≡ list y → x ≡ y
list_same x y e = cc

tuple_same : (x y : Grounds) → tuple x ≡ tuple y → x ≡ y
tuple_same x y e = cc

head_same : (x y : Ground) (xs ys : Grounds) → and_more x xs ≡ and_more y ys → x ≡ y
head_same x y xs ys e = cc

tail_same : (x y : Ground) (xs ys : Grounds) → and_more x xs ≡ and_more y ys → xs ≡ ys
tail_same x y xs ys e = cc

zipped_equal : (a : Assignment) (ts us : Terms) → meanings a ts ≡ meanings a us → AllEqual a (zipped ts us)
zipped_equal a no_terms us e = tt
zipped_equal a (one_more t ts) no_terms e = tt
zipped_equal a (one_more t ts) (one_more u us) e = (head_same _ _ _ _ e, zipped_equal a ts us (tail_same _ _ _ _ e))

zipped_over : (s : Table) (ts us : Terms) → IsOver s (tuple_term ts) → IsOver s (tuple_term us) → AllOver s (zipped ts us)
zipped_over s no_terms us o p = tt
zipped_over s (one_more t ts) no_terms o p = tt
zipped_over s (one_more t ts) (one_more u us) o p = ((o.0, p.0), zipped_over s ts us o.1 p.1)

pub split_equal : (a : Assignment) (t u : Term) → IsSplit t u → meaning a t ≡ meaning a u → AllEqual a (parts_of t u)
split_equal a (list_term t) (list_term u) i e = (list_same _ _ e, tt)
split_equal a (tuple_term ts) (tuple_term us) i e = zipped_equal a ts us (tuple_same _ _ e)
split_equal a _ _ i e = absurd i

pub split_over : (s : Table) (t u : Term) → IsSplit t u → IsOver s t → IsOver s u → AllOver s (parts_of t u)
split_over s (list_term t) (list_term u) i o p = ((o, p), tt)
split_over s (tuple_term ts) (tuple_term us) i o p = zipped_over s ts us o p
split_over s _ _ i o p = absurd i

zipped_next : (ss ts : List Ty) (i : ℕ) (d e : Ty) → i < length ss → i < length ts → zipped (terms_of (map term_of (take (suc i) ss))) (terms_of (map term_of (take (suc i) ts))) ≡ zipped (terms_of (map term_of (take i ss))) (terms_of (map term_of (take i ts))) ++ ((term_of (get_or ss i d), term_of (get_or ts i e)) ∷ [])
zipped_next [] ts i d e h k = absurd (omega arith)
zipped_next (s ∷ ss) [] i d e h k = absurd (omega arith)
zipped_next (s ∷ ss) (t ∷ ts) zero d e h k = refl
zipped_next (s ∷ ss) (t ∷ ts) (suc i) d e h k = ap (λ ps. (term_of s, term_of t) ∷ ps) (zipped_next ss ts i d e (omega arith) (omega arith))

-- one more pair of parts
pub pushed_next : (base work work' : List (Bor Ty × Bor Ty)) (ss ts : List Ty) (i : ℕ) (p q : Bor Ty) → i < length ss → length ss ≡ length ts → p.now ≡ get_or ss i p.now → q.now ≡ get_or ts i q.now → work' ≡ work ++ ((p, q) ∷ []) → pairs work ≡ pairs base ++ zipped (terms_of (map term_of (take i ss))) (terms_of (map term_of (take i ts))) → pairs work' ≡ pairs base ++ zipped (terms_of (map term_of (take (i + 1) ss))) (terms_of (map term_of (take (i + 1) ts)))
pushed_next base work work' ss ts i p q h l ep eq pushed inv =
    rw add-one
    (ap pairs pushed ∙ pairs-append work ((p, q) ∷ [])
    ∙ ap (λ ps. ps ++ ((term_of p.now, term_of q.now) ∷ [])) inv
    ∙ append_assoc (pairs base) (zipped (terms_of (map term_of (take i ss))) (terms_of (map term_of (take i ts)))) ((term_of p.now, term_of q.now) ∷ [])
    ∙ ap (λ ps. pairs base ++ ps)
    (ap₂ (λ x y. zipped (terms_of (map term_of (take i ss))) (terms_of (map term_of (take i ts))) ++ ((term_of x, term_of y) ∷ [])) ep eq
    ∙ sym (zipped_next ss ts i p.now q.now h (omega arith))))

pub count_of_terms : (ss : List Ty) → part_count (terms_of (map term_of ss)) ≡ length ss
count_of_terms [] = refl
count_of_terms (s ∷ ss) = ap suc (count_of_terms ss)

-- two lists are split, and so are two tuples of one length
pub split_lists : (t u a b : Term) (work work' : List (Term × Term)) → t ≡ list_term a → u ≡ list_term b → work' ≡ work ++ ((a, b) ∷ []) → IsSplit t u × (work' ≡ work ++ parts_of t u)
split_lists t u a b work work' et eu e = (
  subst (λ x. IsSplit x u) (sym et) (subst (λ y. IsSplit (list_term a) y) (sym eu) tt),
  e ∙ ap (λ ps. work ++ ps) (sym (ap (λ x. parts_of x u) et ∙ ap (λ y. parts_of (list_term a) y) eu)),
)

pub split_tuples : (t u : Term) (ss ts : List Ty) (work work' : List (Term × Term)) → t ≡ tuple_term (terms_of (map term_of ss)) → u ≡ tuple_term (terms_of (map term_of ts)) → length ss ≡ length ts → work' ≡ work ++ zipped (terms_of (map term_of ss)) (terms_of (map term_of ts)) → IsSplit t u × (work' ≡ work ++ parts_of t u)
split_tuples t u ss ts work work' et eu l e = (
  subst (λ x. IsSplit x u) (sym et) (subst (λ y. IsSplit (tuple_term (terms_of (map term_of ss))) y) (sym eu) (count_of_terms ss ∙ l ∙ sym (count_of_terms ts))),
  e ∙ ap (λ ps. work ++ ps) (sym (ap (λ x. parts_of x u) et ∙ ap (λ y. parts_of (tuple_term (terms_of (map term_of ss))) y) eu)),
)

-- the same alone
pub lists_split : (t u a b : Term) → t ≡ list_term a → u ≡ list_term b → IsSplit t u
lists_split t u a b et eu = subst (λ x. IsSplit x u) (sym et) (subst (λ y. IsSplit (list_term a) y) (sym eu) tt)

pub tuples_split : (t u : Term) (ss ts : List Ty) → t ≡ tuple_term (terms_of (map term_of ss)) → u ≡ tuple_term (terms_of (map term_of ts)) → length ss ≡ length ts → IsSplit t u
tuples_split t u ss ts et eu l = subst (λ x. IsSplit x u) (sym et) (subst (λ y. IsSplit (tuple_term (terms_of (map term_of ss))) y) (sym eu) (count_of_terms ss ∙ l ∙ sym (count_of_terms ts)))
