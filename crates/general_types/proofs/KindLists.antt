-- What the kind variables of a def may stand for, by their places.
use Rattle.std.proofs.Common.{◌≡◌, ◌∙◌, sym, ap, ap₂, refl, ℕ, zero, suc, ◌+◌, ◌<◌, Bool, true, false, cond, List, [], ◌∷◌, ◌++◌, append_assoc, length, map, take, drop, get_or, slice_get, Some, arith}
use Rattle.std.proofs.lemmas.List.{map_push, take_more}
use Rattle.std.specs.Prelude.{⊤}
use Rattle.type_terms.specs.Term.{InTerms, source_term, terms_of}
use Rattle.type_terms.specs.declared.ty.KindTerm.{KindTerm}
use Rattle.type_terms.specs.declared.ty.KindTerm.TheVariants.{Fixed, Var}
use Rattle.type_instances.specs.declared.general.KindParameter.{KindParameter}
use Rattle.type_instances.specs.declared.general.KindParameter.TheVariants.{Open, Unread, Outer}
use Rattle.type_instances.specs.Schemes.{open_numbers}
use Rattle.type_instances.proofs.Reading.{none_is, some_is}
use Rattle.general_types.specs.Holding.{HeldVariables, is_held}
use Rattle.general_types.specs.Numbering.{kind_parameter, kind_parameters}

-- either kind
abbrev pub IsFree : KindParameter → Type 0
IsFree Open = ⊤
IsFree Unread = ⊤
IsFree (Outer k) = ⊥

-- a text may name it
abbrev pub IsNamed : KindParameter → Type 0
IsNamed Open = ⊤
IsNamed Unread = ⊥
IsNamed (Outer k) = ⊤

-- a text may name what stands at this place
abbrev pub Names : List KindParameter → ℕ → Type 0
Names ps i = (x : KindParameter) × (slice_get ps i ≡ Some x) × IsNamed x

pub kinds_at : (h : HeldVariables) (n : ℕ) (ks : List ℕ) (i k : ℕ) → slice_get ks i ≡ Some k → (free : KindParameter) × IsFree free × (slice_get (kind_parameters h n ks) i ≡ Some (kind_parameter h free k))
kinds_at h n [] i k e = none_is k e
kinds_at h zero (x ∷ ks) zero k e = (Unread, tt, ap (λ j. Some (kind_parameter h Unread j)) (some_is x k e))
kinds_at h zero (x ∷ ks) (suc i) k e = kinds_at h zero ks i k e
kinds_at h (suc n) (x ∷ ks) zero k e = (Open, tt, ap (λ j. Some (kind_parameter h Open j)) (some_is x k e))
kinds_at h (suc n) (x ∷ ks) (suc i) k e = kinds_at h n ks i k e

pub kinds_from : (h : HeldVariables) (n : ℕ) (ks : List ℕ) (i : ℕ) (x : KindParameter) → slice_get (kind_parameters h n ks) i ≡ Some x → (k : ℕ) × (free : KindParameter) × IsFree free × (slice_get ks i ≡ Some k) × (kind_parameter h free k ≡ x)
kinds_from h zero [] i x e = none_is x e
kinds_from h (suc n) [] i x e = none_is x e
kinds_from h zero (y ∷ ks) zero x e = (y, Unread, tt, refl, some_is (kind_parameter h Unread y) x e)
kinds_from h zero (y ∷ ks) (suc i) x e = kinds_from h zero ks i x e
kinds_from h (suc n) (y ∷ ks) zero x e = (y, Open, tt, refl, some_is (kind_parameter h Open y) x e)
kinds_from h (suc n) (y ∷ ks) (suc i) x e = kinds_from h n ks i x e

pub kinds_many : (h : HeldVariables) (n : ℕ) (ks : List ℕ) → length (kind_parameters h n ks) ≡ length ks
kinds_many h zero [] = refl
kinds_many h (suc n) [] = refl
kinds_many h zero (x ∷ ks) = ap suc (kinds_many h zero ks)
kinds_many h (suc n) (x ∷ ks) = ap suc (kinds_many h n ks)

-- ---- the first ones are those that a text may name

named_open : (h : HeldVariables) (k : ℕ) → IsNamed (kind_parameter h Open k)
named_open h k = by (is_held h.kinds k) where
  by : (b : Bool) → IsNamed (cond b (Outer k) Open)
  by true = tt
  by false = tt

pub named_at : (h : HeldVariables) (n : ℕ) (ks : List ℕ) (i : ℕ) → i < n → i < length ks → Names (kind_parameters h n ks) i
named_at h n [] i l m = absurd (omega (arith, m))
named_at h zero (x ∷ ks) i l m = absurd (omega (arith, l))
named_at h (suc n) (x ∷ ks) zero l m = (kind_parameter h Open x, refl, named_open h x)
named_at h (suc n) (x ∷ ks) (suc i) l m = named_at h n ks i (omega (arith, l)) (omega (arith, m))

pub named_all : (h : HeldVariables) (n : ℕ) (ks : List ℕ) (P : ℕ → Type 0) (cs : List KindTerm) → InTerms (λ k. ⊤) (λ i. i < n) (terms_of (map source_term cs)) → InTerms P (λ i. i < length ks) (terms_of (map source_term cs)) → InTerms (λ k. ⊤) (λ i. Names (kind_parameters h n ks) i) (terms_of (map source_term cs))
named_all h n ks P [] l m = tt
named_all h n ks P (Fixed k ∷ cs) l m = (tt, named_all h n ks P cs l.1 m.1)
named_all h n ks P (Var i ∷ cs) l m = (named_at h n ks i l.0 m.0, named_all h n ks P cs l.1 m.1)

-- ---- the others are not open

unread_none : (h : HeldVariables) (ks : List ℕ) (m : ℕ) → open_numbers m (map (kind_parameter h Unread) ks) ≡ []
unread_none h [] m = refl
unread_none h (k ∷ ks) m = by (is_held h.kinds k) ∙ unread_none h ks (suc m) where
  by : (b : Bool) → open_numbers m (cond b (Outer k) Unread ∷ map (kind_parameter h Unread) ks) ≡ open_numbers (suc m) (map (kind_parameter h Unread) ks)
  by true = refl
  by false = refl

one_more_same : (p : KindParameter) (ps qs : List KindParameter) (m : ℕ) → length (open_numbers (suc m) ps) ≡ length (open_numbers (suc m) qs) → length (open_numbers m (p ∷ ps)) ≡ length (open_numbers m (p ∷ qs))
one_more_same Open ps qs m e = ap suc e
one_more_same Unread ps qs m e = e
one_more_same (Outer k) ps qs m e = e

pub open_among_first : (h : HeldVariables) (n : ℕ) (ks : List ℕ) (m : ℕ) → length (open_numbers m (kind_parameters h n ks)) ≡ length (open_numbers m (take n (kind_parameters h n ks)))
open_among_first h zero ks m = ap (λ (ns : List ℕ). length ns) (unread_none h ks m)
open_among_first h (suc n) [] m = refl
open_among_first h (suc n) (x ∷ ks) m = one_more_same (kind_parameter h Open x) (kind_parameters h n ks) (take n (kind_parameters h n ks)) m (open_among_first h n ks (suc m))

-- ---- as the code makes them

pub push_next : (f : ℕ → KindParameter) (xs ys ys' : List KindParameter) (ns : List ℕ) (i d : ℕ) (p : KindParameter) → i < length ns → p ≡ f (get_or ns i d) → ys' ≡ ys ++ (p ∷ []) → ys ≡ xs ++ map f (take i ns) → ys' ≡ xs ++ map f (take (i + 1) ns)
push_next f xs ys ys' ns i d p l is pushed before =
    let more : map f (take (i + 1) ns) ≡ map f (take i ns) ++ (f (get_or ns i d) ∷ []) = ap (map f) (take_more ns i d l) ∙ map_push f (take i ns) (get_or ns i d) in
    pushed ∙ ap (λ (zs : List KindParameter). zs ++ (p ∷ [])) before ∙ append_assoc xs (map f (take i ns)) (p ∷ [])
    ∙ ap (λ (q : KindParameter). xs ++ (map f (take i ns) ++ (q ∷ []))) is ∙ ap (λ (zs : List KindParameter). xs ++ zs) (sym more)

pub pushed_next : {A : Type 0} {B : Type 0} (f : A → B) (ys ys' : List B) (xs : List A) (i : ℕ) (d : A) (p : B) → i < length xs → p ≡ f (get_or xs i d) → ys' ≡ ys ++ (p ∷ []) → ys ≡ map f (take i xs) → ys' ≡ map f (take (i + 1) xs)
pushed_next {A} {B} f ys ys' xs i d p l is pushed before =
    pushed ∙ ap₂ (λ (zs : List B) (q : B). zs ++ (q ∷ [])) before is
    ∙ sym (ap (map f) (take_more xs i d l) ∙ map_push f (take i xs) (get_or xs i d))

pub kinds_pushed : (h : HeldVariables) (n : ℕ) (ks ms ns : List ℕ) (xs ys zs : List KindParameter) → xs ≡ [] → ms ≡ take n ks → ns ≡ drop n ks → ys ≡ xs ++ map (kind_parameter h Open) ms → zs ≡ ys ++ map (kind_parameter h Unread) ns → zs ≡ kind_parameters h n ks
kinds_pushed h n ks ms ns xs ys zs none first others named rest =
    let front : ys ≡ map (kind_parameter h Open) (take n ks) = named ∙ ap (λ (ps : List KindParameter). ps ++ map (kind_parameter h Open) ms) none ∙ ap (map (kind_parameter h Open)) first in
    rest ∙ ap₂ (λ (ps : List KindParameter) (js : List ℕ). ps ++ map (kind_parameter h Unread) js) front others
