-- A scheme whose variables are new ones is an instance of it.
use Rattle.std.proofs.Common.{◌≡◌, ◌∙◌, sym, ap, ap₂, subst, refl, ℕ, zero, suc, ◌+◌, ◌<◌, ◌≤◌, List, [], ◌∷◌, length, map, slice_get, Some, arith}
use Rattle.liq_base.specs.declared.memory.Kind.{Kind}
use Rattle.type_terms.specs.Agrees.{Agrees}
use Rattle.type_terms.specs.Ground.{Ground, Assignment}
use Rattle.type_terms.specs.Naming.{behind, instance, instances, kind_instance, new_number, number_or}
use Rattle.type_terms.specs.Table.{Table, Solves}
use Rattle.type_terms.specs.Term.{Term, Terms, base_term, list_term, tuple_term, source_term, variable, no_terms, one_more, meaning, kind_meaning, terms_of, InKind, InTerm, InTerms}
use Rattle.type_terms.specs.declared.ty.KindTerm.{KindTerm}
use Rattle.type_terms.specs.declared.ty.KindTerm.TheVariants.{Fixed, Var}
use Rattle.type_terms.proofs.Renaming.{instance_meaning, instances_map}
use Rattle.type_terms.proofs.Terms.{InTerm-map, InTerms-map, meaning_same}
use Rattle.type_instances.specs.declared.general.KindParameter.{KindParameter}
use Rattle.type_instances.specs.declared.general.KindParameter.TheVariants.{Open, Unread, Outer}
use Rattle.type_instances.specs.Instances.{Instantiates}
use Rattle.type_instances.specs.NewVariables.{AreNewTypes, AreNewKinds, open_terms}
use Rattle.type_instances.specs.Schemes.{Scheme, IsInstance, IsSchemeOver, KindMayBe, MayBe, open_numbers}
use Rattle.type_instances.proofs.NewTypes.{follows_both, agrees_both}
use Rattle.type_instances.proofs.NewKinds.{kind_may_be_agrees}
use Rattle.type_instances.proofs.Reading.{none_is, get_some, get_below}

new_number_is : (ns : List ℕ) (i n : ℕ) → slice_get ns i ≡ Some n → new_number ns i ≡ n
new_number_is ns i n e = ap (number_or i) e

-- an assignment says of the new variables what `at` says of the scheme's own
module _ (a at : Assignment) (ns ms : List ℕ) (types : (i n : ℕ) → slice_get ns i ≡ Some n → a.type_of n ≡ at.type_of i) (kinds : (i n : ℕ) → slice_get ms i ≡ Some n → a.kind_of n ≡ at.kind_of i) where
  type_at_new : (k : ℕ) → k < length ns → a.type_of (new_number ns k) ≡ at.type_of k
  type_at_new k l = let p = get_some ns k l in ap a.type_of (new_number_is ns k p.0 p.1) ∙ types k p.0 p.1

  kind_at_new : (k : ℕ) → k < length ms → a.kind_of (new_number ms k) ≡ at.kind_of k
  kind_at_new k l = let p = get_some ms k l in ap a.kind_of (new_number_is ms k p.0 p.1) ∙ kinds k p.0 p.1

  pub means_at : (t : Term) → InTerm (λ k. k < length ns) (λ k. k < length ms) t → meaning a (instance ns ms t) ≡ meaning at t
  means_at t h = instance_meaning ns ms a t ∙ meaning_same (behind ns ms a) at t (InTerm-map type_at_new kind_at_new t h)

  pub mean_at : (ts : List Term) → InTerms (λ k. k < length ns) (λ k. k < length ms) (terms_of ts) → map (meaning a) (map (instance ns ms) ts) ≡ map (meaning at) ts
  mean_at [] h = refl
  mean_at (t ∷ ts) h = ap₂ (λ (x : Ground) (xs : List Ground). x ∷ xs) (means_at t h.0) (mean_at ts h.1)

-- the kinds of the open variables
pub open_terms_counted : (ps : List KindParameter) (ns : List ℕ) (m : ℕ) → length ns ≡ length ps → length (open_terms ps ns) ≡ length (open_numbers m ps)
open_terms_counted [] ns m e = refl
open_terms_counted (p ∷ ps) [] m e = absurd (omega (arith, e))
open_terms_counted (Open ∷ ps) (n ∷ ns) m e = ap suc (open_terms_counted ps ns (suc m) (omega (arith, e)))
open_terms_counted (Unread ∷ ps) (n ∷ ns) m e = open_terms_counted ps ns (suc m) (omega (arith, e))
open_terms_counted (Outer k ∷ ps) (n ∷ ns) m e = open_terms_counted ps ns (suc m) (omega (arith, e))

pub open_kinds_are : (f : ℕ → Kind) (a : Assignment) (ps : List KindParameter) (ns : List ℕ) (m : ℕ) → length ns ≡ length ps → ((i n : ℕ) → slice_get ns i ≡ Some n → a.kind_of n ≡ f (m + i)) → map (kind_meaning a) (open_terms ps ns) ≡ map f (open_numbers m ps)
open_kinds_are f a [] ns m e h = refl
open_kinds_are f a (p ∷ ps) [] m e h = absurd (omega (arith, e))
open_kinds_are f a (Open ∷ ps) (n ∷ ns) m e h =
    ap₂ (λ (x : Kind) (xs : List Kind). x ∷ xs) (h 0 n refl ∙ ap f (let z : m + 0 ≡ m = omega arith in z))
    (open_kinds_are f a ps ns (suc m) (let d : length ns ≡ length ps = omega (arith, e) in d) (λ i k g. h (suc i) k g ∙ ap f (let z : m + suc i ≡ suc m + i = omega arith in z)))
open_kinds_are f a (Unread ∷ ps) (n ∷ ns) m e h =
    open_kinds_are f a ps ns (suc m) (let d : length ns ≡ length ps = omega (arith, e) in d) (λ i k g. h (suc i) k g ∙ ap f (let z : m + suc i ≡ suc m + i = omega arith in z))
open_kinds_are f a (Outer j ∷ ps) (n ∷ ns) m e h =
    open_kinds_are f a ps ns (suc m) (let d : length ns ≡ length ps = omega (arith, e) in d) (λ i k g. h (suc i) k g ∙ ap f (let z : m + suc i ≡ suc m + i = omega arith in z))

module _ (P Q : ℕ → Type 0) (ns ms : List ℕ) (types : (i n : ℕ) → slice_get ns i ≡ Some n → P n) (kinds : (i n : ℕ) → slice_get ms i ≡ Some n → Q n) where
  kind_instance_in : (k : KindTerm) → InKind (λ j. j < length ms) k → InKind Q (kind_instance ms k)
  kind_instance_in (Fixed k) h = tt
  kind_instance_in (Var n) h = let p = get_some ms n h in subst Q (sym (new_number_is ms n p.0 p.1)) (kinds n p.0 p.1)

  mutual
    pub instance_in : (t : Term) → InTerm (λ k. k < length ns) (λ k. k < length ms) t → InTerm P Q (instance ns ms t)
    instance_in (base_term b) h = tt
    instance_in (list_term t) h = instance_in t h
    instance_in (tuple_term ts) h = instances_in ts h
    instance_in (source_term k) h = kind_instance_in k h
    instance_in (variable n) h = let p = get_some ns n h in subst P (sym (new_number_is ns n p.0 p.1)) (types n p.0 p.1)

    pub instances_in : (ts : Terms) → InTerms (λ k. k < length ns) (λ k. k < length ms) ts → InTerms P Q (instances ns ms ts)
    instances_in no_terms h = tt
    instances_in (one_more t ts) h = (instance_in t h.0, instances_in ts h.1)

-- an open kind variable is one of the new ones
pub open_terms_over : (Q : ℕ → Type 0) (ps : List KindParameter) (ns : List ℕ) → ((i n : ℕ) → slice_get ns i ≡ Some n → Q n) → (i : ℕ) (k : KindTerm) → slice_get (open_terms ps ns) i ≡ Some k → InKind Q k
open_terms_over Q [] ns h i k e = none_is k e
open_terms_over Q (p ∷ ps) [] h i k e = none_is k e
open_terms_over Q (Open ∷ ps) (n ∷ ns) h zero k e = subst (InKind Q) (let d : Var n ≡ k = cc in d) (h 0 n refl)
open_terms_over Q (Open ∷ ps) (n ∷ ns) h (suc i) k e = open_terms_over Q ps ns (λ j m f. h (suc j) m f) i k e
open_terms_over Q (Unread ∷ ps) (n ∷ ns) h i k e = open_terms_over Q ps ns (λ j m f. h (suc j) m f) i k e
open_terms_over Q (Outer j ∷ ps) (n ∷ ns) h i k e = open_terms_over Q ps ns (λ j m f. h (suc j) m f) i k e

module _ (s s1 s2 : Table) (g : Scheme) (ns ms : List ℕ) (over : IsSchemeOver s g) (types : AreNewTypes s s1 g.types ns) (kinds : AreNewKinds s1 s2 g.kinds ms) where
  wide_types : (k : ℕ) → k < length g.types → k < length ns
  wide_types k l = let e : length ns ≡ length g.types = types.many in omega (arith, e, l)

  wide_kinds : (k : ℕ) → k < length g.kinds → k < length ms
  wide_kinds k l = let e : length ms ≡ length g.kinds = kinds.many in omega (arith, e, l)

  type_there : (i n : ℕ) → slice_get ns i ≡ Some n → n < length s2.types
  type_there i n e = let l : n < length s1.types = types.inside i n e in let m : length s1.types ≤ length s2.types = kinds.follows.types in omega (arith, l, m)

  params_wide : InTerms (λ k. k < length ns) (λ k. k < length ms) (terms_of g.params)
  params_wide = InTerms-map wide_types wide_kinds (terms_of g.params) over.params

  result_wide : InTerm (λ k. k < length ns) (λ k. k < length ms) g.result
  result_wide = InTerm-map wide_types wide_kinds g.result over.result

  module _ (a at : Assignment) (same_types : (i n : ℕ) → slice_get ns i ≡ Some n → a.type_of n ≡ at.type_of i) (same_kinds : (i n : ℕ) → slice_get ms i ≡ Some n → a.kind_of n ≡ at.kind_of i) where
    params_are : map (meaning a) (map (instance ns ms) g.params) ≡ map (meaning at) g.params
    params_are = mean_at a at ns ms same_types same_kinds g.params params_wide

    result_is : meaning a (instance ns ms g.result) ≡ meaning at g.result
    result_is = means_at a at ns ms same_types same_kinds g.result result_wide

    opens_are : map (kind_meaning a) (open_terms g.kinds ms) ≡ map at.kind_of (open_numbers 0 g.kinds)
    opens_are = open_kinds_are at.kind_of a g.kinds ms 0 kinds.many (λ i n e. same_kinds i n e ∙ ap at.kind_of (let z : i ≡ 0 + i = omega arith in z))

  instance_sound : (a : Assignment) → Solves a s2 → IsInstance g a (map (meaning a) (map (instance ns ms) g.params)) (meaning a (instance ns ms g.result)) (map (kind_meaning a) (open_terms g.kinds ms))
  instance_sound a m =
      let at : Assignment = behind ns ms a in
      let ts : (i n : ℕ) → slice_get ns i ≡ Some n → a.type_of n ≡ at.type_of i = λ i n e. ap a.type_of (sym (new_number_is ns i n e)) in
      let ks : (i n : ℕ) → slice_get ms i ≡ Some n → a.kind_of n ≡ at.kind_of i = λ i n e. ap a.kind_of (sym (new_number_is ms i n e)) in
      record {
        at = at;
        types = λ i x e. (let p = get_some ns i (wide_types i (get_below g.types i x e)) in subst (λ n. MayBe a x (a.type_of n)) (sym (new_number_is ns i p.0 p.1)) (types.sound a (kinds.follows.solves a m) i p.0 x e p.1));
        kinds = λ i x e. (let p = get_some ms i (wide_kinds i (get_below g.kinds i x e)) in subst (λ n. KindMayBe a x (a.kind_of n)) (sym (new_number_is ms i p.0 p.1)) (kinds.sound a m i p.0 x e p.1));
        params = sym (params_are a at ts ks);
        result = sym (result_is a at ts ks);
        opened = sym (opens_are a at ts ks);
      }

  instance_complete : (a : Assignment) → Solves a s → (ts : List Ground) (r : Ground) (ks : List Kind) → IsInstance g a ts r ks → (b : Assignment) × Solves b s2 × Agrees s a b × (map (meaning b) (map (instance ns ms) g.params) ≡ ts) × (meaning b (instance ns ms g.result) ≡ r) × (map (kind_meaning b) (open_terms g.kinds ms) ≡ ks)
  instance_complete a m ts r ks x =
      let p = types.complete a m x.at.type_of x.types in
      let q = kinds.complete p.0 p.1 x.at.kind_of (λ i y e. kind_may_be_agrees s a p.0 p.2 y (λ k f. over.kinds i k (e ∙ ap Some f)) (x.at.kind_of i) (x.kinds i y e)) in
      let b : Assignment = q.0 in
      let us : (i n : ℕ) → slice_get ns i ≡ Some n → b.type_of n ≡ x.at.type_of i = λ i n e. sym (q.2.types n (types.inside i n e)) ∙ p.3 i n e in
      (b, q.1, agrees_both s s1 a p.0 b types.follows p.2 q.2, params_are b x.at us q.3 ∙ x.params, result_is b x.at us q.3 ∙ x.result, opens_are b x.at us q.3 ∙ x.opened)

  pub instantiates : (params : List Term) (result : Term) (opens : List KindTerm) → params ≡ map (instance ns ms) g.params → result ≡ instance ns ms g.result → opens ≡ open_terms g.kinds ms → Instantiates s s2 g params result opens
  instantiates params result opens e f h =
      subst (λ ps. Instantiates s s2 g ps result opens) (sym e) (subst (λ r. Instantiates s s2 g (map (instance ns ms) g.params) r opens) (sym f) (subst (λ ks. Instantiates s s2 g (map (instance ns ms) g.params) (instance ns ms g.result) ks) (sym h) (record {
        params_over = subst (InTerms (λ k. k < length s2.types) (λ k. k < length s2.kinds)) (sym (instances_map ns ms g.params)) (instances_in _ _ ns ms type_there kinds.inside (terms_of g.params) params_wide);
        result_over = instance_in _ _ ns ms type_there kinds.inside g.result result_wide;
        kinds_over = λ i k e'. open_terms_over _ g.kinds ms kinds.inside i k e';
        follows = follows_both s s1 s2 types.follows kinds.follows;
        sound = instance_sound;
        complete = instance_complete;
      })))
