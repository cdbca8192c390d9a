-- The instances of the scheme are what the text's types are at the solutions that give the names the same types.
use Rattle.std.proofs.Common.{◌≡◌, ◌∙◌, sym, ap, ap₂, subst, refl, ℕ, zero, suc, ◌<◌, Bool, true, false, cond, List, [], ◌∷◌, length, map, slice_get, nat_eq, Some, option_map}
use Rattle.std.specs.List.{IsDistinct, AllByRecursion}
use Rattle.std.proofs.lemmas.Option.{slice_get-map}
use Rattle.liq_base.specs.declared.memory.Kind.{Kind}
use Rattle.type_terms.specs.Extends.{Extends}
use Rattle.type_terms.specs.Ground.{Ground, Assignment, IsNumber}
use Rattle.type_terms.specs.Naming.{behind, instance, new_number, number_or}
use Rattle.type_terms.specs.Resolved.{IsFreeType, IsFreeKind}
use Rattle.type_terms.specs.Table.{Table, Solves, number_at}
use Rattle.type_terms.specs.Term.{Term, InTerm, InTerms, meaning, terms_of}
use Rattle.type_terms.proofs.Renaming.{instance_meaning}
use Rattle.type_terms.proofs.Terms.{InTerm-map, meaning_same}
use Rattle.type_instances.specs.declared.general.TypeParameter.{TypeParameter}
use Rattle.type_instances.specs.declared.general.TypeParameter.TheVariants.{Any, Number, Outer as OuterType}
use Rattle.type_instances.specs.declared.general.KindParameter.{KindParameter}
use Rattle.type_instances.specs.declared.general.KindParameter.TheVariants.{Open, Unread, Outer as OuterKind}
use Rattle.type_instances.specs.Schemes.{MayBe, KindMayBe}
use Rattle.type_instances.proofs.Instancing.{means_at}
use Rattle.type_instances.proofs.Reading.{none_is, some_is}
use Rattle.general_types.specs.Holding.{HeldVariables, IsHeldBy, SameTypes, AgreeOn, is_held}
use Rattle.general_types.specs.Numbering.{type_parameter, kind_parameter, kind_parameters}
use Rattle.general_types.proofs.KindLists.{IsFree, kinds_at, kinds_from}
use Rattle.general_types.proofs.Members.{number_same, same_number}

-- ---- what stands at a key's place

abbrev pub value_of : {X : Type 0} → List ℕ → (ℕ → X) → X → ℕ → X
value_of [] f d k = d
value_of (x ∷ xs) f d k = cond (nat_eq x k) (f 0) (value_of xs (λ i. f (suc i)) d k)

differs_at : (x : ℕ) (xs : List ℕ) (i k : ℕ) → AllByRecursion (λ y. nat_eq x y ≡ false) xs → slice_get xs i ≡ Some k → nat_eq x k ≡ false
differs_at x [] i k h e = none_is k e
differs_at x (y ∷ xs) zero k h e = subst (λ z. nat_eq x z ≡ false) (some_is y k e) h.0
differs_at x (y ∷ xs) (suc i) k h e = differs_at x xs i k h.1 e

pub value_at : {X : Type 0} (xs : List ℕ) (f : ℕ → X) (d : X) (i k : ℕ) → IsDistinct nat_eq xs → slice_get xs i ≡ Some k → value_of xs f d k ≡ f i
unfolding IsDistinct
value_at [] f d i k h e = none_is k e
value_at (x ∷ xs) f d zero k h e = ap (λ b. cond b (f 0) (value_of xs (λ j. f (suc j)) d k)) (subst (λ z. nat_eq x z ≡ true) (some_is x k e) (number_same x))
value_at (x ∷ xs) f d (suc i) k h e = ap (λ b. cond b (f 0) (value_of xs (λ j. f (suc j)) d k)) (differs_at x xs i k h.0 e) ∙ value_at xs (λ j. f (suc j)) d i k h.1 e

pub value_either : {X : Type 0} (P : X → Type 0) (xs : List ℕ) (f : ℕ → X) (d : X) (k : ℕ) → P d → ((i : ℕ) → slice_get xs i ≡ Some k → P (f i)) → P (value_of xs f d k)
value_either P [] f d k p q = p
value_either {X} P (x ∷ xs) f d k p q = by (nat_eq x k) refl (value_either P xs (λ j. f (suc j)) d k p (λ i g. q (suc i) g))
  where
    by : (b : Bool) → nat_eq x k ≡ b → P (value_of xs (λ j. f (suc j)) d k) → P (cond b (f 0) (value_of xs (λ j. f (suc j)) d k))
    by true e r = q 0 (ap Some (same_number x k e))
    by false e r = r

-- ---- what a variable may be

-- a variable's value at a solution that agrees on what is held
solution_may_be : (s : Table) (h : HeldVariables) (a b : Assignment) → Solves b s → AgreeOn h b a → (k : ℕ) → MayBe a (type_parameter s h k) (b.type_of k)
solution_may_be s h a b m e k = by (is_held h.types k) refl (number_at s.types k) refl
  where
    by : (x : Bool) → is_held h.types k ≡ x → (y : Bool) → number_at s.types k ≡ y → MayBe a (cond x (OuterType k) (cond y Number Any)) (b.type_of k)
    by true f y g = e.types k f
    by false f true g = m.numbers k g
    by false f false g = tt

free_may_be : (a : Assignment) (free : KindParameter) (c : Kind) → IsFree free → KindMayBe a free c
free_may_be a Open c f = tt
free_may_be a Unread c f = tt
free_may_be a (OuterKind k) c f = absurd f

solution_kind_may_be : (h : HeldVariables) (a b : Assignment) → AgreeOn h b a → (free : KindParameter) → IsFree free → (k : ℕ) → KindMayBe a (kind_parameter h free k) (b.kind_of k)
solution_kind_may_be h a b e free is k = by (is_held h.kinds k) refl
  where
    by : (x : Bool) → is_held h.kinds k ≡ x → KindMayBe a (cond x (OuterKind k) free) (b.kind_of k)
    by true f = e.kinds k f
    by false f = free_may_be a free (b.kind_of k) is

-- what may be for a held variable is what it is
held_value : (s : Table) (h : HeldVariables) (a : Assignment) (k : ℕ) (g : Ground) → is_held h.types k ≡ true → MayBe a (type_parameter s h k) g → g ≡ a.type_of k
held_value s h a k g e m = subst (λ b. MayBe a (cond b (OuterType k) (cond (number_at s.types k) Number Any)) g) e m

held_kind : (h : HeldVariables) (a : Assignment) (free : KindParameter) (k : ℕ) (c : Kind) → is_held h.kinds k ≡ true → KindMayBe a (kind_parameter h free k) c → c ≡ a.kind_of k
held_kind h a free k c e m = subst (λ b. KindMayBe a (cond b (OuterKind k) free) c) e m

-- what may be for a number variable is a number
number_value : (s : Table) (h : HeldVariables) (a : Assignment) → Solves a s → (k : ℕ) (g : Ground) → number_at s.types k ≡ true → MayBe a (type_parameter s h k) g → IsNumber g
number_value s h a m k g e p = by (is_held h.types k) (subst (λ b. MayBe a (cond (is_held h.types k) (OuterType k) (cond b Number Any)) g) e p)
  where
    by : (x : Bool) → MayBe a (cond x (OuterType k) Number) g → IsNumber g
    by true q = subst IsNumber (sym q) (m.numbers k e)
    by false q = q

parameter_at : {X : Type 0} (f : ℕ → X) (xs : List ℕ) (i k : ℕ) → slice_get xs i ≡ Some k → slice_get (map f xs) i ≡ Some (f k)
parameter_at f xs i k e = slice_get-map f xs i ∙ ap (option_map f) e

pub parameter_from : {X : Type 0} (f : ℕ → X) (xs : List ℕ) (i : ℕ) (x : X) → slice_get (map f xs) i ≡ Some x → (k : ℕ) × (slice_get xs i ≡ Some k) × (f k ≡ x)
parameter_from f [] i x e = none_is x e
parameter_from f (y ∷ xs) zero x e = (y, refl, some_is (f y) x e)
parameter_from f (y ∷ xs) (suc i) x e = parameter_from f xs i x e

-- ---- the two directions

abbrev pub TypesMayBe : Table → HeldVariables → List ℕ → Assignment → Assignment → Type 0
TypesMayBe s h ts a at = (i : ℕ) (x : TypeParameter) → slice_get (map (type_parameter s h) ts) i ≡ Some x → MayBe a x (at.type_of i)

abbrev pub KindsMayBe : HeldVariables → List ℕ → ℕ → Assignment → Assignment → Type 0
KindsMayBe h ks n a at = (i : ℕ) (x : KindParameter) → slice_get (kind_parameters h n ks) i ≡ Some x → KindMayBe a x (at.kind_of i)

-- the numbers of the substitution's variables, and what each may stand for
module _ (s : Table) (names : List Term) (h : HeldVariables) (holds : IsHeldBy s names h) (ts ks : List ℕ) (read : ℕ) where
  -- a solution with the same types of names, seen from the scheme's own variables
  pub types_seen : (a b : Assignment) → Solves a s → Solves b s → SameTypes names a b → TypesMayBe s h ts a (behind ts ks b)
  types_seen a b m n e i x f =
      let p = parameter_from (type_parameter s h) ts i x f in
      let agree : AgreeOn h b a = holds.fixed b a n m (sym e) in
      subst (λ y. MayBe a y (b.type_of (new_number ts i))) p.2 (subst (λ j. MayBe a (type_parameter s h p.0) (b.type_of j)) (sym (ap (number_or i) p.1)) (solution_may_be s h a b n agree p.0))

  pub kinds_seen : (a b : Assignment) → Solves a s → Solves b s → SameTypes names a b → KindsMayBe h ks read a (behind ts ks b)
  kinds_seen a b m n e i x f =
      let p = kinds_from h read ks i x f in
      let agree : AgreeOn h b a = holds.fixed b a n m (sym e) in
      subst (λ y. KindMayBe a y (b.kind_of (new_number ks i))) p.4 (subst (λ j. KindMayBe a (kind_parameter h p.1 p.0) (b.kind_of j)) (sym (ap (number_or i) p.3)) (solution_kind_may_be h a b agree p.1 p.2 p.0))

  module _ (distinct : IsDistinct nat_eq ts) (distinct_kinds : IsDistinct nat_eq ks) (a at : Assignment) (solves : Solves a s) (types : TypesMayBe s h ts a at) (kinds : KindsMayBe h ks read a at) where
    -- as `at` at the numbered variables, and as a at the others
    abbrev pub spread : Assignment
    spread = record { type_of = λ k. value_of ts at.type_of (a.type_of k) k; kind_of = λ k. value_of ks at.kind_of (a.kind_of k) k }

    pub spread_numbers : (k : ℕ) → number_at s.types k ≡ true → IsNumber (spread.type_of k)
    spread_numbers k e = value_either IsNumber ts at.type_of (a.type_of k) k (solves.numbers k e) (λ i g. number_value s h a solves k (at.type_of i) e (types i (type_parameter s h k) (parameter_at (type_parameter s h) ts i k g)))

    spread_type : (k : ℕ) → is_held h.types k ≡ true → spread.type_of k ≡ a.type_of k
    spread_type k e = value_either (λ g. g ≡ a.type_of k) ts at.type_of (a.type_of k) k refl (λ i g. held_value s h a k (at.type_of i) e (types i (type_parameter s h k) (parameter_at (type_parameter s h) ts i k g)))

    spread_kind : (k : ℕ) → is_held h.kinds k ≡ true → spread.kind_of k ≡ a.kind_of k
    spread_kind k e = value_either (λ c. c ≡ a.kind_of k) ks at.kind_of (a.kind_of k) k refl (λ i g. (let p = kinds_at h read ks i k g in held_kind h a p.0 k (at.kind_of i) e (kinds i (kind_parameter h p.0 k) p.2)))

    module _ (b : Assignment) (extends : Extends s spread b) where
      -- the names have the same types there
      pub spread_names : SameTypes names a b
      spread_names = sym (holds.enough b a extends.solves solves (record {
        types = λ k e. extends.types k (holds.free_types k e).1 ∙ spread_type k e;
        kinds = λ k e. extends.kinds k (holds.free_kinds k e).1 ∙ spread_kind k e;
      }))

      -- and a settled type means what the numbered one means
      pub spread_means : (t u : Term) → instance ts ks u ≡ t → InTerm (λ n. n < length ts) (λ n. n < length ks) u → InTerm (IsFreeType s) (IsFreeKind s) t → meaning b t ≡ meaning at u
      spread_means t u e inside free =
          meaning_same b spread t (InTerm-map (λ k f. extends.types k f.1) (λ k f. extends.kinds k f.1) t free)
          ∙ ap (meaning spread) (sym e)
          ∙ means_at spread at ts ks (λ i n g. value_at ts at.type_of (a.type_of n) i n distinct g) (λ i n g. value_at ks at.kind_of (a.kind_of n) i n distinct_kinds g) u inside

      pub spread_mean : (xs us : List Term) → map (instance ts ks) us ≡ xs → InTerms (λ n. n < length ts) (λ n. n < length ks) (terms_of us) → InTerms (IsFreeType s) (IsFreeKind s) (terms_of xs) → map (meaning b) xs ≡ map (meaning at) us
      spread_mean [] [] e inside free = refl
      spread_mean [] (u ∷ us) e inside free = absurd (let g : (instance ts ks u ∷ map (instance ts ks) us) ≡ [] = e in cc)
      spread_mean (x ∷ xs) [] e inside free = absurd (let g : [] ≡ x ∷ xs = e in cc)
      spread_mean (x ∷ xs) (u ∷ us) e inside free =
          let f : instance ts ks u ≡ x = cc in
          let g : map (instance ts ks) us ≡ xs = cc in
          ap₂ (λ (y : Ground) (ys : List Ground). y ∷ ys) (spread_means x u f inside.0 free.0) (spread_mean xs us g inside.1 free.1)

-- a numbered type, seen from the scheme's own variables
pub seen_mean : (b : Assignment) (ts ks : List ℕ) (xs us : List Term) → map (instance ts ks) us ≡ xs → map (meaning (behind ts ks b)) us ≡ map (meaning b) xs
seen_mean b ts ks xs us e = sym (ap (map (meaning b)) (sym e) ∙ each us)
  where
    each : (us : List Term) → map (meaning b) (map (instance ts ks) us) ≡ map (meaning (behind ts ks b)) us
    each [] = refl
    each (u ∷ us) = ap₂ (λ (y : Ground) (ys : List Ground). y ∷ ys) (instance_meaning ts ks b u) (each us)

pub seen_means : (b : Assignment) (ts ks : List ℕ) (t u : Term) → instance ts ks u ≡ t → meaning (behind ts ks b) u ≡ meaning b t
seen_means b ts ks t u e = sym (instance_meaning ts ks b u) ∙ ap (meaning b) e
