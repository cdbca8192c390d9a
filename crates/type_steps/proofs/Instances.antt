-- A general type has an instance with any open kinds.
use Rattle.std.proofs.Common.{◌≡◌, ◌∙◌, sym, ap, ap₂, refl, ℕ, suc, zero, ◌+◌, List, [], ◌∷◌, length, map, Option, Some, None, arith}
use Rattle.std.specs.Prelude.{slice_get}
use Rattle.liq_base.specs.declared.memory.Kind.{Kind}
use Rattle.liq_base.specs.declared.memory.Kind.TheVariants.{Stereo}
use Rattle.type_terms.specs.Ground.{Ground, Assignment, base_type}
use Rattle.type_terms.specs.declared.ty.Base.TheVariants as base
use Rattle.type_terms.specs.Term.{meaning}
use Rattle.type_instances.specs.declared.general.KindParameter.{KindParameter}
use Rattle.type_instances.specs.declared.general.KindParameter.TheVariants.{Open, Unread, Outer as OuterKind}
use Rattle.type_instances.specs.declared.general.TypeParameter.{TypeParameter}
use Rattle.type_instances.specs.declared.general.TypeParameter.TheVariants.{Any, Number, Outer as OuterType}
use Rattle.type_instances.specs.Schemes.{IsInstance, KindMayBe, MayBe, Scheme, open_numbers}
use Rattle.type_steps.specs.Counts.{scheme_count}

abbrev type_for : Assignment → Option TypeParameter → Ground
type_for a None = base_type base.Int
type_for a (Some Any) = base_type base.Int
type_for a (Some Number) = base_type base.Int
type_for a (Some (OuterType k)) = a.type_of k

abbrev kind_for : Assignment → List KindParameter → List Kind → ℕ → Kind
kind_for a [] os i = Stereo
kind_for a (Open ∷ ks) [] i = Stereo
kind_for a (Open ∷ ks) (o ∷ os) zero = o
kind_for a (Open ∷ ks) (o ∷ os) (suc i) = kind_for a ks os i
kind_for a (Unread ∷ ks) os zero = Stereo
kind_for a (Unread ∷ ks) os (suc i) = kind_for a ks os i
kind_for a (OuterKind k ∷ ks) os zero = a.kind_of k
kind_for a (OuterKind k ∷ ks) os (suc i) = kind_for a ks os i

may_be : (a : Assignment) (x : TypeParameter) → MayBe a x (type_for a (Some x))
may_be a Any = tt
may_be a Number = tt
may_be a (OuterType k) = refl

type_may : (a : Assignment) (o : Option TypeParameter) (x : TypeParameter) → o ≡ Some x → MayBe a x (type_for a o)
type_may a None x e = cc
type_may a (Some y) x e = let same : y ≡ x = cc in rw same (may_be a x)

no_parameter : {A : Type 0} (x : KindParameter) → ◌≡◌ {A = Option KindParameter} None (Some x) → A
no_parameter x e = cc

kind_may : (a : Assignment) (ks : List KindParameter) (os : List Kind) (i : ℕ) (x : KindParameter) → length os ≡ length (open_numbers 0 ks) → slice_get ks i ≡ Some x → KindMayBe a x (kind_for a ks os i)
kind_may a ks os i Open n e = tt
kind_may a ks os i Unread n e = tt
kind_may a ks os i (OuterKind k) n e = outer 0 ks os i n e where
  same_kind : (j : ℕ) → Some (OuterKind j) ≡ Some (OuterKind k) → j ≡ k
  same_kind j h = cc

  outer : (m : ℕ) (qs : List KindParameter) (ps : List Kind) (l : ℕ) → length ps ≡ length (open_numbers m qs) → slice_get qs l ≡ Some (OuterKind k) → kind_for a qs ps l ≡ a.kind_of k
  outer m [] ps l h f = no_parameter (OuterKind k) f
  outer m (Open ∷ qs) [] l h f = absurd (omega (arith, h))
  outer m (Open ∷ qs) (p ∷ ps) zero h f = let g : Some Open ≡ Some (OuterKind k) = f in cc
  outer m (Open ∷ qs) (p ∷ ps) (suc l) h f = outer (suc m) qs ps l (omega (arith, h)) f
  outer m (Unread ∷ qs) ps zero h f = let g : Some Unread ≡ Some (OuterKind k) = f in cc
  outer m (Unread ∷ qs) ps (suc l) h f = outer (suc m) qs ps l h f
  outer m (OuterKind j ∷ qs) ps zero h f = ap a.kind_of (same_kind j f)
  outer m (OuterKind j ∷ qs) ps (suc l) h f = outer (suc m) qs ps l h f

opened_as : (a : Assignment) (f : ℕ → Kind) (m : ℕ) (ks : List KindParameter) (os : List Kind) → length os ≡ length (open_numbers m ks) → ((i : ℕ) → f (m + i) ≡ kind_for a ks os i) → map f (open_numbers m ks) ≡ os
opened_as a f m [] [] n h = refl
opened_as a f m [] (o ∷ os) n h = absurd (omega (arith, n))
opened_as a f m (Open ∷ ks) [] n h = absurd (omega (arith, n))
opened_as a f m (Open ∷ ks) (o ∷ os) n h =
    let z : m ≡ m + 0 = omega arith in
    ap₂ (λ (x : Kind) (xs : List Kind). x ∷ xs) (ap f z ∙ h 0) (opened_as a f (suc m) ks os (omega (arith, n)) (λ i. let e : suc m + i ≡ m + suc i = omega arith in ap f e ∙ h (suc i)))
opened_as a f m (Unread ∷ ks) os n h = opened_as a f (suc m) ks os n (λ i. let e : suc m + i ≡ m + suc i = omega arith in ap f e ∙ h (suc i))
opened_as a f m (OuterKind k ∷ ks) os n h = opened_as a f (suc m) ks os n (λ i. let e : suc m + i ≡ m + suc i = omega arith in ap f e ∙ h (suc i))

pub record SomeInstance (g : Scheme) (a : Assignment) (os : List Kind) : Type 0 where
  pub params : List Ground
  pub result : Ground
  pub is : IsInstance g a params result os

pub instance_with : (g : Scheme) (a : Assignment) (os : List Kind) → length os ≡ scheme_count g → SomeInstance g a os
instance_with g a os n =
    let at : Assignment = record { type_of = λ i. type_for a (slice_get g.types i); kind_of = kind_for a g.kinds os } in
    record {
      params = map (meaning at) g.params;
      result = meaning at g.result;
      is = record {
        at = at;
        types = λ i x e. type_may a (slice_get g.types i) x e;
        kinds = λ i x e. kind_may a g.kinds os i x n e;
        params = refl;
        result = refl;
        opened = opened_as a (kind_for a g.kinds os) 0 g.kinds os n (λ i. let e : 0 + i ≡ i = omega arith in ap (kind_for a g.kinds os) e);
      };
    }

-- an instance has as many open kinds as its general type
numbers_many : (f : ℕ → Kind) (ns : List ℕ) → length (map f ns) ≡ length ns
numbers_many f [] = refl
numbers_many f (n ∷ ns) = ap suc (numbers_many f ns)

pub instance_count : (g : Scheme) (a : Assignment) (ts : List Ground) (r : Ground) (os : List Kind) → IsInstance g a ts r os → length os ≡ scheme_count g
instance_count g a ts r os i = ap (λ (ks : List Kind). length ks) (sym i.opened) ∙ numbers_many i.at.kind_of (open_numbers 0 g.kinds)

-- so many kinds
pub stereos : (n : ℕ) → (os : List Kind) × (length os ≡ n)
stereos zero = ([], refl)
stereos (suc n) = let r = stereos n in (Stereo ∷ r.0, ap suc r.1)
