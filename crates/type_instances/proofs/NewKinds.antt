-- New kind variables, one by one.
use Rattle.std.proofs.Common.{◌≡◌, ◌∙◌, sym, ap, subst, refl, ℕ, ◌<◌, ◌≤◌, ◌⊎◌, inl, inr, List, [], ◌∷◌, ◌++◌, length, slice_get, Some, arith, ◌+◌, get_or, take, take_all, length-append, replicate}
use Rattle.std.proofs.lemmas.List.{take_more}
use Rattle.std.proofs.lemmas.Option.{slice_get-get_or}
use Rattle.type_terms.specs.Agrees.{Agrees, Follows, HasNewKind}
use Rattle.liq_base.specs.declared.memory.Kind.{Kind}
use Rattle.liq_base.specs.declared.memory.Kind.TheVariants.{Stereo}
use Rattle.type_instances.specs.Instances.{Grows}
use Rattle.type_terms.specs.Ground.{Assignment}
use Rattle.type_terms.specs.Table.{Table, Solves}
use Rattle.type_instances.specs.declared.general.KindParameter.{KindParameter}
use Rattle.type_instances.specs.declared.general.KindParameter.TheVariants.{Open, Unread, Outer}
use Rattle.type_instances.specs.NewVariables.{HasOuterKind, HasOuterKinds, IsNewKind, AreNewKinds}
use Rattle.type_instances.specs.Schemes.{KindMayBe}
use Rattle.type_instances.proofs.NewTypes.{follows_itself, follows_both, agrees_itself, agrees_both}
use Rattle.type_instances.proofs.Reading.{none_is, get_front, get_last, one_last, both_last}

-- the outer variables say the same under both
pub kind_may_be_agrees : (s : Table) (a b : Assignment) → Agrees s a b → (x : KindParameter) → HasOuterKind s x → (g : Kind) → KindMayBe a x g → KindMayBe b x g
kind_may_be_agrees s a b e Open o g h = tt
kind_may_be_agrees s a b e Unread o g h = tt
kind_may_be_agrees s a b e (Outer k) o g h = h ∙ e.kinds k (o k refl)

pub open_is_new : (s s' : Table) (n : ℕ) → HasNewKind s s' n → IsNewKind s s' Open n
open_is_new s s' n h = record { inside = h.inside; follows = h.follows; sound = λ a m. tt; complete = λ a m g p. h.each a m g }

pub new_kinds_none : (s : Table) → AreNewKinds s s [] []
new_kinds_none s = record { many = refl; inside = λ i n e. none_is n e; follows = follows_itself s; sound = λ a m i n x e f. none_is n f; complete = λ a m f h. (a, m, agrees_itself s a, λ i n e. none_is n e) }

module _ (s s1 s2 : Table) (xs : List KindParameter) (ns : List ℕ) (x : KindParameter) (n : ℕ) (outer : HasOuterKind s x) (old : AreNewKinds s s1 xs ns) (new : IsNewKind s1 s2 x n) where
  longer : length s1.kinds ≤ length s2.kinds
  longer = new.follows.kinds

  inside_by : (i m : ℕ) → ((slice_get ns i ≡ Some m) ⊎ ((n ≡ m) × (i ≡ length ns))) → m < length s2.kinds
  inside_by i m (inl e) = let l : m < length s1.kinds = old.inside i m e in let t = longer in omega (arith, l, t)
  inside_by i m (inr e) = subst (λ k. k < length s2.kinds) e.0 new.inside

  sound_by : (a : Assignment) → Solves a s2 → (i m : ℕ) (y : KindParameter) → (((slice_get xs i ≡ Some y) × (slice_get ns i ≡ Some m)) ⊎ ((x ≡ y) × (n ≡ m))) → KindMayBe a y (a.kind_of m)
  sound_by a m i k y (inl e) = old.sound a (new.follows.solves a m) i k y e.0 e.1
  sound_by a m i k y (inr e) = subst (λ z. KindMayBe a z (a.kind_of k)) e.0 (subst (λ j. KindMayBe a x (a.kind_of j)) e.1 (new.sound a m))

  module _ (a b c : Assignment) (f : ℕ → Kind) (before : (i m : ℕ) → slice_get ns i ≡ Some m → b.kind_of m ≡ f i) (agrees : Agrees s1 b c) (here : c.kind_of n ≡ f (length xs)) where
    reached_by : (i m : ℕ) → ((slice_get ns i ≡ Some m) ⊎ ((n ≡ m) × (i ≡ length ns))) → c.kind_of m ≡ f i
    reached_by i m (inl e) = sym (agrees.kinds m (old.inside i m e)) ∙ before i m e
    reached_by i m (inr e) = ap c.kind_of (sym e.0) ∙ here ∙ ap f (sym old.many ∙ sym e.1)

  pub new_kinds_more : AreNewKinds s s2 (xs ++ (x ∷ [])) (ns ++ (n ∷ []))
  new_kinds_more = record {
    many = length-append ns (n ∷ []) ∙ ap (λ k. k + 1) old.many ∙ sym (length-append xs (x ∷ []));
    inside = λ i m e. inside_by i m (one_last ns n i m e);
    follows = follows_both s s1 s2 old.follows new.follows;
    sound = λ a m i k y e f. sound_by a m i k y (both_last xs ns x n old.many i y k e f);
    complete = λ a m f h.
        (let p = old.complete a m f (λ i y e. h i y (get_front xs (x ∷ []) i y e)) in
        let q = new.complete p.0 p.1 (f (length xs)) (kind_may_be_agrees s a p.0 p.2 x outer (f (length xs)) (h (length xs) x (get_last xs x))) in
        (q.0, q.1, agrees_both s s1 a p.0 q.0 old.follows p.2 q.2, λ i k e. reached_by a p.0 q.0 f p.3 q.2 q.3 i k (one_last ns n i k e)));
  }

pub grows_kind : (s s' : Table) (n : ℕ) → HasNewKind s s' n → Grows s s'
grows_kind s s' n h = record { follows = h.follows; each = λ a m. (let p = h.each a m Stereo in (p.0, p.1, p.2)) }

pub kind_outer_at : (s s1 : Table) (xs : List KindParameter) (i : ℕ) (x : KindParameter) → slice_get xs i ≡ Some x → HasOuterKinds s xs → Follows s s1 → HasOuterKind s1 x
kind_outer_at s s1 xs i x e h f k is = let l : k < length s.kinds = h i k (e ∙ ap Some is) in let m : length s.kinds ≤ length s1.kinds = f.kinds in omega (arith, l, m)

-- one more of a list
pub new_kinds_next : (s s1 s2 : Table) (ps : List KindParameter) (i : ℕ) (d : KindParameter) (ns ns' : List ℕ) (n : ℕ) → i < length ps → HasOuterKinds s ps → AreNewKinds s s1 (take i ps) ns → IsNewKind s1 s2 (get_or ps i d) n → ns' ≡ ns ++ (n ∷ []) → AreNewKinds s s2 (take (i + 1) ps) ns'
new_kinds_next s s1 s2 ps i d ns ns' n l o old new e =
    let x : KindParameter = get_or ps i d in
    subst (λ ys. AreNewKinds s s2 ys ns') (sym (take_more ps i d l)) (subst (λ ms. AreNewKinds s s2 (take i ps ++ (x ∷ [])) ms) (sym e)
    (new_kinds_more s s1 s2 (take i ps) ns x n (λ k is. o i k (slice_get-get_or ps i d l ∙ ap Some is)) old new))

pub new_kinds_all : (s s1 : Table) (ps : List KindParameter) (i : ℕ) (ns : List ℕ) → length ps ≤ i → AreNewKinds s s1 (take i ps) ns → AreNewKinds s s1 ps ns
new_kinds_all s s1 ps i ns l h = subst (λ ys. AreNewKinds s s1 ys ns) (take_all i ps l) h

-- the one variable of a builtin's row
pub row_kinds_one : (m : ℕ) (s s' : Table) (n : ℕ) → m ≡ 1 → HasNewKind s s' n → AreNewKinds s s' (replicate m Open) (replicate m n)
row_kinds_one m s s' n e h = subst (λ k. AreNewKinds s s' (replicate k Open) (replicate k n)) (sym e) (new_kinds_more s s s' [] [] Open n (λ k is. absurd (let f : Open ≡ Outer k = is in cc)) (new_kinds_none s) (open_is_new s s' n h))
