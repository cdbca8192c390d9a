-- New type variables, one by one.
use Rattle.std.proofs.Common.{◌≡◌, ◌∙◌, sym, ap, subst, refl, ℕ, ◌<◌, ◌≤◌, ◌⊎◌, inl, inr, List, [], ◌∷◌, ◌++◌, length, slice_get, Some, arith, IsTrue, true, false, ◌+◌, get_or, take, take_all, length-append, replicate}
use Rattle.std.proofs.lemmas.List.{take_more}
use Rattle.std.proofs.lemmas.Option.{slice_get-get_or}
use Rattle.type_terms.specs.Agrees.{Agrees, Follows, HasNewType}
use Rattle.type_terms.specs.Ground.{Ground, Assignment, base_type}
use Rattle.type_terms.specs.declared.ty.Base.TheVariants.{Int}
use Rattle.type_terms.specs.Table.{Table, Solves}
use Rattle.type_terms.proofs.Counting.{keeps_both, keeps_itself}
use Rattle.type_instances.specs.declared.general.TypeParameter.{TypeParameter}
use Rattle.type_instances.specs.declared.general.TypeParameter.TheVariants.{Any, Number, Outer}
use Rattle.type_instances.specs.Instances.{Grows}
use Rattle.type_instances.specs.NewVariables.{HasOuterType, HasOuterTypes, IsNewType, AreNewTypes}
use Rattle.type_instances.specs.Schemes.{MayBe}
use Rattle.type_instances.proofs.Reading.{none_is, get_front, get_last, one_last, both_last}

pub follows_itself : (s : Table) → Follows s s
follows_itself s = record { types = omega arith; kinds = omega arith; bound = keeps_itself s; solves = λ a m. m }

pub follows_both : (s s1 s2 : Table) → Follows s s1 → Follows s1 s2 → Follows s s2
follows_both s s1 s2 f g = let t : length s.types ≤ length s1.types = f.types in let u : length s1.types ≤ length s2.types = g.types in let v : length s.kinds ≤ length s1.kinds = f.kinds in let w : length s1.kinds ≤ length s2.kinds = g.kinds in record { types = omega arith; kinds = omega arith; bound = keeps_both s s1 s2 f.bound g.bound; solves = λ a m. f.solves a (g.solves a m) }

pub agrees_itself : (s : Table) (a : Assignment) → Agrees s a a
agrees_itself s a = record { types = λ k l. refl; kinds = λ k l. refl }

pub agrees_both : (s s1 : Table) (a b c : Assignment) → Follows s s1 → Agrees s a b → Agrees s1 b c → Agrees s a c
agrees_both s s1 a b c f p q =
    let t : length s.types ≤ length s1.types = f.types in
    let v : length s.kinds ≤ length s1.kinds = f.kinds in
    record { types = λ k l. p.types k l ∙ q.types k (let m : k < length s1.types = omega (arith, l, t) in m); kinds = λ k l. p.kinds k l ∙ q.kinds k (let m : k < length s1.kinds = omega (arith, l, v) in m) }

pub grows_itself : (s : Table) → Grows s s
grows_itself s = record { follows = follows_itself s; each = λ a m. (a, m, agrees_itself s a) }

pub grows_both : (s s1 s2 : Table) → Grows s s1 → Grows s1 s2 → Grows s s2
grows_both s s1 s2 f g = record {
  follows = follows_both s s1 s2 f.follows g.follows;
  each = λ a m. (let p = f.each a m in let q = g.each p.0 p.1 in (q.0, q.1, agrees_both s s1 a p.0 q.0 f.follows p.2 q.2));
}

-- the outer variables say the same under both
pub may_be_agrees : (s : Table) (a b : Assignment) → Agrees s a b → (x : TypeParameter) → HasOuterType s x → (g : Ground) → MayBe a x g → MayBe b x g
may_be_agrees s a b e Any o g h = tt
may_be_agrees s a b e Number o g h = h
may_be_agrees s a b e (Outer k) o g h = h ∙ e.types k (o k refl)

pub any_is_new : (s s' : Table) (n : ℕ) → HasNewType s s' (IsTrue false) n → IsNewType s s' Any n
any_is_new s s' n h = record { inside = h.inside; follows = h.follows; sound = λ a m. tt; complete = λ a m g p. h.each a m g (λ e. absurd (let f : false ≡ true = e in cc)) }

pub new_types_none : (s : Table) → AreNewTypes s s [] []
new_types_none s = record { many = refl; inside = λ i n e. none_is n e; follows = follows_itself s; sound = λ a m i n x e f. none_is n f; complete = λ a m f h. (a, m, agrees_itself s a, λ i n e. none_is n e) }

module _ (s s1 s2 : Table) (xs : List TypeParameter) (ns : List ℕ) (x : TypeParameter) (n : ℕ) (outer : HasOuterType s x) (old : AreNewTypes s s1 xs ns) (new : IsNewType s1 s2 x n) where
  longer : length s1.types ≤ length s2.types
  longer = new.follows.types

  inside_by : (i m : ℕ) → ((slice_get ns i ≡ Some m) ⊎ ((n ≡ m) × (i ≡ length ns))) → m < length s2.types
  inside_by i m (inl e) = let l : m < length s1.types = old.inside i m e in let t = longer in omega (arith, l, t)
  inside_by i m (inr e) = subst (λ k. k < length s2.types) e.0 new.inside

  sound_by : (a : Assignment) → Solves a s2 → (i m : ℕ) (y : TypeParameter) → (((slice_get xs i ≡ Some y) × (slice_get ns i ≡ Some m)) ⊎ ((x ≡ y) × (n ≡ m))) → MayBe a y (a.type_of m)
  sound_by a m i k y (inl e) = old.sound a (new.follows.solves a m) i k y e.0 e.1
  sound_by a m i k y (inr e) = subst (λ z. MayBe a z (a.type_of k)) e.0 (subst (λ j. MayBe a x (a.type_of j)) e.1 (new.sound a m))

  module _ (a b c : Assignment) (f : ℕ → Ground) (before : (i m : ℕ) → slice_get ns i ≡ Some m → b.type_of m ≡ f i) (agrees : Agrees s1 b c) (here : c.type_of n ≡ f (length xs)) where
    reached_by : (i m : ℕ) → ((slice_get ns i ≡ Some m) ⊎ ((n ≡ m) × (i ≡ length ns))) → c.type_of m ≡ f i
    reached_by i m (inl e) = sym (agrees.types m (old.inside i m e)) ∙ before i m e
    reached_by i m (inr e) = ap c.type_of (sym e.0) ∙ here ∙ ap f (sym old.many ∙ sym e.1)

  pub new_types_more : AreNewTypes s s2 (xs ++ (x ∷ [])) (ns ++ (n ∷ []))
  new_types_more = record {
    many = length-append ns (n ∷ []) ∙ ap (λ k. k + 1) old.many ∙ sym (length-append xs (x ∷ []));
    inside = λ i m e. inside_by i m (one_last ns n i m e);
    follows = follows_both s s1 s2 old.follows new.follows;
    sound = λ a m i k y e f. sound_by a m i k y (both_last xs ns x n old.many i y k e f);
    complete = λ a m f h.
        (let p = old.complete a m f (λ i y e. h i y (get_front xs (x ∷ []) i y e)) in
        let q = new.complete p.0 p.1 (f (length xs)) (may_be_agrees s a p.0 p.2 x outer (f (length xs)) (h (length xs) x (get_last xs x))) in
        (q.0, q.1, agrees_both s s1 a p.0 q.0 old.follows p.2 q.2, λ i k e. reached_by a p.0 q.0 f p.3 q.2 q.3 i k (one_last ns n i k e)));
  }

pub grows_type : (s s' : Table) (P : Type 0) (n : ℕ) → HasNewType s s' P n → Grows s s'
grows_type s s' P n h = record { follows = h.follows; each = λ a m. (let p = h.each a m (base_type Int) (λ _. tt) in (p.0, p.1, p.2)) }

pub grows_same : (s s' : Table) → s' ≡ s → Grows s s'
grows_same s s' e = subst (λ t. Grows s t) (sym e) (grows_itself s)

pub outer_at : (s s1 : Table) (xs : List TypeParameter) (i : ℕ) (x : TypeParameter) → slice_get xs i ≡ Some x → HasOuterTypes s xs → Follows s s1 → HasOuterType s1 x
outer_at s s1 xs i x e h f k is = let l : k < length s.types = h i k (e ∙ ap Some is) in let m : length s.types ≤ length s1.types = f.types in omega (arith, l, m)

-- one more of a list
pub new_types_next : (s s1 s2 : Table) (ps : List TypeParameter) (i : ℕ) (d : TypeParameter) (ns ns' : List ℕ) (n : ℕ) → i < length ps → HasOuterTypes s ps → AreNewTypes s s1 (take i ps) ns → IsNewType s1 s2 (get_or ps i d) n → ns' ≡ ns ++ (n ∷ []) → AreNewTypes s s2 (take (i + 1) ps) ns'
new_types_next s s1 s2 ps i d ns ns' n l o old new e =
    let x : TypeParameter = get_or ps i d in
    subst (λ ys. AreNewTypes s s2 ys ns') (sym (take_more ps i d l)) (subst (λ ms. AreNewTypes s s2 (take i ps ++ (x ∷ [])) ms) (sym e)
    (new_types_more s s1 s2 (take i ps) ns x n (λ k is. o i k (slice_get-get_or ps i d l ∙ ap Some is)) old new))

pub new_types_all : (s s1 : Table) (ps : List TypeParameter) (i : ℕ) (ns : List ℕ) → length ps ≤ i → AreNewTypes s s1 (take i ps) ns → AreNewTypes s s1 ps ns
new_types_all s s1 ps i ns l h = subst (λ ys. AreNewTypes s s1 ys ns) (take_all i ps l) h

-- the one variable of a builtin's row
pub row_types_one : (m : ℕ) (s s' : Table) (n : ℕ) → m ≡ 1 → HasNewType s s' (IsTrue false) n → AreNewTypes s s' (replicate m Any) (replicate m n)
row_types_one m s s' n e h = subst (λ k. AreNewTypes s s' (replicate k Any) (replicate k n)) (sym e) (new_types_more s s s' [] [] Any n (λ k is. absurd (let f : Any ≡ Outer k = is in cc)) (new_types_none s) (any_is_new s s' n h))
