-- Free variables counted, and what stays bound.
use Rattle.std.proofs.Common.{◌≡◌, ◌≢◌, ◌∙◌, sym, ap, refl, ℕ, zero, suc, ◌+◌, ◌<◌, ◌≤◌, List, [], ◌∷◌, ◌++◌, length, take, drop, take_all, Option, Some, None, arith}
use Rattle.type_terms.specs.Agrees.{Follows, KeepsBound}
use Rattle.type_terms.specs.Counting.{free_among, free_count, free_kinds, free_types, one_if_free}
use Rattle.type_terms.specs.Table.{Table, Binds, BindsKind, bound_at, kind_at}
use Rattle.type_terms.specs.Term.{Term}
use Rattle.type_terms.specs.Variables.{Variable}
use Rattle.type_terms.specs.declared.ty.KindTerm.{KindTerm}

-- ---- what is bound stays bound

pub keeps_itself : (s : Table) → KeepsBound s s
keeps_itself s = record { types = λ k t e. e; kinds = λ k t e. e }

pub keeps_both : (s s' s'' : Table) → KeepsBound s s' → KeepsBound s' s'' → KeepsBound s s''
keeps_both s s' s'' f g = record { types = λ k t e. g.types k t (f.types k t e); kinds = λ k t e. g.kinds k t (f.kinds k t e) }

-- a variable that was free is bound
pub keeps_type : (s s' : Table) (x : ℕ) (t : Term) → Binds x t s.types s'.types → s'.kinds ≡ s.kinds → KeepsBound s s'
keeps_type s s' x t b is = record {
  types = λ k u e. b.elsewhere k (λ same. let g : ◌≡◌ {A = Option Term} None (Some u) = sym b.free ∙ ap (bound_at s.types) (sym same) ∙ e in cc) ∙ e;
  kinds = λ k u e. ap (λ ks. kind_at ks k) is ∙ e;
}

pub keeps_kind : (s s' : Table) (x : ℕ) (t : KindTerm) → BindsKind x t s.kinds s'.kinds → s'.types ≡ s.types → KeepsBound s s'
keeps_kind s s' x t b is = record {
  types = λ k u e. ap (λ vs. bound_at vs k) is ∙ e;
  kinds = λ k u e. b.elsewhere k (λ same. let g : ◌≡◌ {A = Option KindTerm} None (Some u) = sym b.free ∙ ap (kind_at s.kinds) (sym same) ∙ e in cc) ∙ e;
}

-- ---- no more than there are

pub one_few : {A : Type 0} (o : Option A) → one_if_free o ≤ 1
one_few None = omega arith
one_few (Some t) = omega arith

pub types_few : (vs : List Variable) → free_types vs ≤ length vs
types_few [] = omega arith
types_few (v ∷ vs) = let f = one_few v.bound in let r = types_few vs in omega (arith, f, r)

pub kinds_few : (ks : List (Option KindTerm)) → free_kinds ks ≤ length ks
kinds_few [] = omega arith
kinds_few (k ∷ ks) = let f = one_few k in let r = kinds_few ks in omega (arith, f, r)

-- ---- one more

pub types_more : (vs us : List Variable) → free_types (vs ++ us) ≡ free_types vs + free_types us
types_more [] us = omega arith
types_more (v ∷ vs) us = let r = types_more vs us in omega (arith, r)

pub kinds_more : (ks ls : List (Option KindTerm)) → free_kinds (ks ++ ls) ≡ free_kinds ks + free_kinds ls
kinds_more [] ls = omega arith
kinds_more (k ∷ ks) ls = let r = kinds_more ks ls in omega (arith, r)

-- ---- in a loop

pub types_split : (n : ℕ) (vs : List Variable) → free_types (take n vs) + free_types (drop n vs) ≡ free_types vs
types_split zero vs = omega arith
types_split (suc n) [] = refl
types_split (suc n) (v ∷ vs) = let r = types_split n vs in omega (arith, r)

pub kinds_split : (n : ℕ) (ks : List (Option KindTerm)) → free_kinds (take n ks) + free_kinds (drop n ks) ≡ free_kinds ks
kinds_split zero ks = omega arith
kinds_split (suc n) [] = refl
kinds_split (suc n) (k ∷ ks) = let r = kinds_split n ks in omega (arith, r)

pub types_all : (n : ℕ) (vs : List Variable) → length vs ≤ n → free_types (take n vs) + 0 ≡ free_types vs
types_all n vs l = let e : free_types (take n vs) ≡ free_types vs = ap free_types (take_all n vs l) in omega (arith, e)

pub kinds_all : (n : ℕ) (ks : List (Option KindTerm)) → length ks ≤ n → free_kinds (take n ks) + 0 ≡ free_kinds ks
kinds_all n ks l = let e : free_kinds (take n ks) ≡ free_kinds ks = ap free_kinds (take_all n ks l) in omega (arith, e)

-- ---- one variable is bound

types_same : (vs us : List Variable) → length us ≡ length vs → ((k : ℕ) → bound_at us k ≡ bound_at vs k) → free_types us ≡ free_types vs
types_same [] [] l e = refl
types_same [] (u ∷ us) l e = absurd (omega (arith, l))
types_same (v ∷ vs) [] l e = absurd (omega (arith, l))
types_same (v ∷ vs) (u ∷ us) l e =
    let here : one_if_free u.bound ≡ one_if_free v.bound = ap one_if_free (e 0) in
    let r = types_same vs us (omega (arith, l)) (λ k. e (suc k)) in
    omega (arith, here, r)

types_bound : (x : ℕ) (t : Term) (vs us : List Variable) → length us ≡ length vs → x < length vs → bound_at vs x ≡ None → bound_at us x ≡ Some t → ((k : ℕ) → k ≢ x → bound_at us k ≡ bound_at vs k) → suc (free_types us) ≡ free_types vs
types_bound x t [] us l i f h e = absurd (omega (arith, i))
types_bound x t (v ∷ vs) [] l i f h e = absurd (omega (arith, l))
types_bound zero t (v ∷ vs) (u ∷ us) l i f h e =
    let before : one_if_free v.bound ≡ 1 = ap one_if_free f in
    let now : one_if_free u.bound ≡ 0 = ap one_if_free h in
    let r = types_same vs us (omega (arith, l)) (λ k. e (suc k) (λ q. absurd (omega (arith, q)))) in
    omega (arith, before, now, r)
types_bound (suc x) t (v ∷ vs) (u ∷ us) l i f h e =
    let here : one_if_free u.bound ≡ one_if_free v.bound = ap one_if_free (e 0 (λ q. absurd (omega (arith, q)))) in
    let r = types_bound x t vs us (omega (arith, l)) (omega (arith, i)) f h (λ k n. e (suc k) (λ q. n (omega (arith, q)))) in
    omega (arith, here, r)

kinds_same : (ks ls : List (Option KindTerm)) → length ls ≡ length ks → ((k : ℕ) → kind_at ls k ≡ kind_at ks k) → free_kinds ls ≡ free_kinds ks
kinds_same [] [] l e = refl
kinds_same [] (u ∷ us) l e = absurd (omega (arith, l))
kinds_same (v ∷ vs) [] l e = absurd (omega (arith, l))
kinds_same (v ∷ vs) (u ∷ us) l e =
    let here : one_if_free u ≡ one_if_free v = ap one_if_free (e 0) in
    let r = kinds_same vs us (omega (arith, l)) (λ k. e (suc k)) in
    omega (arith, here, r)

kinds_bound : (x : ℕ) (t : KindTerm) (ks ls : List (Option KindTerm)) → length ls ≡ length ks → x < length ks → kind_at ks x ≡ None → kind_at ls x ≡ Some t → ((k : ℕ) → k ≢ x → kind_at ls k ≡ kind_at ks k) → suc (free_kinds ls) ≡ free_kinds ks
kinds_bound x t [] us l i f h e = absurd (omega (arith, i))
kinds_bound x t (v ∷ vs) [] l i f h e = absurd (omega (arith, l))
kinds_bound zero t (v ∷ vs) (u ∷ us) l i f h e =
    let before : one_if_free v ≡ 1 = ap one_if_free f in
    let now : one_if_free u ≡ 0 = ap one_if_free h in
    let r = kinds_same vs us (omega (arith, l)) (λ k. e (suc k) (λ q. absurd (omega (arith, q)))) in
    omega (arith, before, now, r)
kinds_bound (suc x) t (v ∷ vs) (u ∷ us) l i f h e =
    let here : one_if_free u ≡ one_if_free v = ap one_if_free (e 0 (λ q. absurd (omega (arith, q)))) in
    let r = kinds_bound x t vs us (omega (arith, l)) (omega (arith, i)) f h (λ k n. e (suc k) (λ q. n (omega (arith, q)))) in
    omega (arith, here, r)

pub count_type : (s s' : Table) (x : ℕ) (t : Term) → x < length s.types → Binds x t s.types s'.types → s'.kinds ≡ s.kinds → suc (free_count s') ≡ free_count s
count_type s s' x t i b is =
    let f = types_bound x t s.types s'.types b.same_length i b.free b.here b.elsewhere in
    let g : free_kinds s'.kinds ≡ free_kinds s.kinds = ap free_kinds is in
    omega (arith, f, g)

pub count_kind : (s s' : Table) (x : ℕ) (t : KindTerm) → x < length s.kinds → BindsKind x t s.kinds s'.kinds → s'.types ≡ s.types → suc (free_count s') ≡ free_count s
count_kind s s' x t i b is =
    let f = kinds_bound x t s.kinds s'.kinds b.same_length i b.free b.here b.elsewhere in
    let g : free_types s'.types ≡ free_types s.types = ap free_types is in
    omega (arith, f, g)

-- ---- where as many are free as before, the same are

types_fewer : (m : ℕ) (vs us : List Variable) → length vs ≤ length us → m ≤ length vs → ((k : ℕ) (t : Term) → bound_at vs k ≡ Some t → bound_at us k ≡ Some t) → free_types (take m us) ≤ free_types (take m vs)
types_fewer zero vs us l i e = omega arith
types_fewer (suc m) [] us l i e = absurd (omega (arith, i))
types_fewer (suc m) (v ∷ vs) [] l i e = absurd (omega (arith, l))
types_fewer (suc m) (v ∷ vs) (u ∷ us) l i e =
    let here = one_fewer v.bound u.bound (e 0) in
    let r = types_fewer m vs us (omega (arith, l)) (omega (arith, i)) (λ k. e (suc k)) in
    omega (arith, here, r)
  where
    one_fewer : (o p : Option Term) → ((t : Term) → o ≡ Some t → p ≡ Some t) → one_if_free p ≤ one_if_free o
    one_fewer None p f = one_few p
    one_fewer (Some t) p f = let g : one_if_free p ≡ 0 = ap one_if_free (f t refl) in omega (arith, g)

types_still : (m : ℕ) (vs us : List Variable) → length vs ≤ length us → m ≤ length vs → ((k : ℕ) (t : Term) → bound_at vs k ≡ Some t → bound_at us k ≡ Some t) → free_types (take m us) ≡ free_types (take m vs) →
    (k : ℕ) → k < m → bound_at vs k ≡ None → bound_at us k ≡ None
types_still zero vs us l i e c k f n = absurd (omega (arith, f))
types_still (suc m) [] us l i e c k f n = absurd (omega (arith, i))
types_still (suc m) (v ∷ vs) [] l i e c k f n = absurd (omega (arith, l))
types_still (suc m) (v ∷ vs) (u ∷ us) l i e c zero f n =
    let before : one_if_free v.bound ≡ 1 = ap one_if_free n in
    let r = types_fewer m vs us (omega (arith, l)) (omega (arith, i)) (λ k. e (suc k)) in
    by u.bound (omega (arith, before, r, c))
  where
    by : (o : Option Term) → 1 ≤ one_if_free o → o ≡ None
    by None h = refl
    by (Some t) h = absurd (omega (arith, h))
types_still (suc m) (v ∷ vs) (u ∷ us) l i e c (suc k) f n = types_still m vs us (omega (arith, l)) (omega (arith, i)) (λ j. e (suc j)) rest k (omega (arith, f)) n where
  rest : free_types (take m us) ≡ free_types (take m vs)
  rest = by v.bound u.bound (e 0) (types_fewer m vs us (omega (arith, l)) (omega (arith, i)) (λ j. e (suc j))) c where
    by : (o p : Option Term) → ((t : Term) → o ≡ Some t → p ≡ Some t) → free_types (take m us) ≤ free_types (take m vs) → one_if_free p + free_types (take m us) ≡ one_if_free o + free_types (take m vs) → free_types (take m us) ≡ free_types (take m vs)
    by None p g r h = let one = one_few p in omega (arith, one, r, h)
    by (Some t) p g r h = let none : one_if_free p ≡ 0 = ap one_if_free (g t refl) in omega (arith, none, h)

kinds_fewer : (m : ℕ) (vs us : List (Option KindTerm)) → length vs ≤ length us → m ≤ length vs → ((k : ℕ) (t : KindTerm) → kind_at vs k ≡ Some t → kind_at us k ≡ Some t) → free_kinds (take m us) ≤ free_kinds (take m vs)
kinds_fewer zero vs us l i e = omega arith
kinds_fewer (suc m) [] us l i e = absurd (omega (arith, i))
kinds_fewer (suc m) (v ∷ vs) [] l i e = absurd (omega (arith, l))
kinds_fewer (suc m) (v ∷ vs) (u ∷ us) l i e =
    let here = one_fewer v u (e 0) in
    let r = kinds_fewer m vs us (omega (arith, l)) (omega (arith, i)) (λ k. e (suc k)) in
    omega (arith, here, r)
  where
    one_fewer : (o p : Option KindTerm) → ((t : KindTerm) → o ≡ Some t → p ≡ Some t) → one_if_free p ≤ one_if_free o
    one_fewer None p f = one_few p
    one_fewer (Some t) p f = let g : one_if_free p ≡ 0 = ap one_if_free (f t refl) in omega (arith, g)

kinds_still : (m : ℕ) (vs us : List (Option KindTerm)) → length vs ≤ length us → m ≤ length vs → ((k : ℕ) (t : KindTerm) → kind_at vs k ≡ Some t → kind_at us k ≡ Some t) → free_kinds (take m us) ≡ free_kinds (take m vs) →
    (k : ℕ) → k < m → kind_at vs k ≡ None → kind_at us k ≡ None
kinds_still zero vs us l i e c k f n = absurd (omega (arith, f))
kinds_still (suc m) [] us l i e c k f n = absurd (omega (arith, i))
kinds_still (suc m) (v ∷ vs) [] l i e c k f n = absurd (omega (arith, l))
kinds_still (suc m) (v ∷ vs) (u ∷ us) l i e c zero f n =
    let before : one_if_free v ≡ 1 = ap one_if_free n in
    let r = kinds_fewer m vs us (omega (arith, l)) (omega (arith, i)) (λ k. e (suc k)) in
    by u (omega (arith, before, r, c))
  where
    by : (o : Option KindTerm) → 1 ≤ one_if_free o → o ≡ None
    by None h = refl
    by (Some t) h = absurd (omega (arith, h))
kinds_still (suc m) (v ∷ vs) (u ∷ us) l i e c (suc k) f n = kinds_still m vs us (omega (arith, l)) (omega (arith, i)) (λ j. e (suc j)) rest k (omega (arith, f)) n where
  rest : free_kinds (take m us) ≡ free_kinds (take m vs)
  rest = by v u (e 0) (kinds_fewer m vs us (omega (arith, l)) (omega (arith, i)) (λ j. e (suc j))) c where
    by : (o p : Option KindTerm) → ((t : KindTerm) → o ≡ Some t → p ≡ Some t) → free_kinds (take m us) ≤ free_kinds (take m vs) → one_if_free p + free_kinds (take m us) ≡ one_if_free o + free_kinds (take m vs) → free_kinds (take m us) ≡ free_kinds (take m vs)
    by None p g r h = let one = one_few p in omega (arith, one, r, h)
    by (Some t) p g r h = let none : one_if_free p ≡ 0 = ap one_if_free (g t refl) in omega (arith, none, h)

-- the variables that were free among the first so many are free still
pub record AreStillFree (s s' : Table) (types kinds : ℕ) : Type 0 where
  pub free_types : (k : ℕ) → k < types → bound_at s.types k ≡ None → bound_at s'.types k ≡ None
  pub free_kinds : (k : ℕ) → k < kinds → kind_at s.kinds k ≡ None → kind_at s'.kinds k ≡ None

pub still_free : (s s' : Table) (m n : ℕ) → Follows s s' → m ≤ length s.types → n ≤ length s.kinds → free_among s' m n ≡ free_among s m n → AreStillFree s s' m n
still_free s s' m n f i j c =
    let t = types_fewer m s.types s'.types f.types i f.bound.types in
    let k = kinds_fewer n s.kinds s'.kinds f.kinds j f.bound.kinds in
    record {
      free_types = types_still m s.types s'.types f.types i f.bound.types (omega (arith, t, k, c));
      free_kinds = kinds_still n s.kinds s'.kinds f.kinds j f.bound.kinds (omega (arith, t, k, c));
    }
