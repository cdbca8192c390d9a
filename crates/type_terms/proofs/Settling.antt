-- What the steps of the search for a difference tell.
use Rattle.std.proofs.Common.{◌≡◌, ◌∙◌, sym, ap, subst, refl, ℕ, zero, suc, ◌<◌, Bool, true, false, List, [], ◌∷◌, length, Option, Some, None, get_or, slice_index_or, arith}
use Rattle.std.proofs.lemmas.Option.{slice_get_read}
use Rattle.type_terms.specs.Ground.{Assignment, IsNumber, IsNumberBase}
use Rattle.type_terms.specs.Nested.{AreMarked, IsUnnested, mark_at}
use Rattle.type_terms.specs.Variables.{Variable}
use Rattle.type_terms.specs.Pairs.{IsSplit, part_count}
use Rattle.type_terms.specs.Table.{Table, Solves, IsSound, IsTriangular, MeetsBindings, IsOver, IsNumberTerm, Avoids, bound_at, number_at, number_in, extra, table}
use Rattle.type_terms.specs.Differ.{IsForced, Settles, is_number_base}
use Rattle.type_terms.specs.declared.differ.Difference.{Difference}
use Rattle.type_terms.specs.declared.differ.Difference.TheVariants.{Same, Clash, Bind, BindKind}
use Rattle.type_terms.specs.Term.{Term, Terms, no_terms, one_more, term_of, meaning, meanings, base_of, variable, base_term, list_term, tuple_term, source_term, InTerm}
use Rattle.type_terms.specs.declared.ty.Base.{Base}
use Rattle.type_terms.specs.declared.ty.Base.TheVariants as base
use Rattle.type_terms.specs.declared.ty.Ty.{Ty}
use Rattle.type_terms.specs.declared.ty.Ty.TheVariants as ty
use Rattle.type_terms.specs.declared.ty.KindTerm.{KindTerm}
use Rattle.type_terms.proofs.Avoiding.{avoids_base, avoids_free}
use Rattle.type_terms.proofs.Views.{Shape, is_base, is_list, is_tuple, is_source, is_var, shape_of, term_List, term_Tuple, term_Source, term_Var}
use Rattle.type_terms.proofs.Terms.{InTerm-map}

pub number_read : (vs : List Variable) (k : ℕ) (v : Variable) → k < length vs → v ≡ get_or vs k v → number_at vs k ≡ v.number
number_read vs k v h e = ap number_in (slice_get_read vs (length vs) k v refl h e)

-- a free variable without a mark stands in no binding
pub unnested : (vs : List Variable) (marks : List Bool) → AreMarked vs marks → (x : ℕ) → mark_at marks x ≡ false → IsUnnested vs x
unnested vs marks m x none = record {
  apart = λ k t e. InTerm-map (λ j is same. absurd (let f : ◌≡◌ {A = Bool} true false = sym is ∙ ap (mark_at marks) same ∙ none in cc)) (λ _ _. tt) t (m.marked k t e);
}

pub mark_read : (marks : List Bool) (k : ℕ) → mark_at marks k ≡ slice_index_or marks k false
mark_read [] k = refl
mark_read (m ∷ ms) zero = refl
mark_read (m ∷ ms) (suc k) = mark_read ms k

-- numbers

number_base : (b : Base) → is_number_base (Some b) ≡ true → IsNumberBase b
number_base base.Int e = tt
number_base base.Decimal e = tt
number_base base.Text e = cc
number_base base.Bool e = cc
number_base base.Unit e = cc
number_base base.Format e = cc
number_base base.Pred e = cc

no_number_base : (b : Base) → is_number_base (Some b) ≡ false → IsNumberBase b → ⊥
no_number_base base.Int e h = cc
no_number_base base.Decimal e h = cc
no_number_base base.Text e h = h
no_number_base base.Bool e h = h
no_number_base base.Unit e h = h
no_number_base base.Format e h = h
no_number_base base.Pred e h = h

number_term : (vs : List Variable) (t : Term) → is_number_base (base_of t) ≡ true → IsNumberTerm vs t
number_term vs (base_term b) e = number_base b e
number_term vs (list_term t) e = cc
number_term vs (tuple_term t) e = cc
number_term vs (source_term t) e = cc
number_term vs (variable t) e = cc

number_avoids : (vs : List Variable) (x : ℕ) (t : Term) → is_number_base (base_of t) ≡ true → Avoids vs x t
number_avoids vs x (base_term b) e = avoids_base vs x b
number_avoids vs x (list_term t) e = cc
number_avoids vs x (tuple_term t) e = cc
number_avoids vs x (source_term t) e = cc
number_avoids vs x (variable t) e = cc

no_number : (a : Assignment) (t : Term) → is_number_base (base_of t) ≡ false → extra t ≡ 1 → IsNumber (meaning a t) → ⊥
no_number a (base_term b) e x h = no_number_base b e h
no_number a (list_term t) e x h = h
no_number a (tuple_term t) e x h = h
no_number a (source_term t) e x h = h
no_number a (variable t) e x h = omega arith

pub forced_number : (vs : List Variable) (ks : List (Option KindTerm)) (x : ℕ) (t : Term) → x < length vs → bound_at vs x ≡ None → is_number_base (base_of t) ≡ true → IsOver (table vs ks) t → IsForced (table vs ks) (variable x) t x t
forced_number vs ks x t h f n o = record {
  inside = h;
  free = f;
  avoids = number_avoids vs x t n;
  over = o;
  number = λ _. number_term vs t n;
  forced = λ a s e. e;
  enough = λ a s e. e;
}

pub clash_number : (vs : List Variable) (x : ℕ) (t : Term) → number_at vs x ≡ true → extra t ≡ 1 → is_number_base (base_of t) ≡ false → (a : Assignment) → (number_at vs x ≡ true → IsNumber (a.type_of x)) → a.type_of x ≡ meaning a t → ⊥
clash_number vs x t num ex n a m e = no_number a t n ex (subst IsNumber e (m num))

pub forced_other : (vs : List Variable) (ks : List (Option KindTerm)) (x : ℕ) (t : Term) → x < length vs → bound_at vs x ≡ None → number_at vs x ≡ false → Avoids vs x t → IsOver (table vs ks) t → IsForced (table vs ks) (variable x) t x t
forced_other vs ks x t h f n v o = record {
  inside = h;
  free = f;
  avoids = v;
  over = o;
  number = λ is. absurd (let g : ◌≡◌ {A = Bool} false true = sym n ∙ is in cc);
  forced = λ a s e. e;
  enough = λ a s e. e;
}

-- the same, where the two equations have the same solutions
pub settles_move : (s : Table) (l r l' r' : Term) (d : Difference) → ((a : Assignment) → Solves a s → meaning a l' ≡ meaning a r' → meaning a l ≡ meaning a r) → ((a : Assignment) → Solves a s → meaning a l ≡ meaning a r → meaning a l' ≡ meaning a r') → Settles s l r d → Settles s l' r' d
settles_move s l r l' r' Same f g h = λ a m. g a m (h a m)
settles_move s l r l' r' Clash f g h = λ a m e. h a m (f a m e)
settles_move s l r l' r' (Bind x t) f g h = record { inside = h.inside; free = h.free; avoids = h.avoids; over = h.over; number = h.number; forced = λ a m e. h.forced a m (f a m e); enough = λ a m e. g a m (h.enough a m e) }
settles_move s l r l' r' (BindKind x t) f g h = record { inside = h.inside; free = h.free; lower = h.lower; forced = λ a m e. h.forced a m (f a m e); enough = λ a m e. g a m (h.enough a m e) }

-- the two sides, resolved
abbrev pub SameValue : Table → Term → Term → Type 0
SameValue s t u = (a : Assignment) → MeetsBindings s.types a → meaning a t ≡ meaning a u

pub settles_resolved : (s : Table) (l r l' r' : Term) (d : Difference) → SameValue s l l' → SameValue s r r' → Settles s l r d → Settles s l' r' d
settles_resolved s l r l' r' d el er h =
    settles_move s l r l' r' d (λ a m e. el a m.types ∙ e ∙ sym (er a m.types)) (λ a m e. sym (el a m.types) ∙ e ∙ er a m.types) h

pub settles_terms : (s : Table) (l r l' r' : Term) (d : Difference) → l' ≡ l → r' ≡ r → Settles s l r d → Settles s l' r' d
settles_terms s l r l' r' d el er h =
    settles_move s l r l' r' d (λ a m e. sym (ap (meaning a) el) ∙ e ∙ ap (meaning a) er) (λ a m e. ap (meaning a) el ∙ e ∙ sym (ap (meaning a) er)) h

pub triangular : (vs : List Variable) (ks : List (Option KindTerm)) → IsSound (table vs ks) → IsTriangular vs
triangular vs ks h = record { over = λ k t e. InTerm-map (λ n i. i) (λ _ _. tt) t (h.over k t e); ranked = h.ranked }

pub over_types : (vs : List Variable) (ks : List (Option KindTerm)) (t : Term) → IsOver (table vs ks) t → InTerm (λ n. n < length vs) (λ _. Unit {0}) t
over_types vs ks t = InTerm-map (λ n i. i) (λ _ _. tt) t

pub forced_variable : (vs : List Variable) (ks : List (Option KindTerm)) (x y : ℕ) (t : Ty) → term_of t ≡ variable y → x < length vs → y < length vs → bound_at vs x ≡ None → bound_at vs y ≡ None → (x ≡ y → ⊥) → (number_at vs x ≡ true → number_at vs y ≡ true) → IsForced (table vs ks) (variable x) (variable y) x (term_of t)
forced_variable vs ks x y t is hx hy fx fy ne n = record {
  inside = hx;
  free = fx;
  avoids = subst (λ u. Avoids vs x u) (sym is) (avoids_free vs x y (λ e. ne (sym e)) fy);
  over = subst (λ u. IsOver (table vs ks) u) (sym is) hy;
  number = λ e. subst (λ u. IsNumberTerm vs u) (sym is) (n e);
  forced = λ a m e. e ∙ sym (ap (meaning a) is);
  enough = λ a m e. e ∙ ap (meaning a) is;
}

pub forced_flipped : (s : Table) (l r : Term) (x : ℕ) (t : Term) → IsForced s r l x t → IsForced s l r x t
forced_flipped s l r x t h = record { inside = h.inside; free = h.free; avoids = h.avoids; over = h.over; number = h.number; forced = λ a m e. h.forced a m (sym e); enough = λ a m e. sym (h.enough a m e) }

-- shapes

-- a type that is no variable
pub extra_other : (t : Ty) → ((n : ℕ) → t ≡ ty.Var n → ⊥) → extra (term_of t) ≡ 1
extra_other t h = by (shape_of t)
  where
    by : Shape t → extra (term_of t) ≡ 1
    by (is_base b e) = ap extra e
    by (is_list b e) = ap extra (term_List t b e)
    by (is_tuple v e) = ap extra (term_Tuple t v e)
    by (is_source k e) = ap extra (term_Source t k e)
    by (is_var n e) = absurd (h n e)

pub no_source : (t : Ty) → ((k : KindTerm) → t ≡ ty.Source k → ⊥) → (k : KindTerm) → term_of t ≡ source_term k → ⊥
no_source t h k = by (shape_of t)
  where
    by : Shape t → term_of t ≡ source_term k → ⊥
    by (is_base b e) f = let g : base_term b ≡ source_term k = sym e ∙ f in cc
    by (is_list b e) f = let g : list_term (term_of b.value) ≡ source_term k = sym (term_List t b e) ∙ f in cc
    by (is_tuple v e) f = let g : tuple_term _ ≡ source_term k = sym (term_Tuple t v e) ∙ f in cc
    by (is_source j e) f = h j e
    by (is_var n e) f = let g : variable n ≡ source_term k = sym (term_Var t n e) ∙ f in cc

pub unsplit_lengths : (s t : Term) (us vs : Terms) → s ≡ tuple_term us → t ≡ tuple_term vs → (part_count us ≡ part_count vs → ⊥) → IsSplit s t → ⊥
unsplit_lengths s t us vs es et ne i = ne (subst (λ v. IsSplit (tuple_term us) v) et (subst (λ u. IsSplit u t) es i))

count_same : (a : Assignment) (us vs : Terms) → meanings a us ≡ meanings a vs → part_count us ≡ part_count vs
count_same a no_terms no_terms e = refl
count_same a no_terms (one_more v vs) e = cc
count_same a (one_more u us) no_terms e = cc
count_same a (one_more u us) (one_more v vs) e = ap suc (count_same a us vs (let f : meanings a us ≡ meanings a vs = cc in f))

-- two types of unlike shapes clash
pub shapes_clash : (a : Assignment) (s t : Term) → extra s ≡ 1 → extra t ≡ 1 → (IsSplit s t → ⊥) → base_of s ≡ None → ((k j : KindTerm) → s ≡ source_term k → t ≡ source_term j → ⊥) → meaning a s ≡ meaning a t → ⊥
shapes_clash a (base_term b) t x y n o k e = cc
shapes_clash a (variable i) t x y n o k e = omega arith
shapes_clash a s (variable i) x y n o k e = omega arith
shapes_clash a (list_term s) (list_term t) x y n o k e = n tt
shapes_clash a (list_term s) (base_term t) x y n o k e = cc
shapes_clash a (list_term s) (tuple_term t) x y n o k e = cc
shapes_clash a (list_term s) (source_term t) x y n o k e = cc
shapes_clash a (tuple_term s) (list_term t) x y n o k e = cc
shapes_clash a (tuple_term s) (base_term t) x y n o k e = cc
shapes_clash a (tuple_term s) (tuple_term t) x y n o k e = n (count_same a s t (let f : meanings a s ≡ meanings a t = cc in f))
shapes_clash a (tuple_term s) (source_term t) x y n o k e = cc
shapes_clash a (source_term s) (list_term t) x y n o k e = cc
shapes_clash a (source_term s) (base_term t) x y n o k e = cc
shapes_clash a (source_term s) (tuple_term t) x y n o k e = cc
shapes_clash a (source_term s) (source_term t) x y n o k e = k s t refl refl
