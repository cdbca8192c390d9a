-- Walks over types with a stack: marks, and the search for a variable.
use Rattle.std.proofs.Common.{◌≡◌, ◌≢◌, ◌∙◌, sym, ap, subst, refl, ℕ, zero, suc, ◌+◌, ◌<◌, ◌≤◌, Bool, true, false, map, take, take_all, List, [], ◌∷◌, ◌++◌, length, get_or, arith, Option, Some, None, eqb, ne_eqb, eq-eqb, ◌⊎◌, inl, inr, not, Vec, Global, append_assoc}
use Rattle.std.proofs.Math.ListN.{set}
use Rattle.std.specs.Borrow.{Bor}
use Rattle.std.specs.List.{list_any}
use Rattle.type_terms.specs.Ground.{Assignment, size, sizes}
use Rattle.type_terms.specs.Nested.{mark_at, IsIn, IsMarked, IsUnnested, IsVisit, terms, parts, below, bound_list, reached_by, inside, IsAmong}
use Rattle.type_terms.specs.Table.{Avoids, IsTriangular, MeetsBindings, bound_at, extra}
use Rattle.type_terms.specs.Term.{Term, Terms, base_term, list_term, tuple_term, source_term, variable, no_terms, one_more, meaning, meanings, InTerm, InTerms, term_of, terms_of}
use Rattle.type_terms.specs.Variables.{Variable}
use Rattle.type_terms.specs.declared.ty.Ty.{Ty}
use Rattle.type_terms.specs.declared.ty.Ty.TheViews as view
use Rattle.type_terms.specs.declared.ty.Ty.TheVariants as ty
use Rattle.type_terms.proofs.Terms.{InTerm-map, InTerms-map, any_kind}
use Rattle.type_terms.proofs.Parts.{InTerms-push, tuple_is, map_take_next}
use Rattle.type_terms.proofs.Views.{Shape, is_base, is_list, is_tuple, is_source, is_var, shape_of, term_List, term_Tuple, term_Source}

-- references

pub terms-append : (xs ys : List (Bor Ty)) → terms (xs ++ ys) ≡ terms xs ++ terms ys
terms-append [] ys = refl
terms-append (x ∷ xs) ys = ap (λ ts. term_of x.now ∷ ts) (terms-append xs ys)

-- one more part is on the stack
pub pushed_part : (base work work' : List (Bor Ty)) (ps : List Ty) (i : ℕ) (p : Bor Ty) → i < length ps → p.now ≡ get_or ps i p.now → work' ≡ work ++ (p ∷ []) → terms work ≡ terms base ++ map term_of (take i ps) → terms work' ≡ terms base ++ map term_of (take (i + 1) ps)
pushed_part base work work' ps i p h e pushed inv =
    ap terms pushed ∙ terms-append work (p ∷ []) ∙ ap (λ ts. ts ++ (term_of p.now ∷ [])) inv
    ∙ append_assoc (terms base) (map term_of (take i ps)) (term_of p.now ∷ [])
    ∙ ap (λ ts. terms base ++ ts) (ap (λ q. map term_of (take i ps) ++ (term_of q ∷ [])) e ∙ sym (map_take_next ps i p.now h))

pub parts_of_terms : (ts : List Term) → parts (terms_of ts) ≡ ts
parts_of_terms [] = refl
parts_of_terms (t ∷ ts) = ap (λ us. t ∷ us) (parts_of_terms ts)

-- marks

pub mark_here : (ms : List Bool) (k : ℕ) → k < length ms → mark_at (set ms k true) k ≡ true
mark_here [] k h = absurd (omega arith)
mark_here (m ∷ ms) zero h = refl
mark_here (m ∷ ms) (suc k) h = mark_here ms k (omega arith)

pub mark_kept : (ms : List Bool) (k j : ℕ) → mark_at ms j ≡ true → mark_at (set ms k true) j ≡ true
mark_kept [] k j e = e
mark_kept (m ∷ ms) zero zero e = refl
mark_kept (m ∷ ms) zero (suc j) e = e
mark_kept (m ∷ ms) (suc k) zero e = e
mark_kept (m ∷ ms) (suc k) (suc j) e = mark_kept ms k j e

pub next_marked : (old new : List Bool) (ps : List Ty) (i : ℕ) (p : Ty) → i < length ps → p ≡ get_or ps i p → ((k : ℕ) → mark_at old k ≡ true → mark_at new k ≡ true) → InTerms (λ j. mark_at old j ≡ true) (λ _. Unit {0}) (terms_of (map term_of (take i ps))) → IsMarked new (term_of p) → InTerms (λ j. mark_at new j ≡ true) (λ _. Unit {0}) (terms_of (map term_of (take (i + 1) ps)))
next_marked old new ps i p h e kept before here =
    subst (λ ts. InTerms (λ j. mark_at new j ≡ true) (λ _. Unit {0}) (terms_of ts)) (sym (map_take_next ps i p h))
    (InTerms-push (λ j. mark_at new j ≡ true) (λ _. Unit {0}) (map term_of (take i ps)) (term_of (get_or ps i p))
    (InTerms-map kept (λ _ _. tt) (terms_of (map term_of (take i ps))) before)
    (subst (λ q. IsMarked new (term_of q)) e here))

pub all_marked : (ms : List Bool) (u : Ty) (v : Vec Ty Global) (xs : List Ty) → u ≡ view.Tuple v → xs ≡ v.items → (i : ℕ) → length xs ≤ i → InTerms (λ j. mark_at ms j ≡ true) (λ _. Unit {0}) (terms_of (map term_of (take i xs))) → IsMarked ms (term_of u)
all_marked ms u v xs is items i h a =
    subst (λ t. IsMarked ms t) (sym (tuple_is u v xs is items))
    (subst (λ ys. InTerms (λ j. mark_at ms j ≡ true) (λ _. Unit {0}) (terms_of (map term_of ys))) (take_all i xs h) a)

pub no_variable : (t : Ty) (x : ℕ) → ((n : ℕ) → t ≡ ty.Var n → ⊥) → term_of t ≢ variable x
no_variable t x h = by (shape_of t)
  where
    by : Shape t → term_of t ≢ variable x
    by (is_base b e) f = let g : base_term b ≡ variable x = sym e ∙ f in cc
    by (is_list b e) f = let g : list_term (term_of b.value) ≡ variable x = sym (term_List t b e) ∙ f in cc
    by (is_tuple v e) f = let g : tuple_term (terms_of (map term_of v.items)) ≡ variable x = sym (term_Tuple t v e) ∙ f in cc
    by (is_source k e) f = let g : source_term k ≡ variable x = sym (term_Source t k e) ∙ f in cc
    by (is_var n e) f = h n e

-- the search for x

-- P holds of each term of the stack
abbrev pub Every : (Term → Type 0) → List Term → Type 0
Every P [] = Unit {0}
Every P (t ∷ ts) = P t × Every P ts

every_left : (P : Term → Type 0) (xs ys : List Term) → Every P (xs ++ ys) → Every P xs
every_left P [] ys h = tt
every_left P (x ∷ xs) ys h = (h.0, every_left P xs ys h.1)

every_right : (P : Term → Type 0) (xs ys : List Term) → Every P (xs ++ ys) → Every P ys
every_right P [] ys h = h
every_right P (x ∷ xs) ys h = every_right P xs ys h.1

every_both : (P : Term → Type 0) (xs ys : List Term) → Every P xs → Every P ys → Every P (xs ++ ys)
every_both P [] ys h k = k
every_both P (x ∷ xs) ys h k = (h.0, every_both P xs ys h.1 k)

abbrev pub IsInside : List Variable → Term → Type 0
IsInside vs t = InTerm (λ n. n < length vs) (λ _. Unit {0}) t

-- u is no larger than t, and smaller where it is a proper part
abbrev pub IsWithin : List Variable → Term → Term → Type 0
IsWithin vs t u = (a : Assignment) → MeetsBindings vs a → size (meaning a u) + extra t ≤ size (meaning a t) + extra u

-- R holds of each variable of the term
abbrev pub IsOf : (ℕ → Bool) → Term → Type 0
IsOf R t = InTerm (λ j. R j ≡ true) (λ _. Unit {0}) t

-- R holds of the variables that the search went behind, and where it goes behind none of all but x
pub record IsClosed (nested : Bool) (x : ℕ) (seen : List ℕ) (R : ℕ → Bool) : Type 0 where
  pub passed : (k : ℕ) → IsIn seen k → R k ≡ true
  pub other : nested ≡ false → (k : ℕ) → k ≢ x → R k ≡ true

-- the search in t has come to this stack, and went behind these variables
pub record IsSearch (vs : List Variable) (nested : Bool) (x : ℕ) (t : Term) (stack : List Term) (seen : List ℕ) : Type 0 where
  pub inside : Every (IsInside vs) stack
  pub within : Every (IsWithin vs t) stack
  pub apart : (k : ℕ) → IsIn seen k → k ≢ x
  pub enough : (R : ℕ → Bool) → IsClosed nested x seen R → Every (IsOf R) stack → IsOf R t
  pub behind : (R : ℕ → Bool) → IsClosed nested x seen R → Every (IsOf R) stack → (k : ℕ) → IsIn seen k → (s : Term) → bound_at vs k ≡ Some s → IsOf R s

pub search_start : (vs : List Variable) (nested : Bool) (x : ℕ) (t : Term) (stack : List Term) (seen : List ℕ) → stack ≡ t ∷ [] → seen ≡ [] → IsInside vs t → IsSearch vs nested x t stack seen
search_start vs nested x t stack seen is none h = record {
  inside = subst (Every (IsInside vs)) (sym is) (h, tt);
  within = subst (Every (IsWithin vs t)) (sym is) ((λ a m. omega arith), tt);
  apart = λ k i. absurd (no k i);
  enough = λ R c e. (subst (Every (IsOf R)) is e).0;
  behind = λ R c e k i. absurd (no k i);
}
  where
    no : (k : ℕ) → IsIn seen k → ⊥
    no k i = let f : ◌≡◌ {A = Bool} false true = subst (λ ks. IsIn ks k) none i in cc

parts_inside : (vs : List Variable) (ts : Terms) → InTerms (λ n. n < length vs) (λ _. Unit {0}) ts → Every (IsInside vs) (parts ts)
parts_inside vs no_terms h = tt
parts_inside vs (one_more t ts) h = (h.0, parts_inside vs ts h.1)

within_part : (vs : List Variable) (t u : Term) → ((a : Assignment) → MeetsBindings vs a → suc (size (meaning a u) + extra t) ≤ size (meaning a t) + 1) → IsWithin vs t u
within_part vs t u h a m = omega (arith, h a m)

parts_within : (vs : List Variable) (t : Term) (ts : Terms) → ((a : Assignment) → MeetsBindings vs a → suc (sizes (meanings a ts) + extra t) ≤ size (meaning a t) + 1) → Every (IsWithin vs t) (parts ts)
parts_within vs t no_terms h = tt
parts_within vs t (one_more u us) h =
    (within_part vs t u (λ a m. omega (arith, h a m)), parts_within vs t us (λ a m. omega (arith, h a m)))

pub below_bound : (vs : List Variable) (deep : Bool) (k : ℕ) (t u : Term) → u ≡ variable k → deep ≡ true → bound_at vs k ≡ Some t → below vs deep u ≡ t ∷ []
below_bound vs deep k t u is d e = ap (below vs deep) is ∙ ap (λ b. reached_by b (bound_at vs k)) d ∙ ap bound_list e

pub below_free : (vs : List Variable) (deep : Bool) (k : ℕ) (u : Term) → u ≡ variable k → bound_at vs k ≡ None → below vs deep u ≡ []
below_free vs true k u is e = ap (below vs true) is ∙ ap bound_list e
below_free vs false k u is e = ap (below vs false) is

-- the terms right below u stand for u

module _ (vs : List Variable) (deep : Bool) (tri : IsTriangular vs) where
  below_variable_inside : (k : ℕ) (o : Option Term) → bound_at vs k ≡ o → Every (IsInside vs) (bound_list o)
  below_variable_inside k None e = tt
  below_variable_inside k (Some s) e = (tri.over k s e, tt)

  reached_inside : (k : ℕ) (d : Bool) → Every (IsInside vs) (reached_by d (bound_at vs k))
  reached_inside k true = below_variable_inside k (bound_at vs k) refl
  reached_inside k false = tt

  below_inside : (u : Term) → IsInside vs u → Every (IsInside vs) (below vs deep u)
  below_inside (base_term b) h = tt
  below_inside (list_term u) h = (h, tt)
  below_inside (tuple_term us) h = parts_inside vs us h
  below_inside (source_term k) h = tt
  below_inside (variable k) h = reached_inside k deep

  bound_within : (t : Term) (k : ℕ) (o : Option Term) → bound_at vs k ≡ o → IsWithin vs t (variable k) → Every (IsWithin vs t) (bound_list o)
  bound_within t k None e h = tt
  bound_within t k (Some s) e h = ((λ a m. let z = ap size (m k s e) in omega (arith, h a m)), tt)

  reached_within : (t : Term) (k : ℕ) (d : Bool) → IsWithin vs t (variable k) → Every (IsWithin vs t) (reached_by d (bound_at vs k))
  reached_within t k true h = bound_within t k (bound_at vs k) refl h
  reached_within t k false h = tt

  below_within : (t u : Term) → IsWithin vs t u → Every (IsWithin vs t) (below vs deep u)
  below_within t (base_term b) h = tt
  below_within t (list_term u) h = (within_part vs t u (λ a m. omega (arith, h a m)), tt)
  below_within t (tuple_term us) h = parts_within vs t us (λ a m. omega (arith, h a m))
  below_within t (source_term k) h = tt
  below_within t (variable k) h = reached_within t k deep h

  parts_of_R : (R : ℕ → Bool) (us : Terms) → Every (IsOf R) (parts us) → IsOf R (tuple_term us)
  parts_of_R R no_terms h = tt
  parts_of_R R (one_more u us) h = (h.0, parts_of_R R us h.1)

  -- R holds of u's variables where it holds of those below it, and of u itself where that is a variable
  of_below : (R : ℕ → Bool) (u : Term) → ((k : ℕ) → u ≡ variable k → R k ≡ true) → Every (IsOf R) (below vs deep u) → IsOf R u
  of_below R (base_term b) v h = tt
  of_below R (list_term u) v h = h.0
  of_below R (tuple_term us) v h = parts_of_R R us h
  of_below R (source_term k) v h = any_kind (λ n. tt) k
  of_below R (variable k) v h = v k refl

  behind_variable : (R : ℕ → Bool) (u : Term) (k : ℕ) (s : Term) → u ≡ variable k → deep ≡ true → bound_at vs k ≡ Some s → Every (IsOf R) (below vs deep u) → IsOf R s
  behind_variable R u k s is d e h = (subst (Every (IsOf R)) (below_bound vs deep k s u is d e) h).0

  -- the stack before the step is the rest with u on top
  module _ (nested : Bool) (x : ℕ) (t u : Term) (rest stack stack' : List Term) (seen seen' : List ℕ) (is : stack ≡ rest ++ (u ∷ [])) (h : IsSearch vs nested x t stack seen) where
    pub top_inside : IsInside vs u
    top_inside = (every_right (IsInside vs) rest (u ∷ []) (subst (Every (IsInside vs)) is h.inside)).0

    pub top_within : IsWithin vs t u
    top_within = (every_right (IsWithin vs t) rest (u ∷ []) (subst (Every (IsWithin vs t)) is h.within)).0

    module _ (ne : u ≢ variable x) (v : IsVisit nested deep seen seen' u) (is' : stack' ≡ rest ++ below vs deep u) where
      closed_before : (R : ℕ → Bool) → IsClosed nested x seen' R → IsClosed nested x seen R
      closed_before R c = record { passed = λ k i. c.passed k (v.kept k i); other = c.other }

      top_of : (R : ℕ → Bool) → IsClosed nested x seen' R → (b : Bool) → nested ≡ b → (k : ℕ) → u ≡ variable k → R k ≡ true
      top_of R c true e k w = c.passed k (v.here e k w)
      top_of R c false e k w = c.other e k (λ j. ne (w ∙ ap variable j))

      stack_before : (R : ℕ → Bool) → IsClosed nested x seen' R → Every (IsOf R) stack' → Every (IsOf R) stack
      stack_before R c e =
          let f = subst (Every (IsOf R)) is' e in
          subst (Every (IsOf R)) (sym is)
          (every_both (IsOf R) rest (u ∷ []) (every_left (IsOf R) rest (below vs deep u) f) (of_below R u (top_of R c nested refl) (every_right (IsOf R) rest (below vs deep u) f), tt))

      behind_now : (R : ℕ → Bool) → IsClosed nested x seen' R → Every (IsOf R) stack' → (k : ℕ) → IsIn seen k ⊎ ((u ≡ variable k) × (deep ≡ true)) → (s : Term) → bound_at vs k ≡ Some s → IsOf R s
      behind_now R c e k (inl i) s b = h.behind R (closed_before R c) (stack_before R c e) k i s b
      behind_now R c e k (inr w) s b = behind_variable R u k s w.0 w.1 b (every_right (IsOf R) rest (below vs deep u) (subst (Every (IsOf R)) is' e))

      apart_now : (k : ℕ) → IsIn seen k ⊎ ((u ≡ variable k) × (deep ≡ true)) → k ≢ x
      apart_now k (inl i) = h.apart k i
      apart_now k (inr w) = λ j. ne (w.0 ∙ ap variable j)

      pub search_step : IsSearch vs nested x t stack' seen'
      search_step = record {
        inside = subst (Every (IsInside vs)) (sym is') (every_both (IsInside vs) rest (below vs deep u) (every_left (IsInside vs) rest (u ∷ []) (subst (Every (IsInside vs)) is h.inside)) (below_inside u top_inside));
        within = subst (Every (IsWithin vs t)) (sym is') (every_both (IsWithin vs t) rest (below vs deep u) (every_left (IsWithin vs t) rest (u ∷ []) (subst (Every (IsWithin vs t)) is h.within)) (below_within t u top_within));
        apart = λ k i. apart_now k (v.only k i);
        enough = λ R c e. h.enough R (closed_before R c) (stack_before R c e);
        behind = λ R c e k i. behind_now R c e k (v.only k i);
      }

-- a popped stack
pub popped : (work rest : List (Bor Ty)) (p : Bor Ty) → work ≡ rest ++ (p ∷ []) → terms work ≡ terms rest ++ (term_of p.now ∷ [])
popped work rest p e = ap terms e ∙ terms-append rest (p ∷ [])

untrue : (b : Bool) → (b ≡ true → ⊥) → b ≡ false
untrue true h = absurd (h refl)
untrue false h = refl

-- the search ends where the stack is empty
pub search_done : (vs : List Variable) (nested : Bool) (x : ℕ) (t : Term) (stack : List Term) (seen : List ℕ) → stack ≡ [] → (nested ≡ false → IsUnnested vs x) → IsSearch vs nested x t stack seen → Avoids vs x t
search_done vs nested x t stack seen is un h = by nested refl
  where
    empty : (R : ℕ → Bool) → Every (IsOf R) stack
    empty R = subst (Every (IsOf R)) (sym is) tt

    behind : IsClosed nested x seen (λ k. list_any (eqb k) seen) → Avoids vs x t
    behind c = record {
      reached = λ k. list_any (eqb k) seen;
      without = untrue (list_any (eqb x) seen) (λ i. h.apart x i refl);
      closed = λ k s e r. h.behind (λ j. list_any (eqb j) seen) c (empty _) k r s e;
      within = h.enough (λ k. list_any (eqb k) seen) c (empty _);
    }

    beside : IsUnnested vs x → IsClosed nested x seen (λ k. not (eqb k x)) → Avoids vs x t
    beside u c = record {
      reached = λ k. not (eqb k x);
      without = ap not (eq-eqb x x refl);
      closed = λ k s e r. InTerm-map (λ n d. ap not (ne_eqb n x d)) (λ _ _. tt) s (u.apart k s e);
      within = h.enough (λ k. not (eqb k x)) c (empty _);
    }

    by : (b : Bool) → nested ≡ b → Avoids vs x t
    by true e = behind (record { passed = λ k i. i; other = λ f. absurd (let g : ◌≡◌ {A = Bool} true false = sym e ∙ f in cc) })
    by false e = beside (un e) (record { passed = λ k i. ap not (ne_eqb k x (h.apart k i)); other = λ f k d. ap not (ne_eqb k x d) })

-- visits

none_visited : (nested : Bool) (seen : List ℕ) (u : Term) → (nested ≡ false) ⊎ ((k : ℕ) → u ≡ variable k → ⊥) → (deep : Bool) → IsVisit nested deep seen seen u
none_visited nested seen u (inl f) deep = record {
  kept = λ k i. i;
  here = λ e. absurd (let g : ◌≡◌ {A = Bool} true false = sym e ∙ f in cc);
  only = λ k i. inl i;
}
none_visited nested seen u (inr n) deep = record { kept = λ k i. i; here = λ e k is. absurd (n k is); only = λ k i. inl i }

pub no_variable_visit : (nested : Bool) (seen : List ℕ) (t : Ty) (deep : Bool) → ((n : ℕ) → t ≡ ty.Var n → ⊥) → IsVisit nested deep seen seen (term_of t)
no_variable_visit nested seen t deep n = none_visited nested seen (term_of t) (inr (λ k. no_variable t k n)) deep

-- x found
pub search_found : (vs : List Variable) (x : ℕ) (t u : Term) → u ≡ variable x → IsWithin vs t u → (a : Assignment) → MeetsBindings vs a → size (a.type_of x) + extra t ≤ size (meaning a t)
search_found vs x t u e h a m =
    let z = ap (λ v. size (meaning a v)) e in
    let y = ap extra e in
    omega (arith, h a m)

-- the search for variables that are not there

abbrev pub IsOverAll : ℕ → ℕ → Term → Type 0
IsOverAll m n t = InTerm (λ k. k < m) (λ k. k < n) t

-- t has all its variables exactly where the terms of the stack have
pub record IsCensus (m n : ℕ) (t : Term) (stack : List Term) : Type 0 where
  pub enough : Every (IsOverAll m n) stack → IsOverAll m n t
  pub needed : IsOverAll m n t → Every (IsOverAll m n) stack

parts_over : (m n : ℕ) (ts : Terms) → InTerms (λ k. k < m) (λ k. k < n) ts → Every (IsOverAll m n) (parts ts)
parts_over m n no_terms h = tt
parts_over m n (one_more t ts) h = (h.0, parts_over m n ts h.1)

over_parts : (m n : ℕ) (ts : Terms) → Every (IsOverAll m n) (parts ts) → InTerms (λ k. k < m) (λ k. k < n) ts
over_parts m n no_terms h = tt
over_parts m n (one_more t ts) h = (h.0, over_parts m n ts h.1)

inside_over : (m n : ℕ) (u : Term) → IsOverAll m n u → Every (IsOverAll m n) (inside u)
inside_over m n (base_term b) h = tt
inside_over m n (list_term u) h = (h, tt)
inside_over m n (tuple_term us) h = parts_over m n us h
inside_over m n (source_term k) h = tt
inside_over m n (variable k) h = tt

over_inside : (m n : ℕ) (u : Term) → IsAmong m n u → Every (IsOverAll m n) (inside u) → IsOverAll m n u
over_inside m n (base_term b) a h = tt
over_inside m n (list_term u) a h = h.0
over_inside m n (tuple_term us) a h = over_parts m n us h
over_inside m n (source_term k) a h = a
over_inside m n (variable k) a h = a

over_among : (m n : ℕ) (u : Term) → IsOverAll m n u → IsAmong m n u
over_among m n (base_term b) h = tt
over_among m n (list_term u) h = tt
over_among m n (tuple_term us) h = tt
over_among m n (source_term k) h = h
over_among m n (variable k) h = h

module _ (m n : ℕ) (t u : Term) (rest stack stack' : List Term) (is : stack ≡ rest ++ (u ∷ [])) (h : IsCensus m n t stack) where
  top_over : IsOverAll m n t → IsOverAll m n u
  top_over o = (every_right (IsOverAll m n) rest (u ∷ []) (subst (Every (IsOverAll m n)) is (h.needed o))).0

  -- a variable that is not there
  pub census_fails : (IsAmong m n u → ⊥) → IsOverAll m n t → ⊥
  census_fails f o = f (over_among m n u (top_over o))

  pub census_step : IsAmong m n u → stack' ≡ rest ++ inside u → IsCensus m n t stack'
  census_step a is' = record {
    enough = λ e.
        let f = subst (Every (IsOverAll m n)) is' e in
        h.enough (subst (Every (IsOverAll m n)) (sym is) (every_both (IsOverAll m n) rest (u ∷ []) (every_left (IsOverAll m n) rest (inside u) f) (over_inside m n u a (every_right (IsOverAll m n) rest (inside u) f), tt)));
    needed = λ o. subst (Every (IsOverAll m n)) (sym is') (every_both (IsOverAll m n) rest (inside u) (every_left (IsOverAll m n) rest (u ∷ []) (subst (Every (IsOverAll m n)) is (h.needed o))) (inside_over m n u (top_over o)));
  }
