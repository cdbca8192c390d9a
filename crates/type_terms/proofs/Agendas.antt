-- What the steps of a comparison do to what is still to be compared.
use Rattle.std.proofs.Common.{◌≡◌, ◌∙◌, sym, ap, ap₂, subst, refl, ℕ, zero, suc, ◌+◌, ◌<◌, ◌≤◌, ◌&&◌, ◌||◌, Bool, eqb, eqb-true, if◌then◌else◌, true, false, length, List, [], ◌∷◌, ◌++◌, arith}
use Rattle.std.specs.Bool.{OnTrue}
use Rattle.std.specs.Borrow.{Bor}
use Rattle.std.specs.List.{list_any}
use Rattle.type_terms.specs.Agenda.{Agenda, AllEqualBelow, EqualBelow, IsTakenUp, TakesUp, pairs_of, variable_pairs}
use Rattle.type_terms.specs.Differ.{Settles}
use Rattle.type_terms.specs.declared.differ.Difference.{Difference}
use Rattle.type_terms.specs.declared.differ.Difference.TheVariants.{Same, Clash, Bind, BindKind}
use Rattle.type_terms.specs.Ground.{Assignment, list, tuple, and_more, size, sizes}
use Rattle.type_terms.specs.Pairs.{AllEqual, AllOver, IsSplit, pairs, part_count, parts_of, zipped}
use Rattle.type_terms.specs.Table.{IsOver, MeetsBindings, Solves, Table, extra}
use Rattle.type_terms.specs.Term.{Term, Terms, base_term, source_term, list_term, meaning, meanings, no_terms, one_more, term_of, tuple_term, variable}
use Rattle.type_terms.specs.declared.ty.Ty.{Ty}
use Rattle.type_terms.proofs.Bindings.{over_after}
use Rattle.type_terms.proofs.Settling.{settles_resolved}
use Rattle.type_terms.proofs.Stack.{equal_both, equal_left, equal_right, over_both, over_left, over_right, pairs-append, pairs_of-append, split_equal, split_over}

below_left : (a : Assignment) (n : ℕ) (xs ys : List (Term × Term)) → AllEqualBelow a n (xs ++ ys) → AllEqualBelow a n xs
below_left a n [] ys h = tt
below_left a n (x ∷ xs) ys h = (h.0, below_left a n xs ys h.1)

below_right : (a : Assignment) (n : ℕ) (xs ys : List (Term × Term)) → AllEqualBelow a n (xs ++ ys) → AllEqualBelow a n ys
below_right a n [] ys h = h
below_right a n (x ∷ xs) ys h = below_right a n xs ys h.1

below_both : (a : Assignment) (n : ℕ) (xs ys : List (Term × Term)) → AllEqualBelow a n xs → AllEqualBelow a n ys → AllEqualBelow a n (xs ++ ys)
below_both a n [] ys h k = k
below_both a n (x ∷ xs) ys h k = (h.0, below_both a n xs ys h.1 k)

zipped_below : (a : Assignment) (n : ℕ) (ts us : Terms) → part_count ts ≡ part_count us → AllEqualBelow a n (zipped ts us) → sizes (meanings a ts) < n → meanings a ts ≡ meanings a us
zipped_below a n no_terms no_terms l h k = refl
zipped_below a n no_terms (one_more u us) l h k = absurd (omega arith)
zipped_below a n (one_more t ts) no_terms l h k = absurd (omega arith)
zipped_below a n (one_more t ts) (one_more u us) l h k = ap₂ and_more (h.0 (omega arith)) (zipped_below a n ts us (omega arith) h.1 (omega arith))

-- two types are equal where their parts are
split_below : (a : Assignment) (n : ℕ) (t u : Term) → IsSplit t u → AllEqualBelow a n (parts_of t u) → EqualBelow a n t u
split_below a n (list_term t) (list_term u) i h k = ap list (h.0 (omega arith))
split_below a n (tuple_term ts) (tuple_term us) i h k = ap tuple (zipped_below a n ts us i h (omega arith))
split_below a n _ _ i h k = absurd i

-- pairs of variables that a set holds

abbrev is_pair : ℕ × ℕ → ℕ × ℕ → Bool
is_pair k l = eqb k.0 l.0 && eqb k.1 l.1

pair_same : (k l : ℕ × ℕ) → is_pair k l ≡ true → k ≡ l
pair_same k l e = ap₂ (λ x y. (x, y)) (eqb-true k.0 l.0 (first (eqb k.0 l.0) (eqb k.1 l.1) e)) (eqb-true k.1 l.1 (second (eqb k.0 l.0) (eqb k.1 l.1) e))
  where
    first : (a b : Bool) → (a && b) ≡ true → a ≡ true
    first true b e = refl
    first false b e = e

    second : (a b : Bool) → (a && b) ≡ true → b ≡ true
    second true b e = e
    second false b e = absurd (let f : ◌≡◌ {A = Bool} false true = e in cc)

found_below : (a : Assignment) (n : ℕ) (ks : List (ℕ × ℕ)) (k : ℕ × ℕ) → list_any (is_pair k) ks ≡ true → AllEqualBelow a n (variable_pairs ks) → EqualBelow a n (variable k.0) (variable k.1)
found_below a n [] k e h = absurd (let f : ◌≡◌ {A = Bool} false true = e in cc)
found_below a n (l ∷ ks) k e h = by (is_pair k l) refl (λ f. found_below a n ks k f h.1)
  where
    by : (b : Bool) → is_pair k l ≡ b → (list_any (is_pair k) ks ≡ true → EqualBelow a n (variable k.0) (variable k.1)) → EqualBelow a n (variable k.0) (variable k.1)
    by true is rest = subst (λ m. EqualBelow a n (variable m.0) (variable m.1)) (sym (pair_same k l is)) h.0
    by false is rest = rest (sym (ap (λ c. c || list_any (is_pair k) ks) is) ∙ e)

-- two variables that the set holds are equal where all its pairs are
pub known_pair : (b : Bool) (ks : List (ℕ × ℕ)) (x y : ℕ) (t u : Term) → t ≡ variable x → u ≡ variable y → b ≡ list_any (λ l. eqb x l.0 && eqb y l.1) ks → OnTrue b ((a : Assignment) (n : ℕ) → AllEqualBelow a n (variable_pairs ks) → EqualBelow a n t u)
known_pair false ks x y t u et eu e = tt
known_pair true ks x y t u et eu e = λ a n h. subst (λ v. EqualBelow a n v u) (sym et) (subst (λ v. EqualBelow a n (variable x) v) (sym eu) (found_below a n ks (x, y) (sym e) h))

noted_below : (a : Assignment) (n : ℕ) (ks : List (ℕ × ℕ)) (k : ℕ × ℕ) → EqualBelow a n (variable k.0) (variable k.1) → AllEqualBelow a n (variable_pairs ks) → AllEqualBelow a n (variable_pairs (ks ++ (k ∷ [])))
noted_below a n [] k e h = (e, tt)
noted_below a n (l ∷ ks) k e h = (h.0, noted_below a n ks k e h.1)

noted_kept : (a : Assignment) (n : ℕ) (ks : List (ℕ × ℕ)) (k : ℕ × ℕ) → AllEqualBelow a n (variable_pairs (ks ++ (k ∷ []))) → AllEqualBelow a n (variable_pairs ks)
noted_kept a n [] k h = tt
noted_kept a n (l ∷ ks) k h = (h.0, noted_kept a n ks k h.1)

pub inserted_kept : (a : Assignment) (n : ℕ) (b : Bool) (ks ks' : List (ℕ × ℕ)) (k : ℕ × ℕ) → ks' ≡ (if b then ks else ks ++ k ∷ []) → AllEqualBelow a n (variable_pairs ks') → AllEqualBelow a n (variable_pairs ks)
inserted_kept a n true ks ks' k e h = subst (λ l. AllEqualBelow a n (variable_pairs l)) e h
inserted_kept a n false ks ks' k e h = noted_kept a n ks k (subst (λ l. AllEqualBelow a n (variable_pairs l)) e h)

pub inserted_below : (a : Assignment) (n : ℕ) (b : Bool) (ks ks' : List (ℕ × ℕ)) (x y : ℕ) (t u : Term) → t ≡ variable x → u ≡ variable y → ks' ≡ (if b then ks else ks ++ (x, y) ∷ []) → ((z : ℕ) → t ≡ variable z → EqualBelow a n t u) → AllEqualBelow a n (variable_pairs ks) → AllEqualBelow a n (variable_pairs ks')
inserted_below a n true ks ks' x y t u et eu e q h = subst (λ l. AllEqualBelow a n (variable_pairs l)) (sym e) h
inserted_below a n false ks ks' x y t u et eu e q h =
    subst (λ l. AllEqualBelow a n (variable_pairs l)) (sym e)
    (noted_below a n ks (x, y) (subst (λ v. EqualBelow a n v (variable y)) et (subst (λ v. EqualBelow a n t v) eu (q x et))) h)

-- steps

-- nothing is put down where the two are equal
pub taken_equal : (s : Table) (g : Agenda) (left right : Term) → ((a : Assignment) (n : ℕ) → Solves a s → AllEqualBelow a n g.seen → EqualBelow a n left right) → IsTakenUp s g g left right
taken_equal s g left right e = record {
  over = λ o. o;
  needed = λ a m d h. h;
  enough = λ a n m h k. e a n m k;
  todo_kept = λ a n h. h;
  seen_kept = λ a n h. h;
  learnt = λ a n m h k l. l;
}

-- nothing is put down where the two are equal at each solution
pub taken_same : (s : Table) (old new : Agenda) (left right : Term) → new ≡ old → ((a : Assignment) → Solves a s → meaning a left ≡ meaning a right) → IsTakenUp s old new left right
taken_same s old new left right same e = subst (λ g. IsTakenUp s old g left right) (sym same) (taken_equal s old left right (λ a n m k z. e a m))

split_extra : (t u : Term) → IsSplit t u → extra t ≡ 1
split_extra (list_term t) (list_term u) i = refl
split_extra (tuple_term ts) (tuple_term us) i = refl
split_extra _ _ i = absurd i

extra_le : (t : Term) → extra t ≤ 1
extra_le (base_term b) = omega arith
extra_le (list_term t) = omega arith
extra_le (tuple_term t) = omega arith
extra_le (source_term t) = omega arith
extra_le (variable t) = omega arith

-- t and u, which are left and right resolved, are put down, since they can be taken apart
pub taken_down : (s : Table) (old new : Agenda) (left right t u : Term) → IsOver s t → IsOver s u → ((a : Assignment) → MeetsBindings s.types a → meaning a t ≡ meaning a left) → ((a : Assignment) → MeetsBindings s.types a → meaning a u ≡ meaning a right) → IsSplit t u → new.todo ≡ old.todo ++ ((t, u) ∷ []) → ((a : Assignment) (n : ℕ) → AllEqualBelow a n new.seen → AllEqualBelow a n old.seen) → ((a : Assignment) (n : ℕ) → ((x : ℕ) → left ≡ variable x → EqualBelow a n left right) → AllEqualBelow a n old.seen → AllEqualBelow a n new.seen) → IsTakenUp s old new left right
taken_down s old new left right t u ot ou tl ur i is known learnt = record {
  over = λ o. subst (AllOver s) (sym is) (over_both s old.todo ((t, u) ∷ []) o ((ot, ou), tt));
  needed = λ a m e h. subst (AllEqual a) (sym is) (equal_both a old.todo ((t, u) ∷ []) h (tl a m.types ∙ e ∙ sym (ur a m.types), tt));
  enough = λ a n m h k l. let x = extra_le left in below a n m h (omega arith);
  todo_kept = λ a n h. below_left a n old.todo ((t, u) ∷ []) (subst (AllEqualBelow a n) is h);
  seen_kept = known;
  learnt = λ a n m h k l. learnt a (suc n) (λ x e z. let y = ap extra e in below a n m h (omega arith)) l;
}
  where
    below : (a : Assignment) (n : ℕ) → Solves a s → AllEqualBelow a n new.todo → size (meaning a left) < n + 1 → meaning a left ≡ meaning a right
    below a n m h k =
        let f = (below_right a n old.todo ((t, u) ∷ []) (subst (AllEqualBelow a n) is h)).0 in
        let z = ap size (tl a m.types) in
        let y = split_extra t u i in
        sym (tl a m.types) ∙ f (omega arith) ∙ ur a m.types

-- the two resolved differ, and nothing is put down
pub taken_resolved : (s : Table) (old new : Agenda) → new ≡ old → (left right t u : Term) → ((a : Assignment) → MeetsBindings s.types a → meaning a t ≡ meaning a left) → ((a : Assignment) → MeetsBindings s.types a → meaning a u ≡ meaning a right) → (d : Difference) → Settles s t u d → TakesUp s old new left right d
taken_resolved s old new same left right t u tl ur d h = by d (settles_resolved s t u left right d tl ur h)
  where
    by : (e : Difference) → Settles s left right e → TakesUp s old new left right e
    by Same k = taken_same s old new left right same k
    by Clash k = k
    by (Bind x v) k = (k, same)
    by (BindKind x v) k = (k, same)

-- two types that are taken apart

-- at a solution left and right are equal where the parts on the stack are, and what is to be compared since
pub record IsPartly (s : Table) (old new : Agenda) (left right : Term) (stack : List (Term × Term)) : Type 0 where
  pub over : AllOver s stack
  pub needed : (a : Assignment) → Solves a s → meaning a left ≡ meaning a right → AllEqual a stack
  pub enough : (a : Assignment) (n : ℕ) → Solves a s → AllEqualBelow a n new.todo → AllEqualBelow a n new.seen → AllEqualBelow a n stack → EqualBelow a n left right
  pub todo_over : AllOver s old.todo → AllOver s new.todo
  pub todo_needed : (a : Assignment) → Solves a s → meaning a left ≡ meaning a right → AllEqual a old.todo → AllEqual a new.todo
  pub todo_kept : (a : Assignment) (n : ℕ) → AllEqualBelow a n new.todo → AllEqualBelow a n old.todo
  pub seen_kept : (a : Assignment) (n : ℕ) → AllEqualBelow a n new.seen → AllEqualBelow a n old.seen
  pub learnt : (a : Assignment) (n : ℕ) → Solves a s → AllEqualBelow a n new.todo → AllEqualBelow a n new.seen → AllEqualBelow a (suc n) old.seen → AllEqualBelow a n stack → AllEqualBelow a (suc n) new.seen

pub partly_start : (s : Table) (g : Agenda) (left right : Term) (stack : List (Term × Term)) → stack ≡ (left, right) ∷ [] → IsOver s left → IsOver s right → IsPartly s g g left right stack
partly_start s g left right stack is o p = record {
  over = subst (AllOver s) (sym is) ((o, p), tt);
  needed = λ a m e. subst (AllEqual a) (sym is) (e, tt);
  enough = λ a n m h k l. (subst (AllEqualBelow a n) is l).0;
  todo_over = λ o. o;
  todo_needed = λ a m e h. h;
  todo_kept = λ a n h. h;
  seen_kept = λ a n h. h;
  learnt = λ a n m h k l j. l;
}

pub partly_done : (s : Table) (old new : Agenda) (left right : Term) (stack : List (Term × Term)) → stack ≡ [] → IsPartly s old new left right stack → IsTakenUp s old new left right
partly_done s old new left right stack is h = record {
  over = h.todo_over;
  needed = h.todo_needed;
  enough = λ a n m d k. h.enough a n m d k (empty a n);
  todo_kept = h.todo_kept;
  seen_kept = h.seen_kept;
  learnt = λ a n m d k l. h.learnt a n m d k l (empty a n);
}
  where
    empty : (a : Assignment) (n : ℕ) → AllEqualBelow a n stack
    empty a n = subst (AllEqualBelow a n) (sym is) tt

-- the pair of parts on top of the stack
module _ (s : Table) (old new : Agenda) (left right l r : Term) (rest stack stack' : List (Term × Term)) (is : stack ≡ rest ++ ((l, r) ∷ [])) (h : IsPartly s old new left right stack) where
  pub part_over : IsOver s l × IsOver s r
  part_over = (over_right s rest ((l, r) ∷ []) (subst (AllOver s) is h.over)).0

  parts_over : AllOver s rest
  parts_over = over_left s rest ((l, r) ∷ []) (subst (AllOver s) is h.over)

  pub part_needed : (a : Assignment) → Solves a s → meaning a left ≡ meaning a right → meaning a l ≡ meaning a r
  part_needed a m e = (equal_right a rest ((l, r) ∷ []) (subst (AllEqual a) is (h.needed a m e))).0

  parts_needed : (a : Assignment) → Solves a s → meaning a left ≡ meaning a right → AllEqual a rest
  parts_needed a m e = equal_left a rest ((l, r) ∷ []) (subst (AllEqual a) is (h.needed a m e))

  with_part : (a : Assignment) (n : ℕ) → AllEqualBelow a n rest → EqualBelow a n l r → AllEqualBelow a n stack
  with_part a n d e = subst (AllEqualBelow a n) (sym is) (below_both a n rest ((l, r) ∷ []) d (e, tt))

  -- it is taken apart
  pub partly_split : IsSplit l r → stack' ≡ rest ++ parts_of l r → IsPartly s old new left right stack'
  partly_split i is' = record {
    over = subst (AllOver s) (sym is') (over_both s rest (parts_of l r) parts_over (split_over s l r i part_over.0 part_over.1));
    needed = λ a m e. subst (AllEqual a) (sym is') (equal_both a rest (parts_of l r) (parts_needed a m e) (split_equal a l r i (part_needed a m e)));
    enough = λ a n m d k j. h.enough a n m d k (stack_below a n j);
    todo_over = h.todo_over;
    todo_needed = h.todo_needed;
    todo_kept = h.todo_kept;
    seen_kept = h.seen_kept;
    learnt = λ a n m d k b j. h.learnt a n m d k b (stack_below a n j);
  }
    where
      stack_below : (a : Assignment) (n : ℕ) → AllEqualBelow a n stack' → AllEqualBelow a n stack
      stack_below a n j =
          let f = subst (AllEqualBelow a n) is' j in
          with_part a n (below_left a n rest (parts_of l r) f) (split_below a n l r i (below_right a n rest (parts_of l r) f))

  -- it is taken up, in a later table that solves no more
  module _ (s' : Table) (newer : Agenda) (is' : stack' ≡ rest) (ts : length s'.types ≡ length s.types) (ks : length s'.kinds ≡ length s.kinds) (narrower : (a : Assignment) → Solves a s' → Solves a s) (t : IsTakenUp s' new newer l r) where
    all_later : (ps : List (Term × Term)) → AllOver s ps → AllOver s' ps
    all_later [] o = tt
    all_later (p ∷ ps) o = ((over_after s s' ts ks p.0 o.0.0, over_after s s' ts ks p.1 o.0.1), all_later ps o.1)

    all_before : (ps : List (Term × Term)) → AllOver s' ps → AllOver s ps
    all_before [] o = tt
    all_before (p ∷ ps) o = ((over_after s' s (sym ts) (sym ks) p.0 o.0.0, over_after s' s (sym ts) (sym ks) p.1 o.0.1), all_before ps o.1)

    stack_now : (a : Assignment) (n : ℕ) → Solves a s' → AllEqualBelow a n newer.todo → AllEqualBelow a n newer.seen → AllEqualBelow a n stack' → AllEqualBelow a n stack
    stack_now a n m d k j = with_part a n (subst (AllEqualBelow a n) is' j) (t.enough a n m d k)

    pub partly_step : IsPartly s' old newer left right stack'
    partly_step = record {
      over = subst (AllOver s') (sym is') (all_later rest parts_over);
      needed = λ a m e. subst (AllEqual a) (sym is') (parts_needed a (narrower a m) e);
      enough = λ a n m d k j. h.enough a n (narrower a m) (t.todo_kept a n d) (t.seen_kept a n k) (stack_now a n m d k j);
      todo_over = λ o. t.over (all_later new.todo (h.todo_over (all_before old.todo o)));
      todo_needed = λ a m e d. t.needed a m (part_needed a (narrower a m) e) (h.todo_needed a (narrower a m) e d);
      todo_kept = λ a n d. h.todo_kept a n (t.todo_kept a n d);
      seen_kept = λ a n k. h.seen_kept a n (t.seen_kept a n k);
      learnt = λ a n m d k b j. t.learnt a n m d k (h.learnt a n (narrower a m) (t.todo_kept a n d) (t.seen_kept a n k) b (stack_now a n m d k j));
    }

-- popped stacks
pub popped_parts : (work rest : List (Bor Ty × Bor Ty)) (p : Bor Ty × Bor Ty) → work ≡ rest ++ (p ∷ []) → pairs work ≡ pairs rest ++ ((term_of p.0.now, term_of p.1.now) ∷ [])
popped_parts work rest p e = ap pairs e ∙ pairs-append rest (p ∷ [])

-- the whole comparison

-- at a solution the two types are equal where all that is to be compared is, and what was taken apart is equal where smaller pairs are
pub record IsComparison (s : Table) (left right : Term) (g : Agenda) : Type 0 where
  pub over : AllOver s g.todo
  pub needed : (a : Assignment) → Solves a s → meaning a left ≡ meaning a right → AllEqual a g.todo
  pub enough : (a : Assignment) (n : ℕ) → Solves a s → AllEqualBelow a n g.todo → AllEqualBelow a n g.seen → EqualBelow a n left right
  pub learnt : (a : Assignment) (n : ℕ) → Solves a s → AllEqualBelow a n g.todo → AllEqualBelow a n g.seen → AllEqualBelow a (suc n) g.seen

pub comparison_start : (s : Table) (left right : Term) (g : Agenda) → g.todo ≡ (left, right) ∷ [] → g.seen ≡ [] → IsOver s left → IsOver s right → IsComparison s left right g
comparison_start s left right g is none o p = record {
  over = subst (AllOver s) (sym is) ((o, p), tt);
  needed = λ a m e. subst (AllEqual a) (sym is) (e, tt);
  enough = λ a n m h k. (subst (AllEqualBelow a n) is h).0;
  learnt = λ a n m h k. subst (AllEqualBelow a (suc n)) (sym none) tt;
}

-- a popped stack
pub popped_pair : (work rest : List (Ty × Ty)) (p : Ty × Ty) → work ≡ rest ++ (p ∷ []) → pairs_of work ≡ pairs_of rest ++ ((term_of p.0, term_of p.1) ∷ [])
popped_pair work rest p e = ap pairs_of e ∙ pairs_of-append rest (p ∷ [])

-- the pair on top of the stack
module _ (s : Table) (left right l r : Term) (rest : List (Term × Term)) (g : Agenda) (is : g.todo ≡ rest ++ ((l, r) ∷ [])) (h : IsComparison s left right g) where
  pub top_over : IsOver s l × IsOver s r
  top_over = (over_right s rest ((l, r) ∷ []) (subst (AllOver s) is h.over)).0

  rest_over : AllOver s rest
  rest_over = over_left s rest ((l, r) ∷ []) (subst (AllOver s) is h.over)

  pub top_needed : (a : Assignment) → Solves a s → meaning a left ≡ meaning a right → meaning a l ≡ meaning a r
  top_needed a m e = (equal_right a rest ((l, r) ∷ []) (subst (AllEqual a) is (h.needed a m e))).0

  rest_needed : (a : Assignment) → Solves a s → meaning a left ≡ meaning a right → AllEqual a rest
  rest_needed a m e = equal_left a rest ((l, r) ∷ []) (subst (AllEqual a) is (h.needed a m e))

  -- the pair is taken up, in a later table that solves no more
  module _ (s' : Table) (g' new : Agenda) (todo : g'.todo ≡ rest) (seen : g'.seen ≡ g.seen) (ts : length s'.types ≡ length s.types) (ks : length s'.kinds ≡ length s.kinds) (narrower : (a : Assignment) → Solves a s' → Solves a s) (t : IsTakenUp s' g' new l r) where
    old_todo : (a : Assignment) (n : ℕ) → Solves a s' → AllEqualBelow a n new.todo → AllEqualBelow a n new.seen → AllEqualBelow a n g.todo
    old_todo a n m d k =
        subst (AllEqualBelow a n) (sym is) (below_both a n rest ((l, r) ∷ []) (subst (AllEqualBelow a n) todo (t.todo_kept a n d)) (t.enough a n m d k, tt))

    old_seen : (a : Assignment) (n : ℕ) → AllEqualBelow a n new.seen → AllEqualBelow a n g.seen
    old_seen a n k = subst (AllEqualBelow a n) seen (t.seen_kept a n k)

    over_later : (ps : List (Term × Term)) → AllOver s ps → AllOver s' ps
    over_later [] o = tt
    over_later (p ∷ ps) o = ((over_after s s' ts ks p.0 o.0.0, over_after s s' ts ks p.1 o.0.1), over_later ps o.1)

    pub comparison_step : IsComparison s' left right new
    comparison_step = record {
      over = t.over (subst (AllOver s') (sym todo) (over_later rest rest_over));
      needed = λ a m e. t.needed a m (top_needed a (narrower a m) e) (subst (AllEqual a) (sym todo) (rest_needed a (narrower a m) e));
      enough = λ a n m d k. h.enough a n (narrower a m) (old_todo a n m d k) (old_seen a n k);
      learnt = λ a n m d k. t.learnt a n m d k (subst (AllEqualBelow a (suc n)) (sym seen) (h.learnt a n (narrower a m) (old_todo a n m d k) (old_seen a n k)));
    }

none_below : (a : Assignment) (ks : List (ℕ × ℕ)) → AllEqualBelow a 0 (variable_pairs ks)
none_below a [] = tt
none_below a (k ∷ ks) = ((λ h. absurd (omega arith)), none_below a ks)

-- nothing is left to compare
pub comparison_done : (s : Table) (left right : Term) (g : Agenda) (ks : List (ℕ × ℕ)) → g.seen ≡ variable_pairs ks → g.todo ≡ [] → IsComparison s left right g → (a : Assignment) → Solves a s → meaning a left ≡ meaning a right
comparison_done s left right g ks is none h a m = h.enough a (suc (size (meaning a left))) m (empty (suc (size (meaning a left)))) (all (suc (size (meaning a left)))) (omega arith)
  where
    empty : (n : ℕ) → AllEqualBelow a n g.todo
    empty n = subst (AllEqualBelow a n) (sym none) tt

    all : (n : ℕ) → AllEqualBelow a n g.seen
    all zero = subst (AllEqualBelow a 0) (sym is) (none_below a ks)
    all (suc n) = h.learnt a n m (empty n) (all n)
