-- Marks that are kept as runs.
use Rattle.std.proofs.Common.{◌≡◌, ◌<◌, ◌≤◌, ◌+◌, ◌-◌, ◌∙◌, ◌++◌, ℕ, zero, suc, Bool, true, false, not, ◌&&◌, List, [], ◌∷◌, Option, Some, length, nat_eq, drop, replicate, slice_get, arith, ap, refl, sym, subst, append-nil, append_assoc, length-append, true≢false}
use Rattle.std.proofs.lemmas.Bool.Decides.{nat_tests}
use Rattle.std.proofs.lemmas.List.{length-replicate, replicate-append-replicate}
use Rattle.frame_core.specs.declared.cell.CellMark.{CellMark}
use Rattle.frame_core.specs.declared.cell.MarkRun.{MarkRun}
use Rattle.frame_core.specs.MarkRuns.{AreTight, IsApart, joins, mark_at, marks_in, run_marks}

abbrev pub inner_mark : ℕ → CellMark
inner_mark title = record { first = false; title = title }

-- a list without tracks that begin
pub inner_marks : (title count : ℕ) → run_marks false title count ≡ replicate count (inner_mark title)
inner_marks title zero = refl
inner_marks title (suc n) = refl

pub length-run : (first : Bool) (title count : ℕ) → length (run_marks first title count) ≡ count
length-run first title zero = refl
length-run first title (suc n) = ap suc (length-replicate n (inner_mark title))

pub marks-append : (xs ys : List MarkRun) → marks_in (xs ++ ys) ≡ marks_in xs ++ marks_in ys
marks-append [] ys = refl
marks-append (x ∷ xs) ys =
    ap (λ l. run_marks x.first x.title x.count ++ l) (marks-append xs ys) ∙ sym (append_assoc (run_marks x.first x.title x.count) (marks_in xs) (marks_in ys))

-- two runs of one title are one
pub joined : (first : Bool) (title n m : ℕ) → 0 < n → run_marks first title n ++ run_marks false title m ≡ run_marks first title (n + m)
joined first title zero m lt = absurd (omega (arith, lt))
joined first title (suc n) m lt =
    let on : suc n + m ≡ suc (n + m) = omega arith in
    ap (λ l. record { first = first; title = title } ∷ (replicate n (inner_mark title) ++ l)) (inner_marks title m)
    ∙ ap (λ l. record { first = first; title = title } ∷ l) (replicate-append-replicate n m (inner_mark title))
    ∙ sym (ap (run_marks first title) on)

pub not_zero : (n : ℕ) → nat_eq (suc n) 0 ≡ false
not_zero n = by (nat_eq (suc n) 0) refl
  where
    by : (same : Bool) → nat_eq (suc n) 0 ≡ same → nat_eq (suc n) 0 ≡ false
    by false e = e
    by true e = let wrong : suc n ≡ 0 = grind (arith, nat_tests) in absurd (omega (arith, wrong))

-- what a mark at a place begins
pub first_at : (first : Bool) → first && nat_eq 0 0 ≡ first
first_at false = refl
first_at true = refl

pub first_past : (first : Bool) (n : ℕ) → first && nat_eq (suc n) 0 ≡ false
first_past false n = refl
first_past true n = not_zero n

-- the mark of a run at a place
pub run_there : (run : MarkRun) (at : ℕ) → at < run.count → slice_get (run_marks run.first run.title run.count) at ≡ Some (mark_at run at)
run_there run at lt = by run.first run.title run.count at lt
  where
    inner : (title n at : ℕ) → at < n → slice_get (replicate n (inner_mark title)) at ≡ Some (inner_mark title)
    inner title zero at lt = absurd (omega (arith, lt))
    inner title (suc n) zero lt = refl
    inner title (suc n) (suc at) lt = inner title n at (omega (arith, lt))

    by : (first : Bool) (title count at : ℕ) → at < count → slice_get (run_marks first title count) at ≡ Some (record { first = first && nat_eq at 0; title = title })
    by first title zero at lt = absurd (omega (arith, lt))
    by first title (suc n) zero lt = ap (λ b. Some (record { first = b; title = title })) (sym (first_at first))
    by first title (suc n) (suc at) lt = inner title n at (omega (arith, lt)) ∙ ap (λ b. Some (record { first = b; title = title })) (sym (first_past first at))

-- an item of a list, and what is behind it
pub item_and_rest : {X : Type 0} (xs : List X) (at : ℕ) (x : X) → slice_get xs at ≡ Some x → drop at xs ≡ x ∷ drop (at + 1) xs
item_and_rest [] at x is = cc is
item_and_rest (y ∷ xs) zero x is = cc is
item_and_rest (y ∷ xs) (suc at) x is = let on : suc at + 1 ≡ suc (at + 1) = omega arith in item_and_rest xs at x is ∙ ap (λ n. x ∷ drop n (y ∷ xs)) (sym on)

-- the mark at a place of a run, and one behind it
pub in_run : (run : MarkRun) (behind : List CellMark) (at : ℕ) → at < run.count → slice_get (run_marks run.first run.title run.count ++ behind) at ≡ Some (mark_at run at)
in_run run behind at lt =
    within (run_marks run.first run.title run.count) at (omega (arith, lt, length-run run.first run.title run.count)) ∙ run_there run at lt
  where
    within : (xs : List CellMark) (at : ℕ) → at < length xs → slice_get (xs ++ behind) at ≡ slice_get xs at
    within [] at lt = absurd (omega (arith, lt))
    within (x ∷ xs) zero lt = refl
    within (x ∷ xs) (suc at) lt = within xs at (omega (arith, lt))

pub behind_run : (run : MarkRun) (behind : List CellMark) (at : ℕ) → run.count ≤ at → slice_get (run_marks run.first run.title run.count ++ behind) at ≡ slice_get behind (at - run.count)
behind_run run behind at le =
    let long = length-run run.first run.title run.count in
    past (run_marks run.first run.title run.count) at (omega (arith, le, long)) ∙ ap (λ n. slice_get behind (at - n)) long
  where
    past : (xs : List CellMark) (at : ℕ) → length xs ≤ at → slice_get (xs ++ behind) at ≡ slice_get behind (at - length xs)
    past [] at le = let same : at ≡ at - 0 = omega arith in ap (slice_get behind) same
    past (x ∷ xs) zero le = absurd (omega (arith, le))
    past (x ∷ xs) (suc at) le =
        let same : at - length xs ≡ suc at - suc (length xs) = omega arith in
        past xs at (omega (arith, le)) ∙ ap (slice_get behind) same

-- a run that goes on with another one
pub joins_by : (last run : MarkRun) → joins last run ≡ true → (run.first ≡ false) × (last.title ≡ run.title)
joins_by last run it = by run.first (nat_eq last.title run.title) refl refl it
  where
    by : (first same : Bool) → run.first ≡ first → nat_eq last.title run.title ≡ same → not first && same ≡ true → (run.first ≡ false) × (last.title ≡ run.title)
    by true same f e y = absurd (true≢false (sym y))
    by false true f e y = (f, grind (arith, nat_tests))
    by false false f e y = absurd (true≢false (sym y))

joins_if : (last run : MarkRun) → run.first ≡ false → run.title ≡ last.title → joins last run ≡ true
joins_if last run f i =
    let same : nat_eq last.title last.title ≡ true = grind (arith, nat_tests) in
    ap (λ b. not b && nat_eq last.title run.title) f ∙ ap (λ n. nat_eq last.title n) i ∙ same

-- there are no more runs than marks
pub few_runs : (xs : List MarkRun) → AreTight xs → length xs ≤ length (marks_in xs)
few_runs [] t = omega arith
few_runs (x ∷ xs) t =
    omega (arith, t.0, few_runs xs t.2, length-append (run_marks x.first x.title x.count) (marks_in xs), length-run x.first x.title x.count)

-- the last run of some
last_some : (xs : List MarkRun) (x : MarkRun) → AreTight (xs ++ x ∷ []) → 0 < x.count
last_some [] x t = t.0
last_some (y ∷ xs) x t = last_some xs x t.2

tight_longer : (xs : List MarkRun) (x : MarkRun) (n : ℕ) → AreTight (xs ++ x ∷ []) → 0 < n → AreTight (xs ++ record { first = x.first; title = x.title; count = n } ∷ [])
tight_longer [] x n t more = (more, tt, tt)
tight_longer (p ∷ []) x n t more = (t.0, t.1, (more, tt, tt))
tight_longer (p ∷ q ∷ xs) x n t more = (t.0, t.1, tight_longer (q ∷ xs) x n t.2 more)

tight_more : (xs : List MarkRun) (x y : MarkRun) → AreTight (xs ++ x ∷ []) → joins x y ≡ false → 0 < y.count → AreTight ((xs ++ x ∷ []) ++ y ∷ [])
tight_more [] x y t apart more = (t.0, apart, (more, tt, tt))
tight_more (p ∷ []) x y t apart more = (t.0, t.1, tight_more [] x y t.2 apart more)
tight_more (p ∷ q ∷ xs) x y t apart more = (t.0, t.1, tight_more (q ∷ xs) x y t.2 apart more)

marks_and_last : (xs : List MarkRun) (x : MarkRun) → marks_in (xs ++ x ∷ []) ≡ marks_in xs ++ run_marks x.first x.title x.count
marks_and_last xs x = marks-append xs (x ∷ []) ∙ ap (λ l. marks_in xs ++ l) (append-nil (run_marks x.first x.title x.count))

-- a run is pushed behind the last one, or lengthens it
module _ (front items now : List MarkRun) (last run : MarkRun) (cut : items ≡ front ++ last ∷ []) (tight : AreTight items) (more : 0 < run.count) where
  tight_cut : AreTight (front ++ last ∷ [])
  tight_cut = subst AreTight cut tight

  pub last_within : length (marks_in items) ≡ length (marks_in front) + last.count
  last_within =
      ap (λ xs. length (marks_in xs)) cut ∙ ap length (marks_and_last front last)
      ∙ length-append (marks_in front) (run_marks last.first last.title last.count)
      ∙ ap (λ n. length (marks_in front) + n) (length-run last.first last.title last.count)

  pub pushed_marks : now ≡ (front ++ last ∷ []) ++ run ∷ [] → marks_in now ≡ marks_in items ++ run_marks run.first run.title run.count
  pushed_marks is =
      ap marks_in is ∙ marks_and_last (front ++ last ∷ []) run
      ∙ ap (λ xs. marks_in xs ++ run_marks run.first run.title run.count) (sym cut)

  pub pushed_tight : now ≡ (front ++ last ∷ []) ++ run ∷ [] → joins last run ≡ false → AreTight now
  pushed_tight is apart = subst AreTight (sym is) (tight_more front last run tight_cut apart more)

  module _ (is : now ≡ front ++ record { first = last.first; title = last.title; count = last.count + run.count } ∷ []) where
    pub joined_marks : joins last run ≡ true → marks_in now ≡ marks_in items ++ run_marks run.first run.title run.count
    joined_marks it =
        let by = joins_by last run it in
        ap marks_in is ∙ marks_and_last front (record { first = last.first; title = last.title; count = last.count + run.count })
        ∙ ap (λ l. marks_in front ++ l) (sym (joined last.first last.title last.count run.count (last_some front last tight_cut)))
        ∙ ap (λ t. marks_in front ++ (run_marks last.first last.title last.count ++ run_marks false t run.count)) by.1
        ∙ ap (λ f. marks_in front ++ (run_marks last.first last.title last.count ++ run_marks f run.title run.count)) (sym by.0)
        ∙ sym (append_assoc (marks_in front) (run_marks last.first last.title last.count) (run_marks run.first run.title run.count))
        ∙ ap (λ l. l ++ run_marks run.first run.title run.count) (sym (marks_and_last front last))
        ∙ ap (λ xs. marks_in xs ++ run_marks run.first run.title run.count) (sym cut)

    pub joined_tight : AreTight now
    joined_tight = subst AreTight (sym is) (tight_longer front last (last.count + run.count) tight_cut (omega (arith, more)))

-- marks that do not go on with a title
abbrev StopsAt : ℕ → List CellMark → Type 0
StopsAt title marks = slice_get marks 0 ≡ Some (inner_mark title) → ⊥

head_mark : (first : Bool) (title count : ℕ) (behind : List CellMark) → 0 < count → slice_get (run_marks first title count ++ behind) 0 ≡ Some (record { first = first; title = title })
head_mark first title zero behind more = absurd (omega (arith, more))
head_mark first title (suc n) behind more = refl

stops_behind : (run : MarkRun) (runs : List MarkRun) → IsApart run runs → AreTight runs → StopsAt run.title (marks_in runs)
stops_behind run [] apart tight = λ is. absurd cc
stops_behind run (next ∷ runs) apart tight = λ is.
    let there : Some (record { first = next.first; title = next.title }) ≡ Some (inner_mark run.title) =
    sym (head_mark next.first next.title next.count (marks_in runs) tight.0) ∙ is in
    let same : record { first = next.first; title = next.title } ≡ inner_mark run.title = cc in
    true≢false (sym (joins_if run next (ap (λ (m : CellMark). m.first) same) (ap (λ (m : CellMark). m.title) same)) ∙ apart)

inner_same : (title n m : ℕ) (one other : List CellMark) → StopsAt title one → StopsAt title other
    → replicate n (inner_mark title) ++ one ≡ replicate m (inner_mark title) ++ other → (n ≡ m) × (one ≡ other)
inner_same title zero zero one other s t is = (refl, is)
inner_same title zero (suc m) one other s t is = absurd (s (ap (λ l. slice_get l 0) is))
inner_same title (suc n) zero one other s t is = absurd (t (sym (ap (λ l. slice_get l 0) is)))
inner_same title (suc n) (suc m) one other s t is =
    let rest = inner_same title n m one other s t (ap (drop 1) is) in (ap suc rest.0, rest.1)

run_same : (first first_too : Bool) (title title_too n m : ℕ) (one other : List CellMark) → 0 < n → 0 < m → StopsAt title one → StopsAt title_too other
    → run_marks first title n ++ one ≡ run_marks first_too title_too m ++ other
    → (first ≡ first_too) × (title ≡ title_too) × (n ≡ m) × (one ≡ other)
run_same first first_too title title_too zero m one other p q s t is = absurd (omega (arith, p))
run_same first first_too title title_too (suc n) zero one other p q s t is = absurd (omega (arith, q))
run_same first first_too title title_too (suc n) (suc m) one other p q s t is =
    let there : ◌≡◌ {A = Option CellMark} (Some (record { first = first; title = title })) (Some (record { first = first_too; title = title_too })) = ap (λ (l : List CellMark). slice_get l 0) is in
    let head : ◌≡◌ {A = CellMark} (record { first = first; title = title }) (record { first = first_too; title = title_too }) = cc in
    let named : title ≡ title_too = ap (λ (m : CellMark). m.title) head in
    let tail : replicate n (inner_mark title) ++ one ≡ replicate m (inner_mark title_too) ++ other = ap (drop 1) is in
    let rest = inner_same title n m one other s (subst (λ k. StopsAt k other) (sym named) t) (tail ∙ ap (λ k. replicate m (inner_mark k) ++ other) (sym named)) in
    (ap (λ (m : CellMark). m.first) head, named, ap suc rest.0, rest.1)

no_marks : (x : MarkRun) (xs : List MarkRun) → 0 < x.count → [] ≡ marks_in (x ∷ xs) → ⊥
no_marks x xs some is =
    omega (arith, some, ap length is, length-append (run_marks x.first x.title x.count) (marks_in xs), length-run x.first x.title x.count)

-- there is one way to keep marks as runs of which none goes on with the one before it
pub tight_same : (xs ys : List MarkRun) → AreTight xs → AreTight ys → marks_in xs ≡ marks_in ys → xs ≡ ys
tight_same [] [] s t is = refl
tight_same [] (y ∷ ys) s t is = absurd (no_marks y ys t.0 is)
tight_same (x ∷ xs) [] s t is = absurd (no_marks x xs s.0 (sym is))
tight_same (x ∷ xs) (y ∷ ys) s t is =
    let it = run_same x.first y.first x.title y.title x.count y.count (marks_in xs) (marks_in ys) s.0 t.0 (stops_behind x xs s.1 s.2) (stops_behind y ys t.1 t.2) is in
    let run : x ≡ y =
    ap (λ f. record { first = f; title = x.title; count = x.count }) it.0
    ∙ ap (λ k. record { first = y.first; title = k; count = x.count }) it.1
    ∙ ap (λ n. record { first = y.first; title = y.title; count = n }) it.2 in
    ap (λ z. z ∷ xs) run ∙ ap (λ zs. y ∷ zs) (tight_same xs ys s.2 t.2 it.3)
