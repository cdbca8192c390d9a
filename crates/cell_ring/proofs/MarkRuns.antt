-- Marks that are kept as runs.
use Rattle.std.proofs.Common.{◌≡◌, ◌<◌, ◌≤◌, ◌+◌, ◌-◌, ◌∙◌, ◌++◌, ℕ, zero, suc, Bool, true, false, ◌&&◌, List, [], ◌∷◌, Some, None, length, nat_eq, nat_lt, take, drop, slice_get, arith, ap, refl, sym, append-nil, append_assoc, length-append, drop-drop, subst, take_all, true≢false}
use Rattle.std.proofs.lemmas.List.{drop_all, drop-replicate}
use Rattle.std.proofs.lemmas.Bool.Decides.{nat_tests}
use Rattle.std.proofs.lemmas.Option.{slice_get_past}
use Rattle.circular_buffer.specs.Buffer.{Buffer, buffer, keep_last}
use Rattle.circular_buffer.proofs.Places.{slice_get-append_left, slice_get-drop}
use Rattle.frame_core.specs.declared.cell.CellMark.{CellMark}
use Rattle.frame_core.specs.declared.cell.MarkRun.{MarkRun}
use Rattle.cell_ring.specs.declared.mark_ring.Found.{Found}
use Rattle.frame_core.specs.MarkRuns.{joins, mark_at, marks_in, run_marks}
use Rattle.frame_core.proofs.MarkRuns.{inner_mark, inner_marks, item_and_rest, joined, joins_by, length-run, first_at, first_past, marks-append, not_zero, run_there}
use Rattle.cell_ring.specs.MarkRuns.{AreSome, Walked, mark_of, passing, rest_run}
use Rattle.cell_ring.specs.Rings.{Runs}
use Rattle.cell_ring.proofs.Moves.{lane_more}
use Rattle.cell_ring.proofs.Parts.{drop-parts}

pub some-append : (xs ys : List MarkRun) → AreSome xs → AreSome ys → AreSome (xs ++ ys)
some-append [] ys s t = t
some-append (x ∷ xs) ys s t = (s.0, some-append xs ys s.1 t)

pub some-take : (n : ℕ) (xs : List MarkRun) → AreSome xs → AreSome (take n xs)
some-take zero xs s = tt
some-take (suc n) [] s = tt
some-take (suc n) (x ∷ xs) s = (s.0, some-take n xs s.1)

-- there are no more runs than marks
pub few_runs : (xs : List MarkRun) → AreSome xs → length xs ≤ length (marks_in xs)
few_runs [] s = omega arith
few_runs (x ∷ xs) s =
    omega (arith, s.0, few_runs xs s.1, length-append (run_marks x.first x.title x.count) (marks_in xs), length-run x.first x.title x.count)

-- the first mark
pub first_of : (xs : List MarkRun) → AreSome xs → mark_of (slice_get xs 0) ≡ slice_get (marks_in xs) 0
first_of [] s = refl
first_of (x ∷ xs) s = by x.count s.0
  where
    by : (count : ℕ) → 0 < count → Some (record { first = x.first; title = x.title }) ≡ slice_get (run_marks x.first x.title count ++ marks_in xs) 0
    by zero lt = absurd (omega (arith, lt))
    by (suc n) lt = refl

-- the list before its last item
pub cut_last : {X : Type 0} (xs : List X) (x : X) → slice_get xs (length xs - 1) ≡ Some x → xs ≡ take (length xs - 1) xs ++ x ∷ []
cut_last xs x is = by xs x is
  where
    by : {X : Type 0} (xs : List X) (x : X) → slice_get xs (length xs - 1) ≡ Some x → xs ≡ take (length xs - 1) xs ++ x ∷ []
    by [] x is = cc is
    by (y ∷ []) x is = cc is
    by (y ∷ z ∷ xs) x is =
        let on : length (y ∷ z ∷ xs) - 1 ≡ suc (length (z ∷ xs) - 1) = omega arith in
        ap (λ l. y ∷ l) (by (z ∷ xs) x (ap (λ n. slice_get (y ∷ z ∷ xs) n) (sym on) ∙ is))
        ∙ sym (ap (λ n. take n (y ∷ z ∷ xs) ++ x ∷ []) on)

-- a run within another one
pub run_rest : (first : Bool) (title count n : ℕ) → 0 < n → drop n (run_marks first title count) ≡ run_marks false title (count - n)
run_rest first title count zero lt = absurd (omega (arith, lt))
run_rest first title zero (suc n) lt = let none : 0 - suc n ≡ 0 = omega arith in sym (ap (run_marks false title) none)
run_rest first title (suc count) (suc n) lt =
    let same : count - n ≡ suc count - suc n = omega arith in
    drop-replicate n count (inner_mark title) ∙ sym (inner_marks title (count - n)) ∙ ap (run_marks false title) same

-- marks go with their run
pub run_gone : (first : Bool) (title count n : ℕ) (marks : List CellMark) → count ≤ n → drop n (run_marks first title count ++ marks) ≡ drop (n - count) marks
run_gone first title count n marks le =
    let long = length-run first title count in
    let same : n - length (run_marks first title count) ≡ n - count = omega (arith, long) in
    sym (drop-parts (run_marks first title count) marks n)
    ∙ ap (λ l. l ++ drop (n - length (run_marks first title count)) marks) (drop_all n (run_marks first title count) (omega (arith, long, le)))
    ∙ ap (λ m. drop m marks) same

-- some marks of a run go
pub run_shorter : (first : Bool) (title count n : ℕ) (marks : List CellMark) → 0 < n → n ≤ count → drop n (run_marks first title count ++ marks) ≡ run_marks false title (count - n) ++ marks
run_shorter first title count n marks lt le =
    let long = length-run first title count in
    let none : n - length (run_marks first title count) ≡ 0 = omega (arith, long, le) in
    sym (drop-parts (run_marks first title count) marks n)
    ∙ ap (λ m. drop n (run_marks first title count) ++ drop m marks) none
    ∙ ap (λ l. l ++ marks) (run_rest first title count n lt)

-- runs without some of their first marks
pub run_skipped : (runs : List MarkRun) (run : MarkRun) (at skip : ℕ) → slice_get runs at ≡ Some run → run.count ≤ skip
    → drop (skip - run.count) (marks_in (drop (at + 1) runs)) ≡ drop skip (marks_in (drop at runs))
run_skipped runs run at skip is le =
    sym (ap (λ l. drop skip (marks_in l)) (item_and_rest runs at run is) ∙ run_gone run.first run.title run.count skip (marks_in (drop (at + 1) runs)) le)

pub run_cut : (runs : List MarkRun) (run : MarkRun) (at skip : ℕ) → slice_get runs at ≡ Some run → skip < run.count
    → let rest = rest_run run skip in drop skip (marks_in (drop at runs)) ≡ run_marks rest.first rest.title rest.count ++ marks_in (drop (at + 1) runs)
run_cut runs run at skip is lt = ap (λ l. drop skip (marks_in l)) (item_and_rest runs at run is) ∙ by skip lt
  where
    behind : List CellMark
    behind = marks_in (drop (at + 1) runs)

    by : (skip : ℕ) → skip < run.count → drop skip (run_marks run.first run.title run.count ++ behind) ≡ run_marks (run.first && nat_eq skip 0) run.title (run.count - skip) ++ behind
    by zero lt =
        let all : run.count ≡ run.count - 0 = omega arith in
        ap (λ f. run_marks f run.title run.count ++ behind) (sym (first_at run.first)) ∙ ap (λ n. run_marks (run.first && nat_eq 0 0) run.title n ++ behind) all
    by (suc n) lt =
        run_shorter run.first run.title run.count (suc n) behind (omega arith) (omega (arith, lt))
        ∙ ap (λ f. run_marks f run.title (run.count - suc n) ++ behind) (sym (first_past run.first n))

-- how many marks are left of runs
pub rest_long : (runs : List MarkRun) (run : MarkRun) (at skip : ℕ) → slice_get runs at ≡ Some run → skip < run.count
    → length (drop skip (marks_in (drop at runs))) ≡ (run.count - skip) + length (marks_in (drop (at + 1) runs))
rest_long runs run at skip is lt =
    let rest = rest_run run skip in
    let long = ap length (run_cut runs run at skip is lt) in
    omega (arith, long, length-append (run_marks rest.first rest.title rest.count) (marks_in (drop (at + 1) runs)), length-run rest.first rest.title rest.count)

-- where a mark passes, those behind it in its run pass
pub passes_on : (begins : Bool) (title : ℕ) (run : MarkRun) (at more : ℕ) → passing begins title (Some (mark_at run at)) ≡ true → passing begins title (Some (mark_at run (at + more))) ≡ true
passes_on begins title run at zero pass = let same : at + 0 ≡ at = omega arith in ap (λ n. passing begins title (Some (mark_at run n))) same ∙ pass
passes_on begins title run at (suc more) pass =
    let on : at + suc more ≡ suc (at + more) = omega arith in
    ap (λ n. passing begins title (Some (mark_at run n))) on
    ∙ ap (λ b. passing begins title (Some (record { first = run.first && b; title = run.title }))) (not_zero (at + more))
    ∙ by begins run.first (nat_eq at 0) pass
  where
    by : (begins first zero_at : Bool) → passing begins title (Some (record { first = first && zero_at; title = run.title })) ≡ true
        → passing begins title (Some (record { first = first && false; title = run.title })) ≡ true
    by true first z p = p
    by false false z p = p
    by false true false p = p
    by false true true p = absurd (true≢false (sym p))

pub passing_none : (begins : Bool) (title : ℕ) → passing begins title None ≡ false
passing_none false title = refl
passing_none true title = refl

-- a mark of the run that a walk stands at
pub at_run : (whole : List CellMark) (runs : List MarkRun) (run : MarkRun) (at skip from count k : ℕ) → slice_get runs at ≡ Some run → skip + k < run.count
    → drop skip (marks_in (drop at runs)) ≡ drop (from + count) whole → slice_get whole (from + (count + k)) ≡ Some (mark_at run (skip + k))
at_run whole runs run at skip from count k is lt rest =
    let here = run_marks run.first run.title run.count in
    let behind = marks_in (drop (at + 1) runs) in
    sym (slice_get-drop (from + count) whole k (from + (count + k)) (omega arith))
    ∙ sym (ap (λ l. slice_get l k) rest)
    ∙ slice_get-drop skip (marks_in (drop at runs)) k (skip + k) refl
    ∙ ap (λ l. slice_get (marks_in l) (skip + k)) (item_and_rest runs at run is)
    ∙ slice_get-append_left here behind (skip + k) (omega (arith, lt, length-run run.first run.title run.count))
    ∙ run_there run (skip + k) lt

-- a walk leaves a run behind that it skips
pub skipped : (whole : List CellMark) (runs : List MarkRun) (run : MarkRun) (at skip from count : ℕ) → slice_get runs at ≡ Some run → run.count ≤ skip
    → drop skip (marks_in (drop at runs)) ≡ drop (from + count) whole → drop (skip - run.count) (marks_in (drop (at + 1) runs)) ≡ drop (from + count) whole
skipped whole runs run at skip from count is le rest =
    sym (ap (λ l. drop skip (marks_in l)) (item_and_rest runs at run is) ∙ run_gone run.first run.title run.count skip (marks_in (drop (at + 1) runs)) le) ∙ rest

-- a walk passes the rest of a run
pub passed : (whole : List CellMark) (runs : List MarkRun) (run : MarkRun) (at skip from count : ℕ) → slice_get runs at ≡ Some run → skip < run.count
    → drop skip (marks_in (drop at runs)) ≡ drop (from + count) whole → drop 0 (marks_in (drop (at + 1) runs)) ≡ drop (from + (count + (run.count - skip))) whole
passed whole runs run at skip from count is lt rest =
    let more = run.count - skip in
    let none : run.count - run.count ≡ 0 = omega arith in
    let all : skip + more ≡ run.count = omega (arith, lt) in
    let sum : (from + count) + more ≡ from + (count + more) = omega arith in
    sym (ap (λ n. drop n (marks_in (drop (at + 1) runs))) none)
    ∙ sym (run_gone run.first run.title run.count run.count (marks_in (drop (at + 1) runs)) (omega arith))
    ∙ sym (ap (λ l. drop run.count (marks_in l)) (item_and_rest runs at run is))
    ∙ sym (ap (λ n. drop n (marks_in (drop at runs))) all)
    ∙ sym (drop-drop more skip (marks_in (drop at runs)))
    ∙ ap (drop more) rest
    ∙ drop-drop more (from + count) whole
    ∙ ap (λ n. drop n whole) sum

-- marks that pass, and more of a run
pub pass_more : (begins : Bool) (title : ℕ) (whole : List CellMark) (runs : List MarkRun) (run : MarkRun) (at skip from count more : ℕ) → slice_get runs at ≡ Some run → skip + more ≤ run.count
    → drop skip (marks_in (drop at runs)) ≡ drop (from + count) whole → passing begins title (Some (mark_at run skip)) ≡ true
    → ((j : ℕ) → j < count → passing begins title (slice_get whole (from + j)) ≡ true) → (j : ℕ) → j < count + more → passing begins title (slice_get whole (from + j)) ≡ true
pass_more begins title whole runs run at skip from count more is le rest here before j lt = by (nat_lt j count) refl
  where
    by : (low : Bool) → nat_lt j count ≡ low → passing begins title (slice_get whole (from + j)) ≡ true
    by true low = before j (grind (arith, nat_tests))
    by false low =
        let large : count ≤ j = grind (arith, nat_tests) in
        let k = j - count in
        let there : count + k ≡ j = omega (arith, large) in
        sym (ap (λ n. passing begins title (slice_get whole (from + n))) there)
        ∙ ap (passing begins title) (at_run whole runs run at skip from count k is (omega (arith, large, lt, le)) rest)
        ∙ passes_on begins title run skip k here

-- the marks of a run that a walk stands at, and of those behind it
pub marks_behind : (runs : List MarkRun) (run : MarkRun) (at : ℕ) → slice_get runs at ≡ Some run
    → length (marks_in (drop at runs)) ≡ run.count + length (marks_in (drop (at + 1) runs))
marks_behind runs run at is =
    ap (λ l. length (marks_in l)) (item_and_rest runs at run is)
    ∙ length-append (run_marks run.first run.title run.count) (marks_in (drop (at + 1) runs))
    ∙ ap (λ n. n + length (marks_in (drop (at + 1) runs))) (length-run run.first run.title run.count)

-- a mark that does not pass
pub stops : (begins : Bool) (title : ℕ) (whole : List CellMark) (runs : List MarkRun) (run : MarkRun) (at skip from count : ℕ) → slice_get runs at ≡ Some run → skip < run.count
    → drop skip (marks_in (drop at runs)) ≡ drop (from + count) whole → passing begins title (Some (mark_at run skip)) ≡ false → passing begins title (slice_get whole (from + count)) ≡ false
stops begins title whole runs run at skip from count is lt rest fails =
    let there : count + 0 ≡ count = omega arith in
    let here : skip + 0 ≡ skip = omega arith in
    sym (ap (λ n. passing begins title (slice_get whole (from + n))) there)
    ∙ ap (passing begins title) (at_run whole runs run at skip from count 0 is (omega (arith, lt)) rest)
    ∙ ap (λ n. passing begins title (Some (mark_at run n))) here ∙ fails

-- a walk ends where a mark does not pass
pub seen : (begins : Bool) (title : ℕ) (marks : List CellMark) (from most : ℕ) (walk : Found) → Walked begins title marks from most walk → walk.count < most
    → passing begins title (slice_get marks (from + walk.count)) ≡ false
seen begins title marks from most walk walked lt = by walk.ended refl
  where
    by : (ended : Bool) → walk.ended ≡ ended → passing begins title (slice_get marks (from + walk.count)) ≡ false
    by true e = walked.ends e lt
    by false e = ap (passing begins title) (slice_get_past marks (from + walk.count) ((walked.past e).0)) ∙ passing_none begins title

pub runs_from : (begins : Bool) (title : ℕ) (marks : List CellMark) (k skip most : ℕ) (walk : Found) → k ≡ skip → Walked begins title marks skip most walk
    → Runs (passing begins title) (drop k marks) most walk.count
runs_from begins title marks k skip most walk same walked = record {
  pass = λ j lt. at j ∙ walked.pass j lt;
  ends = λ lt. at walk.count ∙ seen begins title marks skip most walk walked lt;
  within = walked.within;
}
  where
    at : (j : ℕ) → passing begins title (slice_get (drop k marks) j) ≡ passing begins title (slice_get marks (skip + j))
    at j = ap (passing begins title) (ap (λ n. slice_get (drop n marks) j) same ∙ slice_get-drop skip marks j (skip + j) refl)

-- a run is pushed
module _ (old now : Buffer MarkRun) (run : MarkRun) (some : AreSome old.items) (more : 0 < run.count) (there : length (marks_in old.items) + run.count ≤ old.capacity)
    (is : now ≡ buffer (keep_last old.capacity (old.items ++ run ∷ [])) old.capacity) where
  now_items : now.items ≡ old.items ++ run ∷ []
  now_items = ap (λ (b : Buffer MarkRun). b.items) (lane_more old now (run ∷ []) (omega (arith, few_runs old.items some, more, there)) is)

  pub pushed : marks_in now.items ≡ marks_in old.items ++ run_marks run.first run.title run.count
  pushed =
      ap marks_in now_items ∙ marks-append old.items (run ∷ [])
      ∙ ap (λ l. marks_in old.items ++ l) (append-nil (run_marks run.first run.title run.count))

  pub pushed_some : AreSome now.items
  pushed_some = subst AreSome (sym now_items) (some-append old.items (run ∷ []) some (more, tt))

some_last : (xs : List MarkRun) (x : MarkRun) → AreSome (xs ++ x ∷ []) → 0 < x.count
some_last [] x s = s.0
some_last (y ∷ xs) x s = some_last xs x s.1

-- the last run of some
module _ (items : List MarkRun) (last : MarkRun) (is : slice_get items (length items - 1) ≡ Some last) where
  abbrev front : List MarkRun
  front = take (length items - 1) items

  cut : items ≡ front ++ last ∷ []
  cut = cut_last items last is

  marks_cut : marks_in items ≡ marks_in front ++ run_marks last.first last.title last.count
  marks_cut = ap marks_in cut ∙ marks-append front (last ∷ []) ∙ ap (λ l. marks_in front ++ l) (append-nil (run_marks last.first last.title last.count))

  pub last_within : last.count ≤ length (marks_in items)
  last_within =
      omega (arith, ap length marks_cut, length-append (marks_in front) (run_marks last.first last.title last.count), length-run last.first last.title last.count)

  -- a run goes on with it
  module _ (run : MarkRun) (some : AreSome items) (joined_by : joins last run ≡ true) (popped now : Buffer MarkRun) (room : ℕ) (there : length (marks_in items) + run.count ≤ room)
      (pop : popped ≡ buffer (take (length items - 1) items) room)
      (push : now ≡ buffer (keep_last popped.capacity (popped.items ++ record { first = last.first; title = last.title; count = last.count + run.count } ∷ [])) popped.capacity) where
    abbrev whole_run : MarkRun
    whole_run = record { first = last.first; title = last.title; count = last.count + run.count }

    last_some : 0 < last.count
    last_some = some_last front last (subst AreSome cut some)

    popped_some : AreSome popped.items
    popped_some = subst AreSome (sym (ap (λ (b : Buffer MarkRun). b.items) pop)) (some-take (length items - 1) items some)

    popped_there : length (marks_in popped.items) + (last.count + run.count) ≤ popped.capacity
    popped_there =
        let few : length (marks_in popped.items) ≡ length (marks_in front) = ap (λ (b : Buffer MarkRun). length (marks_in b.items)) pop in
        let same : popped.capacity ≡ room = ap (λ (b : Buffer MarkRun). b.capacity) pop in
        let long : length (marks_in items) ≡ length (marks_in front) + last.count =
        ap length marks_cut ∙ length-append (marks_in front) (run_marks last.first last.title last.count)
        ∙ ap (λ n. length (marks_in front) + n) (length-run last.first last.title last.count)
        in omega (arith, there, few, same, long)

    pub more_than_none : 0 < last.count + run.count
    more_than_none = omega (arith, last_some)

    pub joined_marks : marks_in now.items ≡ marks_in items ++ run_marks run.first run.title run.count
    joined_marks =
        let by = joins_by last run joined_by in
        pushed popped now whole_run popped_some more_than_none popped_there push
        ∙ ap (λ (b : Buffer MarkRun). marks_in b.items ++ run_marks last.first last.title (last.count + run.count)) pop
        ∙ ap (λ l. marks_in front ++ l) (sym (joined last.first last.title last.count run.count last_some))
        ∙ ap (λ t. marks_in front ++ (run_marks last.first last.title last.count ++ run_marks false t run.count)) by.1
        ∙ ap (λ f. marks_in front ++ (run_marks last.first last.title last.count ++ run_marks f run.title run.count)) (sym by.0)
        ∙ sym (append_assoc (marks_in front) (run_marks last.first last.title last.count) (run_marks run.first run.title run.count))
        ∙ sym (ap (λ l. l ++ run_marks run.first run.title run.count) marks_cut)

    pub joined_some : AreSome now.items
    joined_some = pushed_some popped now whole_run popped_some more_than_none popped_there push

-- runs are taken away from the front
pub gone_some : (items : List MarkRun) → AreSome items → AreSome (drop 1 items)
gone_some [] s = s
gone_some (x ∷ items) s = s.1

module _ (old popped : Buffer MarkRun) (run : MarkRun) (some : AreSome old.items) (is : slice_get old.items 0 ≡ Some run) (pop : popped ≡ buffer (drop 1 old.items) old.capacity) where
  uncut : old.items ≡ run ∷ drop 1 old.items
  uncut = item_and_rest old.items 0 run is

  pub popped_runs_some : AreSome popped.items
  popped_runs_some = subst AreSome (sym (ap (λ (b : Buffer MarkRun). b.items) pop)) (gone_some old.items some)

  pub popped_few : length old.items ≤ old.capacity → length popped.items ≤ popped.capacity
  popped_few few = omega (arith, few, ap (λ (b : Buffer MarkRun). length b.items) pop, ap (λ (b : Buffer MarkRun). b.capacity) pop, ap length uncut)

  pub run_is_gone : (left count : ℕ) (marks : List CellMark) → drop left (marks_in old.items) ≡ drop count marks → run.count ≤ left
      → drop (left - run.count) (marks_in popped.items) ≡ drop count marks
  run_is_gone left count marks all le =
      ap (λ (b : Buffer MarkRun). drop (left - run.count) (marks_in b.items)) pop
      ∙ sym (run_gone run.first run.title run.count left (marks_in (drop 1 old.items)) le)
      ∙ sym (ap (λ l. drop left (marks_in l)) uncut)
      ∙ all

  -- a part of the first run stays
  module _ (left : ℕ) (now : Buffer MarkRun) (few : length old.items ≤ old.capacity) (lt : left < run.count) (more : 0 < left)
      (push : now ≡ buffer (take popped.capacity (record { first = false; title = run.title; count = run.count - left } ∷ popped.items)) popped.capacity) where
    now_is : now.items ≡ record { first = false; title = run.title; count = run.count - left } ∷ drop 1 old.items
    now_is =
        ap (λ (b : Buffer MarkRun). b.items) push
        ∙ ap (λ (b : Buffer MarkRun). take b.capacity (record { first = false; title = run.title; count = run.count - left } ∷ b.items)) pop
        ∙ take_all old.capacity (record { first = false; title = run.title; count = run.count - left } ∷ drop 1 old.items) (omega (arith, few, ap length uncut))

    pub shorter_some : AreSome now.items
    shorter_some = subst AreSome (sym now_is) (omega (arith, lt), gone_some old.items some)

    pub shorter : (count : ℕ) (marks : List CellMark) → drop left (marks_in old.items) ≡ drop count marks → marks_in now.items ≡ drop count marks
    shorter count marks all =
        ap marks_in now_is
        ∙ sym (run_shorter run.first run.title run.count left (marks_in (drop 1 old.items)) more (omega (arith, lt)))
        ∙ sym (ap (λ l. drop left (marks_in l)) uncut)
        ∙ all
