-- How many ready items are of one title.
use Rattle.std.proofs.Common.{◌≡◌, ◌<◌, ◌≤◌, ◌+◌, ◌-◌, ◌∙◌, ◌++◌, ℕ, zero, suc, min, Some, None, IsSome, List, [], ◌∷◌, length, take, drop, map, Bool, true, false, cond, arith, refl, ap, sym, append_assoc}
use Rattle.std.specs.Prelude.{nat_eq, nat_lt, not, ◌||◌, ◌&&◌, slice_get}
use Rattle.std.proofs.lemmas.Bool.{eq-eqb, false≢true}
use Rattle.std.proofs.lemmas.Bool.Decides.{nat_tests}
use Rattle.std.proofs.lemmas.List.{drop_at, get_or-drop, length-take}
use Rattle.frame_core.specs.declared.cell.Cell.{Cell}
use Rattle.frame_core.specs.Slots.{Slot, slot_at, title_of, goes_on, is_inner}
use Rattle.cell_ring.specs.Rings.{has_title}
use Rattle.op_cross.specs.Crossfade.{mixed_cells, cross}
use Rattle.op_cross.specs.Stretches.{inner_count, stretch, titled_count, titled_stretch}
use Rattle.op_cross.specs.States.{Crossing, StandsFor, IsCrossing, gap_of, ready_items, ready_stretch}
use Rattle.op_cross.proofs.Standing.{settled_now, take_none}
use Rattle.op_cross.proofs.Stretching.{long_run, short_run, stretch_is}

-- ---- tests

and_front : (a b : Bool) → (a && b) ≡ true → a ≡ true
and_front true b e = refl
and_front false b e = absurd (false≢true e)

and_back : (a b : Bool) → (a && b) ≡ true → b ≡ true
and_back true b e = e
and_back false b e = absurd (false≢true e)

pub going_inner : (title : ℕ) (slot : Slot) → goes_on title slot ≡ true → is_inner slot ≡ true
going_inner title None e = absurd (false≢true e)
going_inner title (Some cell) e = and_front (not cell.first) (nat_eq cell.title title) e

pub going_title : (title : ℕ) (slot : Slot) → goes_on title slot ≡ true → title_of slot ≡ title
going_title title None e = absurd (false≢true e)
going_title title (Some cell) e =
    let same : nat_eq cell.title title ≡ true = and_back (not cell.first) (nat_eq cell.title title) e in
    grind (arith, nat_tests, same)

titled_same : (title : ℕ) (slot : Slot) → has_title title slot ≡ true → title_of slot ≡ title
titled_same title None e = absurd (false≢true e)
titled_same title (Some cell) e = grind (arith, nat_tests, e)

titled_other : (title : ℕ) (slot : Slot) → IsSome slot → has_title title slot ≡ false → nat_eq (title_of slot) title ≡ false
titled_other title None some e = absurd (false≢true some)
titled_other title (Some cell) some e = e

titled_not : (title : ℕ) (slot : Slot) → nat_eq (title_of slot) title ≡ false → has_title title slot ≡ false
titled_not title None e = refl
titled_not title (Some cell) e = e

there : (cells : List Cell) (j : ℕ) → j < length cells → IsSome (slice_get cells j)
there [] j low = absurd (omega (arith, low))
there (a ∷ cells) zero low = refl
there (a ∷ cells) (suc j) low = there cells j (omega (arith, low))

or_none : (a b : Bool) → a ≡ false → b ≡ false → (a || b) ≡ false
or_none a b ea eb = ap (λ a. a || b) ea ∙ eb

or_some : (a b : Bool) → b ≡ true → (a || b) ≡ true
or_some true b e = refl
or_some false b e = e

-- ---- runs of one title

run_least : (title : ℕ) (slots : List Slot) (m : ℕ) → m ≤ inner_count slots → ((j : ℕ) → j < m → title_of (slot_at slots j) ≡ title) → m ≤ titled_count title slots
run_least title slots zero few same = omega arith
run_least title [] (suc m) few same = absurd (omega (arith, few))
run_least title (None ∷ slots) (suc m) few same = absurd (omega (arith, few))
run_least title (Some cell ∷ slots) (suc m) few same = by cell.first refl (λ more. run_least title slots m more (λ j low. same (suc j) (omega (arith, low))))
  where
    by : (first : Bool) → cell.first ≡ first → (m ≤ inner_count slots → m ≤ titled_count title slots) → suc m ≤ titled_count title (Some cell ∷ slots)
    by true e more =
        let none : inner_count (Some cell ∷ slots) ≡ 0 = ap (λ b. cond b 0 (suc (inner_count slots))) e in
        absurd (omega (arith, few, none))
    by false e more =
        let some : inner_count (Some cell ∷ slots) ≡ suc (inner_count slots) = ap (λ b. cond b 0 (suc (inner_count slots))) e in
        let test : (cell.first || not (nat_eq cell.title title)) ≡ false =
        or_none cell.first (not (nat_eq cell.title title)) e (ap not (eq-eqb cell.title title (same 0 (omega arith)))) in
        let is : titled_count title (Some cell ∷ slots) ≡ suc (titled_count title slots) = ap (λ b. cond b 0 (suc (titled_count title slots))) test in
        let rest = more (omega (arith, few, some)) in
        omega (arith, is, rest)

run_most : (title : ℕ) (slots : List Slot) (m : ℕ) → has_title title (slot_at slots m) ≡ false → titled_count title slots ≤ m
run_most title [] m other = omega arith
run_most title (None ∷ slots) m other = omega arith
run_most title (Some cell ∷ slots) zero other =
    let test : (cell.first || not (nat_eq cell.title title)) ≡ true = or_some cell.first (not (nat_eq cell.title title)) (ap not other) in
    let is : titled_count title (Some cell ∷ slots) ≡ 0 = ap (λ b. cond b 0 (suc (titled_count title slots))) test in
    omega (arith, is)
run_most title (Some cell ∷ slots) (suc m) other = by (cell.first || not (nat_eq cell.title title)) (run_most title slots m other)
  where
    by : (test : Bool) → titled_count title slots ≤ m → cond test 0 (suc (titled_count title slots)) ≤ suc m
    by true few = omega arith
    by false few = omega (arith, few)

run_whole : (title : ℕ) (slots : List Slot) → titled_count title slots ≤ inner_count slots
run_whole title [] = omega arith
run_whole title (None ∷ slots) = omega arith
run_whole title (Some cell ∷ slots) = by cell.first (not (nat_eq cell.title title)) (run_whole title slots)
  where
    by : (first other : Bool) → titled_count title slots ≤ inner_count slots → cond (first || other) 0 (suc (titled_count title slots)) ≤ cond first 0 (suc (inner_count slots))
    by true other few = omega arith
    by false true few = omega arith
    by false false few = omega (arith, few)

-- a stretch of one title is one
pub titled_whole : (slots : List Slot) → titled_stretch slots ≤ stretch slots
titled_whole [] = omega arith
titled_whole (None ∷ slots) = omega arith
titled_whole (Some cell ∷ slots) = let few = run_whole cell.title slots in omega (arith, few)

titled_least : (slots : List Slot) (m : ℕ) → m ≤ stretch slots → ((j : ℕ) → 0 < j → j < m → title_of (slot_at slots j) ≡ title_of (slot_at slots 0)) → m ≤ titled_stretch slots
titled_least slots zero few same = omega arith
titled_least [] (suc m) few same = absurd (omega (arith, few))
titled_least (None ∷ slots) (suc m) few same = absurd (omega (arith, few))
titled_least (Some cell ∷ slots) (suc m) few same =
    let more = run_least cell.title slots m (omega (arith, few)) (λ j low. same (suc j) (omega arith) (omega (arith, low))) in
    omega (arith, more)

titled_most : (slots : List Slot) (m : ℕ) → 0 < m → nat_eq (title_of (slot_at slots m)) (title_of (slot_at slots 0)) ≡ false → titled_stretch slots ≤ m
titled_most slots zero some other = absurd (omega (arith, some))
titled_most [] (suc m) some other = omega arith
titled_most (None ∷ slots) (suc m) some other = omega arith
titled_most (Some cell ∷ slots) (suc m) some other =
    let few = run_most cell.title slots m (titled_not cell.title (slot_at slots m) other) in omega (arith, few)

-- the longest one of at most so many, by the titles in it and what follows it
one_title : (slots : List Slot) (n most r : ℕ) → stretch slots ≡ n → r ≤ min most n → (0 < min most n → 0 < r)
    → ((j : ℕ) → 0 < j → j < r → title_of (slot_at slots j) ≡ title_of (slot_at slots 0))
    → (r < min most n → nat_eq (title_of (slot_at slots r)) (title_of (slot_at slots 0)) ≡ false) → r ≡ min most (titled_stretch slots)
one_title slots n most r long few some same ends = by (nat_lt r (min most n)) refl
  where
    whole : titled_stretch slots ≤ n
    whole = let w = titled_whole slots in omega (arith, w, long)

    least : r ≤ titled_stretch slots
    least = titled_least slots r (omega (arith, few, long)) same

    by : (more : Bool) → nat_lt r (min most n) ≡ more → r ≡ min most (titled_stretch slots)
    by false e =
        let all : min most n ≤ r = grind (arith, nat_tests, e) in
        let w = whole in let l = least in omega (arith, all, few, w, l)
    by true e =
        let less : r < min most n = grind (arith, nat_tests, e) in
        let most_is = titled_most slots r (some (omega (arith, less))) (ends less) in
        let l = least in omega (arith, less, most_is, l, few)

-- ---- the titles of the items that are ready

front_at : (n : ℕ) (cells : List Cell) (more : List Slot) (j : ℕ) → j < n → n ≤ length cells → slot_at (map Some (take n cells) ++ more) j ≡ slice_get cells j
front_at zero cells more j low fits = absurd (omega (arith, low))
front_at (suc n) [] more j low fits = absurd (omega (arith, fits))
front_at (suc n) (a ∷ cells) more zero low fits = refl
front_at (suc n) (a ∷ cells) more (suc j) low fits = front_at n cells more j (omega (arith, low)) (omega (arith, fits))

mixed_at : (from to : List Cell) (at whole : ℕ) (more : List Slot) (j : ℕ) → j < length from → length from ≤ length to
    → title_of (slot_at (mixed_cells from to at whole ++ more) j) ≡ title_of (slice_get to j)
mixed_at [] to at whole more j low fits = absurd (omega (arith, low))
mixed_at (a ∷ from) [] at whole more j low fits = absurd (omega (arith, fits))
mixed_at (a ∷ from) (b ∷ to) at whole more zero low fits = refl
mixed_at (a ∷ from) (b ∷ to) at whole more (suc j) low fits = mixed_at from to (suc at) whole more j (omega (arith, low)) (omega (arith, fits))

abbrev Mix : Crossing → List Slot
Mix s = mixed_cells (drop (s.ready - length s.next) (take s.ready s.cells)) s.next (s.whole - length s.next) s.whole

plain_at : (s : Crossing) (j : ℕ) → IsCrossing s → j < s.ready - length s.next → title_of (slot_at (ready_items s) j) ≡ title_of (slice_get s.cells j)
plain_at s j is low =
    ap title_of (ap (λ l. slot_at l j) (append_assoc (map Some (take (s.ready - length s.next) s.cells)) (Mix s) (gap_of s.gap))
    ∙ front_at (s.ready - length s.next) s.cells (Mix s ++ gap_of s.gap) j low (let r = is.ready in omega (arith, r)))

next_at : (s : Crossing) (j : ℕ) → IsCrossing s → s.ready ≤ length s.next → j < s.ready → title_of (slot_at (ready_items s) j) ≡ title_of (slice_get s.next j)
next_at s j is all low =
    let none : s.ready - length s.next ≡ 0 = omega (arith, all) in
    let long = length-take s.ready s.cells in
    ap (λ l. title_of (slot_at ((map Some l ++ Mix s) ++ gap_of s.gap) j)) (take_none (s.ready - length s.next) s.cells none)
    ∙ ap (λ n. title_of (slot_at (mixed_cells (drop n (take s.ready s.cells)) s.next (s.whole - length s.next) s.whole ++ gap_of s.gap) j)) none
    ∙ mixed_at (take s.ready s.cells) s.next (s.whole - length s.next) s.whole (gap_of s.gap) j
    (let r = is.ready in omega (arith, long, r, low)) (let r = is.ready in omega (arith, long, r, all))

ready_now : (s : Crossing) (slots : List Slot) (p : ℕ) → IsCrossing s → StandsFor s slots p → drop p (cross s.overlap slots) ≡ ready_items s
ready_now s slots p is stands = ap (drop p) (settled_now s slots p is stands) ∙ drop_at stands.past (ready_items s) p stands.count

-- what was counted over the cells of a ring
module _ (s : Crossing) (slots : List Slot) (p : ℕ) (is : IsCrossing s) (stands : StandsFor s slots p) (ring : List Cell) (most limit r : ℕ)
    (fits : limit ≤ length ring) (whole : limit ≡ ready_stretch s)
    (titles : (j : ℕ) → j < limit → title_of (slot_at (ready_items s) j) ≡ title_of (slice_get ring j))
    (few : r ≤ min most limit) (some : 0 < min most limit → 0 < r)
    (same : (j : ℕ) → 0 < j → j < r → has_title (title_of (slice_get ring 0)) (slice_get ring j) ≡ true)
    (ends : r < min most limit → has_title (title_of (slice_get ring 0)) (slice_get ring r) ≡ false) where
  long : stretch (ready_items s) ≡ limit
  long = sym (ap stretch (ready_now s slots p is stands)) ∙ stretch_is s slots p is stands ∙ sym whole

  each : (j : ℕ) → 0 < j → j < r → title_of (slot_at (ready_items s) j) ≡ title_of (slot_at (ready_items s) 0)
  each j positive low =
      titles j (omega (arith, low, few)) ∙ titled_same (title_of (slice_get ring 0)) (slice_get ring j) (same j positive low)
      ∙ sym (titles 0 (omega (arith, low, few, positive)))

  other : r < min most limit → nat_eq (title_of (slot_at (ready_items s) r)) (title_of (slot_at (ready_items s) 0)) ≡ false
  other less =
      ap (λ t. nat_eq t (title_of (slot_at (ready_items s) 0))) (titles r (omega (arith, less)))
      ∙ ap (λ t. nat_eq (title_of (slice_get ring r)) t) (titles 0 (omega (arith, less)))
      ∙ titled_other (title_of (slice_get ring 0)) (slice_get ring r) (there ring r (omega (arith, less, fits))) (ends less)

  pub counted : r ≡ min most (titled_stretch (drop p (cross s.overlap slots)))
  counted = one_title (ready_items s) limit most r long few some each other
      ∙ ap (λ l. min most (titled_stretch l)) (sym (ready_now s slots p is stands))

pub plain_counted : (s : Crossing) (slots : List Slot) (p most mixed r : ℕ) → IsCrossing s → StandsFor s slots p → mixed ≡ length s.next → mixed < s.ready
    → r ≤ min most (s.ready - mixed) → (0 < min most (s.ready - mixed) → 0 < r)
    → ((j : ℕ) → 0 < j → j < r → has_title (title_of (slice_get s.cells 0)) (slice_get s.cells j) ≡ true)
    → (r < min most (s.ready - mixed) → has_title (title_of (slice_get s.cells 0)) (slice_get s.cells r) ≡ false)
    → r ≡ min most (titled_stretch (drop p (cross s.overlap slots)))
plain_counted s slots p most mixed r is stands many less few some same ends =
    counted s slots p is stands s.cells most (s.ready - mixed) r (let l = is.ready in omega (arith, l)) (long_run s mixed many less)
    (λ j low. plain_at s j is (omega (arith, low, many))) few some same ends

pub mixed_counted : (s : Crossing) (slots : List Slot) (p most mixed r : ℕ) → IsCrossing s → StandsFor s slots p → mixed ≡ length s.next → s.ready ≤ mixed
    → r ≤ min most s.ready → (0 < min most s.ready → 0 < r)
    → ((j : ℕ) → 0 < j → j < r → has_title (title_of (slice_get s.next 0)) (slice_get s.next j) ≡ true)
    → (r < min most s.ready → has_title (title_of (slice_get s.next 0)) (slice_get s.next r) ≡ false)
    → r ≡ min most (titled_stretch (drop p (cross s.overlap slots)))
mixed_counted s slots p most mixed r is stands many all few some same ends =
    counted s slots p is stands s.next most s.ready r (omega (arith, all, many)) (short_run s mixed many all)
    (λ j low. next_at s j is (omega (arith, all, many)) low) few some same ends

-- ---- the items of a stretch of one title

run_titles : (title : ℕ) (slots : List Slot) (j : ℕ) → j < titled_count title slots → title_of (slot_at slots j) ≡ title
run_titles title [] j low = absurd (omega (arith, low))
run_titles title (None ∷ slots) j low = absurd (omega (arith, low))
run_titles title (Some cell ∷ slots) j low = by cell.first (nat_eq cell.title title) refl refl (λ i less. run_titles title slots i less) low
  where
    by : (first same : Bool) → cell.first ≡ first → nat_eq cell.title title ≡ same → ((i : ℕ) → i < titled_count title slots → title_of (slot_at slots i) ≡ title)
        → j < titled_count title (Some cell ∷ slots) → title_of (slot_at (Some cell ∷ slots) j) ≡ title
    by true same e f more less =
        let none : titled_count title (Some cell ∷ slots) ≡ 0 = ap (λ b. cond (b || not (nat_eq cell.title title)) 0 (suc (titled_count title slots))) e in
        absurd (omega (arith, less, none))
    by false false e f more less =
        let none : titled_count title (Some cell ∷ slots) ≡ 0 =
        ap (λ b. cond b 0 (suc (titled_count title slots))) (or_some cell.first (not (nat_eq cell.title title)) (ap not f)) in
        absurd (omega (arith, less, none))
    by false true e f more less = at j less
      where
        is : titled_count title (Some cell ∷ slots) ≡ suc (titled_count title slots)
        is = ap (λ b. cond b 0 (suc (titled_count title slots))) (or_none cell.first (not (nat_eq cell.title title)) e (ap not f))

        at : (j : ℕ) → j < titled_count title (Some cell ∷ slots) → title_of (slot_at (Some cell ∷ slots) j) ≡ title
        at zero less = grind (arith, nat_tests, f)
        at (suc j) less = more j (let i = is in omega (arith, less, i))

stretch_titles : (slots : List Slot) (j : ℕ) → j < titled_stretch slots → title_of (slot_at slots j) ≡ title_of (slot_at slots 0)
stretch_titles [] j low = absurd (omega (arith, low))
stretch_titles (None ∷ slots) j low = absurd (omega (arith, low))
stretch_titles (Some cell ∷ slots) zero low = refl
stretch_titles (Some cell ∷ slots) (suc j) low = run_titles cell.title slots j (omega (arith, low))

pub items_titled : (items : List Slot) (p j : ℕ) → j < titled_stretch (drop p items) → title_of (slot_at items (p + j)) ≡ title_of (slot_at items p)
items_titled items p j low =
    let e : p + 0 ≡ p = omega arith in
    ap title_of (sym (get_or-drop p items j None)) ∙ stretch_titles (drop p items) j low
    ∙ ap title_of (get_or-drop p items 0 None) ∙ ap (λ n. title_of (slot_at items n)) e
