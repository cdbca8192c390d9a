-- A ring and what is left of a spare chunk behind it.
use Rattle.std.proofs.Common.{◌≡◌, ◌<◌, ◌≤◌, ◌+◌, ◌-◌, ◌∙◌, ◌++◌, ℕ, ℤ, Bool, true, false, List, Option, Some, None, length, nat_lt, take, drop, map, min, slice_get, arith, ap, refl, sym, true≢false}
use Rattle.std.proofs.lemmas.Bool.Decides.{nat_tests}
use Rattle.std.proofs.lemmas.List.{drop_min, drop-drop, length-append, length-map}
use Rattle.std.proofs.lemmas.Option.{slice_get_past}
use Rattle.std.proofs.Math.Seq.{drop-nil}
use Rattle.circular_buffer.proofs.Places.{slice_get-append_left, slice_get-append_right, slice_get-drop}
use Rattle.frame_core.specs.declared.cell.Cell.{Cell}
use Rattle.frame_core.specs.Slots.{goes_on}
use Rattle.cell_ring.specs.Lanes.{begins_none}
use Rattle.cell_ring.specs.Rings.{Runs, spare_cells}
use Rattle.cell_ring.proofs.Lanes.{inner_there}
use Rattle.frame_core.specs.declared.cell.CellMark.{CellMark}
use Rattle.frame_core.specs.Chunks.{cells_in, mark_in}
use Rattle.frame_core.proofs.Chunks.{cells-drop, cells_again, length-cells}
use Rattle.cell_ring.proofs.Parts.{drop-parts, least_gone, rest_behind}

spare_on : (spare : Option (List Cell)) (gone count : ℕ) → spare_cells spare (gone + count) ≡ drop count (spare_cells spare gone)
spare_on None gone count = sym (drop-nil {A = Cell} count)
spare_on (Some cells) gone count = sym (drop-drop count gone cells)

-- the cells of the samples and marks of a chunk
pub chunk_lanes : (cells : List Cell) (lefts rights : List ℤ) (marks : List CellMark) → lefts ≡ map (λ (c : Cell). c.left) cells → rights ≡ map (λ (c : Cell). c.right) cells → marks ≡ map mark_in cells
    → cells_in lefts rights marks ≡ cells
chunk_lanes cells lefts rights marks l r m =
    ap (λ xs. cells_in xs rights marks) l
    ∙ ap (λ ys. cells_in (map (λ (c : Cell). c.left) cells) ys marks) r
    ∙ ap (λ ms. cells_in (map (λ (c : Cell). c.left) cells) (map (λ (c : Cell). c.right) cells) ms) m
    ∙ cells_again cells

module _ (spare : Option (List Cell)) (cells : List Cell) (lefts rights : List ℤ) (marks : List CellMark) (gone first : ℕ) (least : first ≡ min gone (length cells))
    (l : lefts ≡ map (λ (c : Cell). c.left) cells) (r : rights ≡ map (λ (c : Cell). c.right) cells) (m : marks ≡ map mark_in cells) where
  long_lefts : length lefts ≡ length cells
  long_lefts = ap length l ∙ length-map cells (λ (c : Cell). c.left)

  long_rights : length rights ≡ length cells
  long_rights = ap length r ∙ length-map cells (λ (c : Cell). c.right)

  long_marks : length marks ≡ length cells
  long_marks = ap length m ∙ length-map cells mark_in

  -- the samples and marks of what is left of a spare chunk
  pub spare_lanes : spare ≡ Some cells
      → cells_in (take (length lefts - first) (drop first lefts)) (take (length rights - first) (drop first rights)) (drop first marks) ≡ spare_cells spare gone
  spare_lanes some =
      ap (λ xs. cells_in xs (take (length rights - first) (drop first rights)) (drop first marks)) (rest_behind gone first lefts (omega (arith, least, long_lefts)))
      ∙ ap (λ ys. cells_in (drop gone lefts) ys (drop first marks)) (rest_behind gone first rights (omega (arith, least, long_rights)))
      ∙ ap (λ ms. cells_in (drop gone lefts) (drop gone rights) ms) (least_gone gone first marks (omega (arith, least, long_marks)))
      ∙ cells-drop gone lefts rights marks (omega (arith, long_lefts, long_marks)) (omega (arith, long_rights, long_marks))
      ∙ ap (drop gone) (chunk_lanes cells lefts rights marks l r m)
      ∙ sym (ap (λ s. spare_cells s gone) some)

-- when some cells have gone, first those of the ring
pub gone_on : (cells : List Cell) (spare : Option (List Cell)) (gone first count n : ℕ) → first ≡ min (length cells) n → count ≡ n - first
    → drop first cells ++ spare_cells spare (gone + count) ≡ drop n (cells ++ spare_cells spare gone)
gone_on cells spare gone first count n least rest =
    let other : first ≡ min n (length cells) = omega (arith, least) in
    let behind : count ≡ n - length cells = omega (arith, least, rest) in
    ap (λ l. l ++ spare_cells spare (gone + count)) (ap (λ m. drop m cells) other ∙ drop_min n cells)
    ∙ ap (λ l. drop n cells ++ l) (spare_on spare gone count ∙ ap (λ m. drop m (spare_cells spare gone)) behind)
    ∙ drop-parts cells (spare_cells spare gone) n

module _ {A : Type 0} (test : Option A → Bool) (none : test None ≡ false) (front back : List A) (from most here : ℕ)
    (pass : (j : ℕ) → j < here → test (slice_get front (from + j)) ≡ true) where
  passed_within : (j : ℕ) → j < here → from + j < length front
  passed_within j low = by (nat_lt (from + j) (length front)) refl
    where
      by : (there : Bool) → nat_lt (from + j) (length front) ≡ there → from + j < length front
      by true there = grind (arith, nat_tests)
      by false past =
          let wrong : true ≡ false = sym (pass j low) ∙ ap test (slice_get_past front (from + j) (grind (arith, nat_tests))) ∙ none in
          absurd (true≢false wrong)

  pub front_passes : (j : ℕ) → j < here → test (slice_get (front ++ back) (from + j)) ≡ true
  front_passes j low = ap test (slice_get-append_left front back (from + j) (passed_within j low)) ∙ pass j low

  module _ (there : ℕ) (all : length front ≤ from + here) (next : Runs test (drop (from + here - length front) back) (most - here) there) where
    pub both_pass : (j : ℕ) → j < here + there → test (slice_get (front ++ back) (from + j)) ≡ true
    both_pass j lt = by (nat_lt j here) refl
      where
        by : (low : Bool) → nat_lt j here ≡ low → test (slice_get (front ++ back) (from + j)) ≡ true
        by true low = front_passes j (grind (arith, nat_tests))
        by false low =
            let large : here ≤ j = grind (arith, nat_tests) in
            let k = from + here - length front in
            ap test (slice_get-append_right front back (from + j) (k + (j - here)) (omega (arith, large, all)))
            ∙ sym (ap test (slice_get-drop k back (j - here) (k + (j - here)) refl)) ∙ next.pass (j - here) (omega (arith, large, lt))

    pub both_end : here + there < most → test (slice_get (front ++ back) (from + (here + there))) ≡ false
    both_end lt =
        let k = from + here - length front in
        ap test (slice_get-append_right front back (from + (here + there)) (k + there) (omega (arith, all)))
        ∙ sym (ap test (slice_get-drop k back there (k + there) refl)) ∙ next.ends (omega (arith, lt))

-- how many there are
pub held_cells : (cells spare all : List Cell) (lefts rights : List ℤ) (marks : List CellMark) → length lefts ≡ length marks → length rights ≡ length marks → cells_in lefts rights marks ≡ spare → cells ++ spare ≡ all
    → length cells + length marks ≡ length all
held_cells cells spare all lefts rights marks l r is whole =
    omega (arith, length-cells lefts rights marks l r, ap length is, length-append cells spare, ap length whole)

-- what is behind some of the marks of runs
pub marks_behind : (whole : List CellMark) (skip behind next : ℕ) → behind ≡ min next (length (drop skip whole)) → drop (skip + behind) whole ≡ drop next (drop skip whole)
marks_behind whole skip behind next least =
    sym (drop-drop behind skip whole) ∙ least_gone next behind (drop skip whole) least

-- a run of marks is a run of their cells
pub run_of_marks : (title : ℕ) (lefts rights : List ℤ) (marks part : List CellMark) (cells : List Cell) (k most count : ℕ) → length lefts ≡ length marks → length rights ≡ length marks
    → cells_in lefts rights marks ≡ cells → part ≡ drop k marks → Runs (begins_none title) part most count → Runs (goes_on title) (drop k cells) most count
run_of_marks title lefts rights marks part cells k most count l r is behind run = record {
  pass = λ j lt. at j ∙ run.pass j lt;
  ends = λ lt. at count ∙ run.ends lt;
  within = run.within;
}
  where
    at : (j : ℕ) → goes_on title (slice_get (drop k cells) j) ≡ begins_none title (slice_get part j)
    at j =
        ap (goes_on title) (slice_get-drop k cells j (k + j) refl ∙ ap (λ cs. slice_get cs (k + j)) (sym is))
        ∙ inner_there title lefts rights marks (k + j) l r
        ∙ sym (ap (begins_none title) (ap (λ ms. slice_get ms j) behind ∙ slice_get-drop k marks j (k + j) refl))
