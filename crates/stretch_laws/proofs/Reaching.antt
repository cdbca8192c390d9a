-- How far a crossfade goes in the middle of a track: as far as its sub-clock's stretch.
use Rattle.std.proofs.Common.{◌≡◌, ◌<◌, ◌≤◌, ◌+◌, ◌-◌, ◌∙◌, ◌++◌, ℕ, zero, suc, Some, None, List, [], ◌∷◌, length, map, take, true, arith, refl, ap, sym, inl, inr}
use Rattle.std.specs.Prelude.{All, not, slice_get}
use Rattle.std.proofs.lemmas.Bool.{cases_lt}
use Rattle.std.proofs.lemmas.List.{length-append, length-take, get_or-append-add}
use Rattle.frame_core.specs.declared.cell.Cell.{Cell}
use Rattle.frame_core.specs.Slots.{Slot, slot_at, title_of, is_inner}
use Rattle.op_cross.specs.Crossfade.{cross}
use Rattle.op_cross.specs.Runs.{item_of, run_of}
use Rattle.op_cross.specs.States.{AllInner, Crossing, IsCrossing, StandsFor}
use Rattle.op_cross.proofs.LeastRuns.{run_of-is, item_of-is}
use Rattle.op_cross.proofs.Running.{Passing, inner_more, inner_part, passed_count, passed_now}
use Rattle.stream_meaning.specs.Instants.{Setting}
use Rattle.stretch_laws.specs.Stretches.{AreFilled}

slot_inner : (cells : List Cell) (j : ℕ) → AllInner cells → j < length cells → is_inner (slot_at (map Some cells) j) ≡ true
slot_inner [] j inner low = absurd (omega (arith, low))
slot_inner (a ∷ cells) zero inner low = ap (λ first. not first) inner.0
slot_inner (a ∷ cells) (suc j) inner low = slot_inner cells j inner.1 (omega (arith, low))

taken_at : (n : ℕ) (cells : List Cell) (j : ℕ) → j < n → slot_at (map Some (take n cells)) j ≡ slice_get cells j
taken_at zero cells j low = absurd (omega (arith, low))
taken_at (suc n) [] j low = refl
taken_at (suc n) (a ∷ cells) zero low = refl
taken_at (suc n) (a ∷ cells) (suc j) low = taken_at n cells j (omega (arith, low))

kept_at : (n : ℕ) (cells : List Cell) (j : ℕ) → j < n → slice_get (take n cells) j ≡ slice_get cells j
kept_at zero cells j low = absurd (omega (arith, low))
kept_at (suc n) [] j low = refl
kept_at (suc n) (a ∷ cells) zero low = refl
kept_at (suc n) (a ∷ cells) (suc j) low = kept_at n cells j (omega (arith, low))

front_of : (xs ys : List Cell) (j : ℕ) → j < length xs → slice_get (xs ++ ys) j ≡ slice_get xs j
front_of [] ys j low = absurd (omega (arith, low))
front_of (x ∷ xs) ys zero low = refl
front_of (x ∷ xs) ys (suc j) low = front_of xs ys j (omega (arith, low))

back_of : (xs ys : List Cell) (j : ℕ) → length xs ≤ j → slice_get (xs ++ ys) j ≡ slice_get ys (j - length xs)
back_of [] ys j high = let e : j ≡ j - 0 = omega arith in ap (slice_get ys) e
back_of (x ∷ xs) ys zero high = absurd (omega (arith, high))
back_of (x ∷ xs) ys (suc j) high = back_of xs ys j (omega (arith, high)) ∙ (let e : j - length xs ≡ suc j - suc (length xs) = omega arith in ap (slice_get ys) e)

all_titled : (cells : List Cell) (i title : ℕ) → All (λ cell. cell.title ≡ title) cells → i < length cells → title_of (slice_get cells i) ≡ title
all_titled [] i title all low = absurd (omega (arith, low))
all_titled (cell ∷ cells) zero title all low = all 0 cell (omega arith)
all_titled (cell ∷ cells) (suc i) title all low = all_titled cells i title (λ k d less. all (suc k) d (omega (arith, less))) (omega (arith, low))

module _ (setting : Setting) (sub : ℕ → ℕ → List Slot) (k n count p below : ℕ) (state : Crossing) (long : (m : ℕ) → length (sub k m) ≡ m) (filled : AreFilled setting sub k n count below)
    (is : IsCrossing state) (stands : StandsFor state (sub k n) p) (pass : Passing state) (plain : AllInner state.cells)
    (least : (m : ℕ) → m < n → length (cross state.overlap (sub k m)) ≤ p) where
  settled_by : (m : ℕ) → m ≤ count → length (cross state.overlap (sub k (n + m))) ≡ p + m
  settled_by m few =
      let taken = length-take m filled.cells in
      let many = filled.long in
      ap (λ slots. length (cross state.overlap slots)) (filled.filled m few)
      ∙ passed_count state (sub k n) p (take m filled.cells) is stands pass (inner_part m filled.cells filled.inner) ∙ omega (arith, taken, many, few)

  unsettled_by : (j m : ℕ) → j < count → m < n + suc j → length (cross state.overlap (sub k m)) ≤ p + j
  unsettled_by j m low less = elim (cases_lt m n) [
    | inl under ↦ (let l = least m under in omega (arith, l))
    | inr over ↦ (let e : n + (m - n) ≡ m = omega (arith, over) in
        let is = settled_by (m - n) (omega (arith, over, low, less)) in
        let same : length (cross state.overlap (sub k m)) ≡ p + (m - n) = ap (λ i. length (cross state.overlap (sub k i))) (sym e) ∙ is in
        omega (arith, same, over, less))
  ]

  -- item p + j takes exactly j + 1 slots more
  pub run_more : (j : ℕ) → j < count → run_of state.overlap (sub k) (p + j) ≡ n + suc j
  run_more j low =
      let settled = settled_by (suc j) (omega (arith, low)) in
      run_of-is state.overlap (sub k) (p + j) (n + suc j) long (omega (arith, settled)) (λ m less. unsettled_by j m low less)

  abbrev Run : ℕ → List Cell
  Run j = take (suc j) filled.cells

  abbrev Front : ℕ → List Cell
  Front j = take (length (Run j)) (state.cells ++ Run j)

  item_is : (j : ℕ) → j < count → item_of state.overlap (sub k) (p + j) ≡ slot_at (map Some (Front j)) j
  item_is j low =
      let settled = settled_by (suc j) (omega (arith, low)) in
      let at : p + j ≡ length stands.past + j = (let count = stands.count in omega (arith, count)) in
      item_of-is state.overlap (sub k) (p + j) (n + suc j) long (omega (arith, settled)) (λ m less. unsettled_by j m low less)
      ∙ ap (λ slots. slot_at (cross state.overlap slots) (p + j)) (filled.filled (suc j) (omega (arith, low)))
      ∙ ap (λ items. slot_at items (p + j)) (passed_now state (sub k n) p (Run j) is stands pass (inner_part (suc j) filled.cells filled.inner))
      ∙ ap (λ i. slot_at (stands.past ++ map Some (Front j)) i) at
      ∙ get_or-append-add stands.past (map Some (Front j)) j None

  -- and is a cell that begins no track
  pub item_more : (j : ℕ) → j < count → is_inner (item_of state.overlap (sub k) (p + j)) ≡ true
  item_more j low =
      let taken = length-take (suc j) filled.cells in
      let many = filled.long in
      let inner : AllInner (Run j) = inner_part (suc j) filled.cells filled.inner in
      let all = length-append state.cells (Run j) in
      let long_front = length-take (length (Run j)) (state.cells ++ Run j) in
      ap is_inner (item_is j low)
      ∙ slot_inner (Front j) j (inner_part (length (Run j)) (state.cells ++ Run j) (inner_more state.cells (Run j) plain inner)) (omega (arith, taken, many, low, all, long_front))

  -- it has the title of a cell that is held, or behind these of those that are filled
  pub item_titled : (title rest : ℕ) → rest ≤ count → ((i : ℕ) → i < rest → i < length state.cells → title_of (slice_get state.cells i) ≡ title)
      → (length state.cells < rest → below ≡ title) → (j : ℕ) → j < rest → title_of (item_of state.overlap (sub k) (p + j)) ≡ title
  item_titled title rest few held over j less =
      let low : j < count = omega (arith, few, less) in
      let taken = length-take (suc j) filled.cells in
      let many = filled.long in
      ap title_of (item_is j low)
      ∙ ap title_of (taken_at (length (Run j)) (state.cells ++ Run j) j (omega (arith, taken, many, low)))
      ∙ elim (cases_lt j (length state.cells)) [
        | inl front ↦ ap title_of (front_of state.cells (Run j) j front) ∙ held j less front
        | inr back ↦ ap title_of (back_of state.cells (Run j) j back)
            ∙ ap title_of (kept_at (suc j) filled.cells (j - length state.cells) (omega arith))
            ∙ all_titled filled.cells (j - length state.cells) below filled.titled (omega (arith, many, low))
            ∙ over (omega (arith, less, back))
      ]
