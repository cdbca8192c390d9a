-- A stretch of items that are mixed, all at once.
use Rattle.std.proofs.Common.{◌≡◌, ◌≤◌, ◌+◌, ◌-◌, ◌∙◌, ◌++◌, ℕ, ℤ, zero, suc, Some, List, [], ◌∷◌, length, take, drop, map, arith, refl, ap, sym, subst, append_assoc, take-add}
use Rattle.std.proofs.lemmas.List.{length-append, length-drop, length-map, length-take, drop_at, drop-drop, take_at, map-append, take-take}
use Rattle.frame_core.specs.declared.cell.Cell.{Cell}
use Rattle.frame_core.specs.Slots.{Slot, slot_left, slot_right}
use Rattle.sample_kernels.specs.Mixing.{faded, mixed}
use Rattle.op_cross.specs.Crossfade.{mixed_cell, mixed_cells, cross}
use Rattle.op_cross.specs.States.{Crossing, StandsFor, IsCrossing, gap_of, mixed_on, mixed_side, ready_items}
use Rattle.op_cross.proofs.Standing.{mixed_gone, settled_now}

pub none_gone : (s : Crossing) → mixed_on 0 s ≡ s
none_gone s = let same : s.ready - 0 ≡ s.ready = omega arith in ap (λ n. record s { ready = n }) same

mixed_crossing : (s : Crossing) (n : ℕ) → IsCrossing s → length s.next ≡ s.ready → n ≤ s.ready → IsCrossing (mixed_on n s)
mixed_crossing s n is all few =
    let cells = length-drop n s.cells in
    let next = length-drop n s.next in
    record {
      overlap = is.overlap;
      ready = omega (arith, cells, is.ready);
      held = omega (arith, cells, is.held, is.ready, few);
      growing = λ ready some. absurd (omega (arith, ready, some, next, all));
      mixing = λ some. let mixing = is.mixing (omega (arith, some)) in (omega (arith, next, all), omega (arith, next, mixing.1));
      begun = λ some less. absurd (omega (arith, less, next, all));
      whole = is.whole;
      ended = λ gap. let whole = is.ended gap in omega (arith, cells, whole);
    }

-- so many mixed items have gone
mixed_stands : (s : Crossing) (slots : List Slot) (p n : ℕ) → IsCrossing s → StandsFor s slots p → length s.next ≡ s.ready → n ≤ s.ready → StandsFor (mixed_on n s) slots (p + n)
mixed_stands s slots p zero is stands all few =
    let here : p ≡ p + 0 = omega arith in
    subst (λ m. StandsFor (mixed_on 0 s) slots m) here (subst (λ t. StandsFor t slots p) (sym (none_gone s)) stands)
mixed_stands s slots p (suc n) is stands all few =
    let one : n + 1 ≡ suc n = omega arith in
    let there : suc (p + n) ≡ p + suc n = omega arith in
    let long = length-drop n s.next in
    subst (λ m. StandsFor (mixed_on (suc n) s) slots m) there
    (mixed_gone (mixed_on n s) (mixed_on (suc n) s) slots (p + n) (mixed_crossing s n is all (omega (arith, few))) (mixed_stands s slots p n is stands all (omega (arith, few)))
    (omega (arith, long, all)) (omega (arith, few)) refl
    (sym (drop-drop 1 n s.cells ∙ ap (λ m. drop m s.cells) one))
    (sym (drop-drop 1 n s.next ∙ ap (λ m. drop m s.next) one))
    (omega arith) refl refl)

take_mixed : (n : ℕ) (from to : List Cell) (at whole : ℕ) (more : List Slot) → n ≤ length from → n ≤ length to
    → take n (mixed_cells from to at whole ++ more) ≡ mixed_cells (take n from) (take n to) at whole
take_mixed zero from to at whole more there also = refl
take_mixed (suc n) [] to at whole more there also = absurd (omega (arith, there))
take_mixed (suc n) (a ∷ from) [] at whole more there also = absurd (omega (arith, also))
take_mixed (suc n) (a ∷ from) (b ∷ to) at whole more there also =
    ap (λ l. Some (mixed_cell a b at whole) ∷ l) (take_mixed n from to (suc at) whole more (omega (arith, there)) (omega (arith, also)))

-- the samples of mixed cells
mixed_left : (from to : List Cell) (at whole : ℕ) → map slot_left (mixed_cells from to at whole) ≡ mixed (map (λ (cell : Cell). cell.left) from) (map (λ (cell : Cell). cell.left) to) at whole
mixed_left [] to at whole = refl
mixed_left (a ∷ from) [] at whole = refl
mixed_left (a ∷ from) (b ∷ to) at whole = ap (λ l. faded a.left b.left at whole ∷ l) (mixed_left from to (suc at) whole)

mixed_right : (from to : List Cell) (at whole : ℕ) → map slot_right (mixed_cells from to at whole) ≡ mixed (map (λ (cell : Cell). cell.right) from) (map (λ (cell : Cell). cell.right) to) at whole
mixed_right [] to at whole = refl
mixed_right (a ∷ from) [] at whole = refl
mixed_right (a ∷ from) (b ∷ to) at whole = ap (λ l. faded a.right b.right at whole ∷ l) (mixed_right from to (suc at) whole)

-- the first of the items, where all that are ready are mixed
mixed_items : (s : Crossing) (slots : List Slot) (p n : ℕ) → IsCrossing s → StandsFor s slots p → length s.next ≡ s.ready → n ≤ s.ready
    → take n (drop p (cross s.overlap slots)) ≡ mixed_cells (take n s.cells) (take n s.next) (s.whole - length s.next) s.whole
mixed_items s slots p n is stands all few =
    let none : s.ready - length s.next ≡ 0 = omega (arith, all) in
    let at = s.whole - length s.next in
    let long = length-take s.ready s.cells in
    ap (λ l. take n (drop p l)) (settled_now s slots p is stands)
    ∙ ap (take n) (drop_at stands.past (ready_items s) p stands.count)
    ∙ ap (λ m. take n ((map Some (take m s.cells) ++ mixed_cells (drop m (take s.ready s.cells)) s.next at s.whole) ++ gap_of s.gap)) none
    ∙ take_mixed n (take s.ready s.cells) s.next at s.whole (gap_of s.gap) (omega (arith, long, few, is.ready)) (omega (arith, all, few))
    ∙ ap (λ l. mixed_cells l (take n s.next) at s.whole) (take-take n s.ready s.cells few)

-- where nothing is ready, nothing is given
all_mixed : (s : Crossing) (n : ℕ) → IsCrossing s → s.ready ≤ length s.next → suc n ≤ s.ready → length s.next ≡ s.ready
all_mixed s n is most few = let mixing = is.mixing (omega (arith, few)) in omega (arith, mixing.0, most)

pub mixed_given : (s : Crossing) (slots : List Slot) (p n : ℕ) → IsCrossing s → StandsFor s slots p → s.ready ≤ length s.next → n ≤ s.ready → StandsFor (mixed_on n s) slots (p + n)
mixed_given s slots p zero is stands most few =
    let here : p ≡ p + 0 = omega arith in
    subst (λ m. StandsFor (mixed_on 0 s) slots m) here (subst (λ t. StandsFor t slots p) (sym (none_gone s)) stands)
mixed_given s slots p (suc n) is stands most few = mixed_stands s slots p (suc n) is stands (all_mixed s n is most few) few

pub mixed_lefts : (s : Crossing) (slots : List Slot) (p n : ℕ) → IsCrossing s → StandsFor s slots p → s.ready ≤ length s.next → n ≤ s.ready
    → mixed_side (λ cell. cell.left) n s ≡ map slot_left (take n (drop p (cross s.overlap slots)))
mixed_lefts s slots p zero is stands most few = refl
mixed_lefts s slots p (suc m) is stands most few =
    let n = suc m in
    let all = all_mixed s m is most few in
    sym (ap (map slot_left) (mixed_items s slots p n is stands all few) ∙ mixed_left (take n s.cells) (take n s.next) (s.whole - length s.next) s.whole)

pub mixed_rights : (s : Crossing) (slots : List Slot) (p n : ℕ) → IsCrossing s → StandsFor s slots p → s.ready ≤ length s.next → n ≤ s.ready
    → mixed_side (λ cell. cell.right) n s ≡ map slot_right (take n (drop p (cross s.overlap slots)))
mixed_rights s slots p zero is stands most few = refl
mixed_rights s slots p (suc m) is stands most few =
    let n = suc m in
    let all = all_mixed s m is most few in
    sym (ap (map slot_right) (mixed_items s slots p n is stands all few) ∙ mixed_right (take n s.cells) (take n s.next) (s.whole - length s.next) s.whole)

mixed-append : (from to us vs : List ℤ) (at whole : ℕ) → length from ≡ length to → mixed (from ++ us) (to ++ vs) at whole ≡ mixed from to at whole ++ mixed us vs (at + length from) whole
mixed-append [] [] us vs at whole same = let here : at ≡ at + 0 = omega arith in ap (λ n. mixed us vs n whole) here
mixed-append [] (b ∷ to) us vs at whole same = absurd (omega (arith, same))
mixed-append (a ∷ from) [] us vs at whole same = absurd (omega (arith, same))
mixed-append (a ∷ from) (b ∷ to) us vs at whole same =
    let there : suc at + length from ≡ at + length (a ∷ from) = omega arith in
    ap (λ l. faded a b at whole ∷ l) (mixed-append from to us vs (suc at) whole (omega (arith, same)))
    ∙ ap (λ n. faded a b at whole ∷ (mixed from to (suc at) whole ++ mixed us vs n whole)) there

take_map : (side : Cell → ℤ) (cells : List Cell) (done many : ℕ) → map side (take done cells) ++ map side (take many (drop done cells)) ≡ map side (take (done + many) cells)
take_map side cells done many = sym (map-append side (take done cells) (take many (drop done cells))) ∙ ap (map side) (sym (take-add done many cells))

long_map : (side : Cell → ℤ) (cells : List Cell) (n : ℕ) → n ≤ length cells → length (map side (take n cells)) ≡ n
long_map side cells n there = length-map (take n cells) side ∙ length-take n cells ∙ omega (arith, there)

-- the next ones behind the first
more_mixed : (side : Cell → ℤ) (s : Crossing) (done many : ℕ) → done + many ≤ length s.cells → done + many ≤ length s.next → length s.next ≤ s.whole
    → mixed_side side done s ++ mixed_side side many (mixed_on done s) ≡ mixed_side side (done + many) s
more_mixed side s done many cells next whole =
    let long = length-drop done s.next in
    let froms = long_map side s.cells done (omega (arith, cells)) in
    let tos = long_map side s.next done (omega (arith, next)) in
    let there : s.whole - length (drop done s.next) ≡ (s.whole - length s.next) + length (map side (take done s.cells)) = omega (arith, long, froms, next, whole) in
    ap (λ n. mixed_side side done s ++ mixed (map side (take many (drop done s.cells))) (map side (take many (drop done s.next))) n s.whole) there
    ∙ sym (mixed-append (map side (take done s.cells)) (map side (take done s.next)) (map side (take many (drop done s.cells))) (map side (take many (drop done s.next)))
    (s.whole - length s.next) s.whole (omega (arith, froms, tos)))
    ∙ ap (λ l. mixed l (map side (take done s.next) ++ map side (take many (drop done s.next))) (s.whole - length s.next) s.whole) (take_map side s.cells done many)
    ∙ ap (λ l. mixed (map side (take (done + many) s.cells)) l (s.whole - length s.next) s.whole) (take_map side s.next done many)

length-mixed : (from to : List ℤ) (at whole : ℕ) → length from ≡ length to → length (mixed from to at whole) ≡ length from
length-mixed [] to at whole same = refl
length-mixed (a ∷ from) [] at whole same = absurd (omega (arith, same))
length-mixed (a ∷ from) (b ∷ to) at whole same = ap suc (length-mixed from to (suc at) whole (omega (arith, same)))

-- the state when more of them have gone
pub mixed_twice : (s : Crossing) (done many : ℕ) → mixed_on many (mixed_on done s) ≡ mixed_on (done + many) s
mixed_twice s done many =
    let left : s.ready - done - many ≡ s.ready - (done + many) = omega arith in
    ap (λ l. record s { cells = l; next = drop many (drop done s.next); ready = s.ready - done - many }) (drop-drop many done s.cells)
    ∙ ap (λ l. record s { cells = drop (done + many) s.cells; next = l; ready = s.ready - done - many }) (drop-drop many done s.next)
    ∙ ap (λ n. record s { cells = drop (done + many) s.cells; next = drop (done + many) s.next; ready = n }) left

pub long_part : (samples : List ℤ) (done many part : ℕ) → done + many ≤ length samples → part ≡ many → length (take part (drop done samples)) ≡ many
long_part samples done many part within same = omega (arith, length-take part (drop done samples), length-drop done samples, within, same)

-- a block of samples of one side, which is laid behind the first ones
module _ (side : Cell → ℤ) (s now : Crossing) (done many cut part : ℕ) (samples block : List ℤ) (was : now ≡ mixed_on done s)
    (cells : done + many ≤ length s.cells) (next : done + many ≤ length s.next) (whole : length s.next ≤ s.whole) (cut_is : cut ≡ many) (part_is : part ≡ many)
    (room : done + many ≤ length samples) (made : block ≡ mixed_side side cut now) where
  block_is : block ≡ mixed_side side many (mixed_on done s)
  block_is = made ∙ ap (λ n. mixed_side side n now) cut_is ∙ ap (mixed_side side many) was

  long_block : length block ≡ many
  long_block =
      let from = long_map side (drop done s.cells) many (let long = length-drop done s.cells in omega (arith, long, cells)) in
      let to = long_map side (drop done s.next) many (let long = length-drop done s.next in omega (arith, long, next)) in
      ap length block_is
      ∙ length-mixed (map side (take many (drop done s.cells))) (map side (take many (drop done s.next))) (s.whole - length (drop done s.next)) s.whole (omega (arith, from, to))
      ∙ from

  pub long_after : length (take done samples ++ (block ++ drop part (drop done samples))) ≡ length samples
  long_after =
      let front = length-take done samples in
      let behind = length-drop done samples in
      let rest = length-drop part (drop done samples) in
      let both = length-append block (drop part (drop done samples)) in
      omega (arith, length-append (take done samples) (block ++ drop part (drop done samples)), both, front, behind, rest, long_block, part_is, room)

  pub taken_after : take done samples ≡ mixed_side side done s → take (done + many) (take done samples ++ (block ++ drop part (drop done samples))) ≡ mixed_side side (done + many) s
  taken_after before =
      let front = length-take done samples in
      ap (take (done + many)) (sym (append_assoc (take done samples) block (drop part (drop done samples))))
      ∙ take_at (take done samples ++ block) (drop part (drop done samples)) (done + many) (let both = length-append (take done samples) block in omega (arith, both, front, long_block, room))
      ∙ ap (λ l. l ++ block) before
      ∙ ap (λ l. mixed_side side done s ++ l) block_is
      ∙ more_mixed side s done many cells next whole
