-- What a crossfade's state stands for, before and after a step.
use Rattle.std.proofs.Common.{◌≡◌, ◌<◌, ◌≤◌, ◌+◌, ◌*◌, ◌-◌, ◌∙◌, ◌++◌, ℕ, zero, suc, Some, None, List, [], ◌∷◌, length, take, drop, map, Bool, true, false, arith, refl, ap, sym, subst, append_assoc}
use Rattle.std.specs.Prelude.{slice_get, nat_eq, nat_lt, not, ◌&&◌, IsTrue, ◌↔◌}
use Rattle.std.proofs.lemmas.List.{length-append, length-drop, append-nil, get_or-append-add}
use Rattle.std.proofs.lemmas.Bool.Decides.{nat_tests}
use Rattle.std.proofs.Math.Seq.{drop-nil}
use Rattle.frame_core.specs.declared.cell.Cell.{Cell}
use Rattle.frame_core.specs.Slots.{Slot, slot_at}
use Rattle.op_cross.specs.Crossfade.{mixed_cell, mixed_cells, cross}
use Rattle.op_cross.specs.States.{Crossing, StandsFor, IsCrossing, AllInner, IsTrack, BeginsTrack, held, growing, growing_at, ready_cells, gap_of, ready_items, unsettled, wants, position_after}
use Rattle.op_cross.proofs.CrossLaws.{cross-many}
use Rattle.op_cross.proofs.Filling.{nothing_settled}

-- the cells that are ready, by the parts of the state
abbrev pub ready_of : ℕ → ℕ → List Cell → List Cell → List Slot
ready_of ready whole cells next =
    map Some (take (ready - length next) cells) ++ mixed_cells (drop (ready - length next) (take ready cells)) next (whole - length next) whole

pub take_none : (n : ℕ) (cells : List Cell) → n ≡ 0 → take n cells ≡ []
take_none n cells none = ap (λ n. take n cells) none

none_ready : (ready whole : ℕ) (cells next : List Cell) → ready ≡ 0 → ready_of ready whole cells next ≡ []
none_ready ready whole cells next none =
    let before : ready - length next ≡ 0 = omega (arith, none) in
    ap (λ l. map Some l ++ mixed_cells (drop (ready - length next) (take ready cells)) next (whole - length next) whole) (take_none (ready - length next) cells before)
    ∙ ap (λ l. mixed_cells (drop (ready - length next) l) next (whole - length next) whole) (take_none ready cells none)
    ∙ ap (λ l. mixed_cells l next (whole - length next) whole) (drop-nil {A = Cell} (ready - length next))

pub none_ready_items : (s : Crossing) → s.ready ≡ 0 → s.gap ≡ false → ready_items s ≡ []
none_ready_items s none no_gap =
    ap (λ l. l ++ gap_of s.gap) (none_ready s.ready s.whole s.cells s.next none) ∙ ap gap_of no_gap

held_short : (s : Crossing) → IsCrossing s → length (held s) ≤ s.overlap
held_short s is = let rest = length-drop s.ready s.cells in omega (arith, rest, is.held)

growing_short : (s : Crossing) → IsCrossing s → 0 < length (growing s) → length (growing s) < length (held s)
growing_short s is some = by s.ready refl
  where
    by : (n : ℕ) → s.ready ≡ n → length (growing s) < length (held s)
    by zero e =
        let same : length (growing s) ≡ length s.next = ap (λ n. length (growing_at n s.next)) e in
        let rest = length-drop s.ready s.cells in
        omega (arith, same, rest, e, is.growing e (omega (arith, same, some)))
    by (suc n) e = let none : length (growing s) ≡ 0 = ap (λ n. length (growing_at n s.next)) e in absurd (omega (arith, none, some))

-- the settled items are the past ones and those that are ready
pub settled_now : (s : Crossing) (slots : List Slot) (p : ℕ) → IsCrossing s → (stands : StandsFor s slots p) → cross s.overlap slots ≡ stands.past ++ ready_items s
settled_now s slots p is stands =
    let nothing = nothing_settled s.overlap (held s) (growing s) stands.track stands.next (held_short s is) (growing_short s is) in
    ap (cross s.overlap) (sym (append-nil slots))
    ∙ stands.items []
    ∙ ap (λ l. stands.past ++ (ready_items s ++ l)) nothing
    ∙ ap (λ l. stands.past ++ l) (append-nil (ready_items s))

pub item_now : (s : Crossing) (slots : List Slot) (p : ℕ) → IsCrossing s → StandsFor s slots p → slot_at (cross s.overlap slots) p ≡ slot_at (ready_items s) 0
item_now s slots p is stands =
    let all = settled_now s slots p is stands in
    let at : p ≡ length stands.past + 0 = omega (arith, stands.count) in
    ap (λ l. slot_at l p) all ∙ ap (λ n. slot_at (stands.past ++ ready_items s) n) at ∙ get_or-append-add stands.past (ready_items s) 0 None

-- whether the item is settled
pub is_settled : (s : Crossing) (slots : List Slot) (p : ℕ) → IsCrossing s → StandsFor s slots p → length (cross s.overlap slots) ≡ p + length (ready_items s)
is_settled s slots p is stands =
    let all = settled_now s slots p is stands in
    let long = length-append stands.past (ready_items s) in
    ap length all ∙ omega (arith, long, stands.count)

-- ---- what is offered

pub none_offered : (s : Crossing) → s.ready ≡ 0 → slot_at (ready_items s) 0 ≡ None
none_offered s none = ap (λ l. slot_at (l ++ gap_of s.gap) 0) (none_ready s.ready s.whole s.cells s.next none) ∙ by s.gap
  where
    by : (gap : Bool) → slot_at (gap_of gap) 0 ≡ None
    by true = refl
    by false = refl

front_is : (cells : List Cell) (a : Cell) → slice_get cells 0 ≡ Some a → (rest : List Cell) × (cells ≡ a ∷ rest)
front_is [] a e = absurd (cc e)
front_is (b ∷ cells) a e = (cells, ap (λ x. x ∷ cells) (cc e))

-- what is left at a front that is not mixed
pub plain_front : (ready whole n : ℕ) (a : Cell) (rest next : List Cell) → ready ≡ suc n → length next < ready →
    ready_of ready whole (a ∷ rest) next ≡ Some a ∷ ready_of n whole rest next
plain_front ready whole n a rest next e few =
    let before : ready - length next ≡ suc (n - length next) = omega (arith, e, few) in
    ap (λ m. map Some (take m (a ∷ rest)) ++ mixed_cells (drop m (take ready (a ∷ rest))) next (whole - length next) whole) before
    ∙ ap (λ m. Some a ∷ (map Some (take (n - length next) rest) ++ mixed_cells (drop (suc (n - length next)) (take m (a ∷ rest))) next (whole - length next) whole)) e

mixed_front : (ready whole n : ℕ) (a : Cell) (rest : List Cell) (b : Cell) (next : List Cell) → ready ≡ suc n → length (b ∷ next) ≡ ready → length (b ∷ next) ≤ whole →
    ready_of ready whole (a ∷ rest) (b ∷ next) ≡ Some (mixed_cell a b (whole - length (b ∷ next)) whole) ∷ ready_of n whole rest next
mixed_front ready whole n a rest b next e all fits =
    let before : ready - length (b ∷ next) ≡ 0 = omega (arith, all) in
    let after : n - length next ≡ 0 = omega (arith, all, e) in
    let step : suc (whole - length (b ∷ next)) ≡ whole - length next = omega (arith, fits) in
    ap (λ m. map Some (take m (a ∷ rest)) ++ mixed_cells (drop m (take ready (a ∷ rest))) (b ∷ next) (whole - length (b ∷ next)) whole) before
    ∙ ap (λ m. mixed_cells (take m (a ∷ rest)) (b ∷ next) (whole - length (b ∷ next)) whole) e
    ∙ ap (λ m. Some (mixed_cell a b (whole - length (b ∷ next)) whole) ∷ mixed_cells (take n rest) next m whole) step
    ∙ sym (ap (λ m. Some (mixed_cell a b (whole - length (b ∷ next)) whole) ∷ (map Some (take m rest) ++ mixed_cells (drop m (take n rest)) next (whole - length next) whole)) after)

pub none_front : (cells : List Cell) → slice_get cells 0 ≡ None → length cells ≡ 0
none_front [] e = refl
none_front (a ∷ cells) e = absurd (cc e)

pub some_ready : (n : ℕ) → 0 < n → (m : ℕ) × (n ≡ suc m)
some_ready zero some = absurd (omega (arith, some))
some_ready (suc n) some = (n, refl)

pub plain_offered : (s : Crossing) (a : Cell) → slice_get s.cells 0 ≡ Some a → length s.next < s.ready → slot_at (ready_items s) 0 ≡ Some a
plain_offered s a e few =
    let front = front_is s.cells a e in
    let n = some_ready s.ready (omega (arith, few)) in
    ap (λ l. slot_at (ready_of s.ready s.whole l s.next ++ gap_of s.gap) 0) front.1
    ∙ ap (λ l. slot_at (l ++ gap_of s.gap) 0) (plain_front s.ready s.whole n.0 a front.0 s.next n.1 few)

pub mixed_offered : (s : Crossing) (a b : Cell) → IsCrossing s → slice_get s.cells 0 ≡ Some a → slice_get s.next 0 ≡ Some b → 0 < s.ready → s.ready ≤ length s.next →
    slot_at (ready_items s) 0 ≡ Some (mixed_cell a b (s.whole - length s.next) s.whole)
mixed_offered s a b is e e' some few =
    let front = front_is s.cells a e in
    let next = front_is s.next b e' in
    let n = some_ready s.ready some in
    let mixing = is.mixing some in
    let long : length s.next ≡ length (b ∷ next.0) = ap length next.1 in
    ap (λ l. slot_at (ready_of s.ready s.whole l s.next ++ gap_of s.gap) 0) front.1
    ∙ ap (λ l. slot_at (ready_of s.ready s.whole (a ∷ front.0) l ++ gap_of s.gap) 0) next.1
    ∙ ap (λ l. slot_at (l ++ gap_of s.gap) 0) (mixed_front s.ready s.whole n.0 a front.0 b next.0 n.1 (omega (arith, long, few, mixing.0)) (omega (arith, long, mixing.1)))
    ∙ ap (λ m. Some (mixed_cell a b (s.whole - m) s.whole)) (sym long)

-- ---- the next item

-- the item is gone, and what is held is the same
pub gone : (s t : Crossing) (slots : List Slot) (p : ℕ) (item : Slot) → StandsFor s slots p → t.overlap ≡ s.overlap → ready_items s ≡ item ∷ ready_items t →
    IsTrack (take (t.ready - length t.next) t.cells) → held t ≡ held s → growing t ≡ growing s → StandsFor t slots (suc p)
gone s t slots p item stands same is plain same_held same_growing = record {
  past = stands.past ++ item ∷ [];
  count = length-append stands.past (item ∷ []) ∙ omega (arith, stands.count);
  items = λ more.
      let unsettled_same : unsettled t more ≡ unsettled s more = ap (λ l. map Some l ++ (map Some (growing t) ++ more)) same_held ∙ ap (λ l. map Some (held s) ++ (map Some l ++ more)) same_growing in
      ap (λ n. cross n (slots ++ more)) same
      ∙ stands.items more
      ∙ ap (λ l. stands.past ++ (l ++ cross s.overlap (unsettled s more))) is
      ∙ sym (append_assoc stands.past (item ∷ []) (ready_items t ++ cross s.overlap (unsettled s more)))
      ∙ ap (λ n. (stands.past ++ item ∷ []) ++ (ready_items t ++ cross n (unsettled s more))) (sym same)
      ∙ ap (λ l. (stands.past ++ item ∷ []) ++ (ready_items t ++ cross t.overlap l)) (sym unsettled_same);
  plain = plain;
  track = subst IsTrack (sym same_held) stands.track;
  next = subst BeginsTrack (sym same_growing) stands.next;
}

some_front : (cells : List Cell) → 0 < length cells → (a : Cell) × (rest : List Cell) × (cells ≡ a ∷ rest)
some_front [] some = absurd (omega arith)
some_front (a ∷ rest) some = (a, rest, refl)

pub growing_one : (n : ℕ) (next : List Cell) → length next ≤ n → growing_at n next ≡ []
growing_one zero [] few = refl
growing_one zero (b ∷ next) few = absurd (omega (arith, few))
growing_one (suc n) next few = refl

track_none : (n : ℕ) (cells : List Cell) → n ≡ 0 → IsTrack (take n cells)
track_none n cells none = subst IsTrack (sym (take_none n cells none)) tt

inner_track : (cells : List Cell) → AllInner cells → IsTrack cells
inner_track [] inner = tt
inner_track (a ∷ cells) inner = inner.1

-- an item that is given as it is
pub plain_gone : (s t : Crossing) (slots : List Slot) (p : ℕ) → IsCrossing s → StandsFor s slots p → length s.next < s.ready →
    t.overlap ≡ s.overlap → t.cells ≡ drop 1 s.cells → t.next ≡ s.next → t.ready ≡ s.ready - 1 → t.whole ≡ s.whole → t.gap ≡ s.gap → StandsFor t slots (suc p)
plain_gone s t slots p is stands few same cells next ready whole gap =
    let n = some_ready s.ready (omega (arith, few)) in
    let front = some_front s.cells (omega (arith, few, is.ready)) in
    let one : t.ready ≡ n.0 = omega (arith, ready, n.1) in
    let rest : t.cells ≡ front.1 = cells ∙ ap (drop 1) front.2 in
    gone s t slots p (Some front.0) stands same
    (ap (λ l. ready_of s.ready s.whole l s.next ++ gap_of s.gap) front.2
    ∙ ap (λ l. l ++ gap_of s.gap) (plain_front s.ready s.whole n.0 front.0 front.1 s.next n.1 few)
    ∙ ap (λ m. Some front.0 ∷ (ready_of m s.whole front.1 s.next ++ gap_of s.gap)) (sym one)
    ∙ ap (λ m. Some front.0 ∷ (ready_of t.ready m front.1 s.next ++ gap_of s.gap)) (sym whole)
    ∙ ap (λ l. Some front.0 ∷ (ready_of t.ready t.whole l s.next ++ gap_of s.gap)) (sym rest)
    ∙ ap (λ l. Some front.0 ∷ (ready_of t.ready t.whole t.cells l ++ gap_of s.gap)) (sym next)
    ∙ ap (λ g. Some front.0 ∷ (ready_of t.ready t.whole t.cells t.next ++ gap_of g)) (sym gap))
    (let before : s.ready - length s.next ≡ suc (n.0 - length s.next) = omega (arith, few, n.1) in
    let plain : IsTrack (take (suc (n.0 - length s.next)) (front.0 ∷ front.1)) = subst (λ l. IsTrack (take (suc (n.0 - length s.next)) l)) front.2 (subst (λ m. IsTrack (take m s.cells)) before stands.plain) in
    let after : t.ready - length t.next ≡ n.0 - length s.next = ap (λ m. m - length t.next) one ∙ ap (λ l. n.0 - length l) next in
    subst (λ l. IsTrack (take (t.ready - length t.next) l)) (sym rest) (subst (λ m. IsTrack (take m front.1)) (sym after) (inner_track (take (n.0 - length s.next) front.1) plain)))
    (ap (λ m. drop m t.cells) one ∙ ap (drop n.0) rest ∙ sym (ap (λ m. drop m s.cells) n.1 ∙ ap (drop (suc n.0)) front.2))
    (ap (λ l. growing_at t.ready l) next ∙ growing_one t.ready s.next (omega (arith, few, one, n.1)) ∙ sym (ap (λ m. growing_at m s.next) n.1))

-- a mixed item
pub mixed_gone : (s t : Crossing) (slots : List Slot) (p : ℕ) → IsCrossing s → StandsFor s slots p → length s.next ≡ s.ready → 0 < s.ready →
    t.overlap ≡ s.overlap → t.cells ≡ drop 1 s.cells → t.next ≡ drop 1 s.next → t.ready ≡ s.ready - 1 → t.whole ≡ s.whole → t.gap ≡ s.gap → StandsFor t slots (suc p)
mixed_gone s t slots p is stands all some same cells next ready whole gap =
    let n = some_ready s.ready some in
    let front = some_front s.cells (omega (arith, some, is.ready)) in
    let other = some_front s.next (omega (arith, all, some)) in
    let one : t.ready ≡ n.0 = omega (arith, ready, n.1) in
    let rest : t.cells ≡ front.1 = cells ∙ ap (drop 1) front.2 in
    let rest_next : t.next ≡ other.1 = next ∙ ap (drop 1) other.2 in
    let long : length s.next ≡ length (other.0 ∷ other.1) = ap length other.2 in
    let long_next : length t.next ≡ length other.1 = ap length rest_next in
    let mixing = is.mixing some in
    let item = Some (mixed_cell front.0 other.0 (s.whole - length (other.0 ∷ other.1)) s.whole) in
    gone s t slots p item stands same
    (ap (λ l. ready_of s.ready s.whole l s.next ++ gap_of s.gap) front.2
    ∙ ap (λ l. ready_of s.ready s.whole (front.0 ∷ front.1) l ++ gap_of s.gap) other.2
    ∙ ap (λ l. l ++ gap_of s.gap) (mixed_front s.ready s.whole n.0 front.0 front.1 other.0 other.1 n.1 (omega (arith, long, all)) (omega (arith, long, mixing.1)))
    ∙ ap (λ m. item ∷ (ready_of m s.whole front.1 other.1 ++ gap_of s.gap)) (sym one)
    ∙ ap (λ m. item ∷ (ready_of t.ready m front.1 other.1 ++ gap_of s.gap)) (sym whole)
    ∙ ap (λ l. item ∷ (ready_of t.ready t.whole l other.1 ++ gap_of s.gap)) (sym rest)
    ∙ ap (λ l. item ∷ (ready_of t.ready t.whole t.cells l ++ gap_of s.gap)) (sym rest_next)
    ∙ ap (λ g. item ∷ (ready_of t.ready t.whole t.cells t.next ++ gap_of g)) (sym gap))
    (track_none (t.ready - length t.next) t.cells (omega (arith, one, long_next, long, all, n.1)))
    (ap (λ m. drop m t.cells) one ∙ ap (drop n.0) rest ∙ sym (ap (λ m. drop m s.cells) n.1 ∙ ap (drop (suc n.0)) front.2))
    (growing_one t.ready t.next (omega (arith, long_next, long, all, one, n.1)) ∙ sym (ap (λ m. growing_at m s.next) n.1))

-- an empty item
pub gap_gone : (s t : Crossing) (slots : List Slot) (p : ℕ) → StandsFor s slots p → s.ready ≡ 0 → s.gap ≡ true →
    t.overlap ≡ s.overlap → t.cells ≡ s.cells → t.next ≡ s.next → t.ready ≡ s.ready → t.gap ≡ false → StandsFor t slots (suc p)
gap_gone s t slots p stands none gap same cells next ready no_gap =
    gone s t slots p None stands same
    (ap (λ l. l ++ gap_of s.gap) (none_ready s.ready s.whole s.cells s.next none) ∙ ap gap_of gap ∙ sym (ap (λ l. None ∷ l) (none_ready_items t (ready ∙ none) no_gap)))
    (track_none (t.ready - length t.next) t.cells (omega (arith, ready, none)))
    (ap (λ m. drop m t.cells) ready ∙ ap (drop s.ready) cells)
    (ap (λ m. growing_at m t.next) ready ∙ ap (growing_at s.ready) next)

pub goes_on : (gave : Bool) (slot : Slot) (p : ℕ) → gave ≡ true → position_after gave slot p ≡ suc p
goes_on gave None p e = refl
goes_on gave (Some cell) p e = rw e refl

pub stays : (gave : Bool) (slot : Slot) (cell : Cell) (p : ℕ) → gave ≡ false → slot ≡ Some cell → position_after gave slot p ≡ p
stays gave slot cell p e is = rw (is, e) refl

-- ---- whether its item is settled

pub by_less : {P : Type 0} (a b : ℕ) → a ≤ b → (a < b → P) → (a ≡ b → P) → P
by_less {P = P} a b le less same = by (nat_lt a b) refl
  where
    by : (t : Bool) → nat_lt a b ≡ t → P
    by true e = less (grind (arith, nat_tests))
    by false e = same (grind (arith, nat_tests))

some_items : (s : Crossing) → IsCrossing s → 0 < s.ready → 0 < length (ready_items s)
some_items s is some =
    let n = some_ready s.ready some in
    let front = some_front s.cells (omega (arith, some, is.ready)) in
    let mixing = is.mixing some in
    by_less (length s.next) s.ready mixing.0
    (λ few. let items : ready_items s ≡ Some front.0 ∷ (ready_of n.0 s.whole front.1 s.next ++ gap_of s.gap) =
    ap (λ l. ready_of s.ready s.whole l s.next ++ gap_of s.gap) front.2 ∙ ap (λ l. l ++ gap_of s.gap) (plain_front s.ready s.whole n.0 front.0 front.1 s.next n.1 few) in
    let long : length (ready_items s) ≡ suc (length (ready_of n.0 s.whole front.1 s.next ++ gap_of s.gap)) = ap length items in omega (arith, long))
    (λ all. let other = some_front s.next (omega (arith, all, some)) in
    let same : length s.next ≡ length (other.0 ∷ other.1) = ap length other.2 in
    let items : ready_items s ≡ Some (mixed_cell front.0 other.0 (s.whole - length (other.0 ∷ other.1)) s.whole) ∷ (ready_of n.0 s.whole front.1 other.1 ++ gap_of s.gap) =
    ap (λ l. ready_of s.ready s.whole l s.next ++ gap_of s.gap) front.2
    ∙ ap (λ l. ready_of s.ready s.whole (front.0 ∷ front.1) l ++ gap_of s.gap) other.2
    ∙ ap (λ l. l ++ gap_of s.gap) (mixed_front s.ready s.whole n.0 front.0 front.1 other.0 other.1 n.1 (omega (arith, same, all)) (omega (arith, same, mixing.1))) in
    let long : length (ready_items s) ≡ suc (length (ready_of n.0 s.whole front.1 other.1 ++ gap_of s.gap)) = ap length items in omega (arith, long))

pub zero_test : (n : ℕ) → (n ≡ 0 → ⊥) → nat_eq n 0 ≡ false
zero_test n some = grind (arith, nat_tests)

pub wants_is : (s : Crossing) (slots : List Slot) (p : ℕ) → IsCrossing s → StandsFor s slots p → (b : Bool) → b ≡ wants s → IsTrue b ↔ (length (cross s.overlap slots) ≤ p)
wants_is s slots p is stands b e = by s.ready s.gap refl refl
  where
    by : (n : ℕ) (gap : Bool) → s.ready ≡ n → s.gap ≡ gap → IsTrue b ↔ (length (cross s.overlap slots) ≤ p)
    by zero false none no_gap =
        let long : length (cross s.overlap slots) ≡ p + 0 = is_settled s slots p is stands ∙ ap (λ l. p + length l) (none_ready_items s none no_gap) in
        let yes : b ≡ true = e ∙ ap (λ n. nat_eq n 0 && not s.gap) none ∙ ap not no_gap in
        (λ h. omega (arith, long), λ h. yes)
    by zero true none gap =
        let items : ready_items s ≡ None ∷ [] = ap (λ l. l ++ gap_of s.gap) (none_ready s.ready s.whole s.cells s.next none) ∙ ap gap_of gap in
        let long : length (cross s.overlap slots) ≡ p + 1 = is_settled s slots p is stands ∙ ap (λ l. p + length l) items in
        let no : b ≡ false = e ∙ ap (λ n. nat_eq n 0 && not s.gap) none ∙ ap not gap in
        (λ h. absurd (let same : true ≡ false = sym h ∙ no in cc), λ h. absurd (omega (arith, long, h)))
    by (suc n) gap ready gap_is =
        let some = some_items s is (omega (arith, ready)) in
        let long = is_settled s slots p is stands in
        let no : b ≡ false = e ∙ ap (λ t. t && not s.gap) (zero_test s.ready (λ h. omega (arith, ready, h))) in
        (λ h. absurd (let same : true ≡ false = sym h ∙ no in cc), λ h. absurd (omega (arith, long, some, h)))

pub wants_then : (n : ℕ) (gap : Bool) → n ≡ 0 → not gap ≡ (nat_eq n 0 && not gap)
wants_then n gap none = sym (ap (λ n. nat_eq n 0 && not gap) none)

pub wants_else : (n : ℕ) (gap : Bool) → (n ≡ 0 → ⊥) → nat_eq n 0 ≡ (nat_eq n 0 && not gap)
wants_else n gap some = let no = zero_test n some in rw no refl

pub ends_gap : (s : Crossing) → wants s ≡ false → s.ready ≡ 0 → s.gap ≡ true
ends_gap s e none = by s.gap (sym (ap (λ n. nat_eq n 0 && not s.gap) none) ∙ e)
  where
    by : (gap : Bool) → not gap ≡ false → gap ≡ true
    by true e = refl
    by false e = cc

-- a ready cell is offered
pub some_offered : (s : Crossing) → IsCrossing s → 0 < s.ready → (cell : Cell) × (slot_at (ready_items s) 0 ≡ Some cell)
some_offered s is some =
    let front = some_front s.cells (omega (arith, some, is.ready)) in
    let mixing = is.mixing some in
    let first : slice_get s.cells 0 ≡ Some front.0 = ap (λ l. slice_get l 0) front.2 in
    by_less (length s.next) s.ready mixing.0
    (λ few. (front.0, plain_offered s front.0 first few))
    (λ all. let other = some_front s.next (omega (arith, all, some)) in
    let next : slice_get s.next 0 ≡ Some other.0 = ap (λ l. slice_get l 0) other.2 in
    (mixed_cell front.0 other.0 (s.whole - length s.next) s.whole, mixed_offered s front.0 other.0 is first next some (omega (arith, all))))

pub in_time : (s : Crossing) (slots : List Slot) (p : ℕ) → IsCrossing s → StandsFor s slots p → (b : Bool) → b ≡ wants s → 2 * p + 2 * s.overlap + 2 ≤ length slots → b ≡ false
in_time s slots p is stands b e long = by b refl
  where
    by : (t : Bool) → b ≡ t → b ≡ false
    by false same = same
    by true same =
        let few = (wants_is s slots p is stands b e).0 same in
        let many = cross-many s.overlap slots p long in
        absurd (omega (arith, few, many))

pub none_ready_at : (s : Crossing) → s.ready ≡ 0 → ready_cells s ≡ []
none_ready_at s none = none_ready s.ready s.whole s.cells s.next none
