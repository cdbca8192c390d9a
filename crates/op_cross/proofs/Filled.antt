-- What a crossfade's state stands for, once it was filled a slot.
use Rattle.std.proofs.Common.{◌≡◌, ◌<◌, ◌≤◌, ◌-◌, ◌∙◌, ◌++◌, inl, inr, ℕ, zero, suc, Some, None, List, [], ◌∷◌, length, take, drop, map, Bool, true, false, arith, refl, ap, sym, subst, append_assoc}
use Rattle.std.specs.Prelude.{nat_eq, nat_lt, not, ◌&&◌}
use Rattle.std.proofs.lemmas.Bool.Decides.{nat_tests}
use Rattle.std.proofs.lemmas.List.{length-append, append-nil, take-append-le, take_at, drop_at, drop_all, take_all}
use Rattle.frame_core.specs.declared.cell.Cell.{Cell}
use Rattle.frame_core.specs.Slots.{Slot}
use Rattle.op_cross.specs.Crossfade.{mixed_cells, cross}
use Rattle.op_cross.specs.States.{Crossing, StandsFor, IsCrossing, AllInner, IsTrack, BeginsTrack, held, growing, growing_at, gap_of, ready_items, unsettled, wants}
use Rattle.op_cross.proofs.Filling.{mixed_end, two_tracks, gap_first, gap_behind, one_settled}
use Rattle.op_cross.proofs.Standing.{ready_of, none_ready_items}

-- a state that wants a slot, as what it holds
pub record Wanting (s : Crossing) : Type 0 where
  pub ready : s.ready ≡ 0
  pub gap : s.gap ≡ false
  pub track : IsTrack s.cells
  pub next : BeginsTrack s.next
  pub short : length s.cells ≤ s.overlap
  pub less : 0 < length s.next → length s.next < length s.cells

pub no_test : (n : ℕ) → nat_lt 0 n ≡ false → n ≡ 0
no_test n e = grind (arith, nat_tests)

pub wants_none : (s : Crossing) → wants s ≡ true → (s.ready ≡ 0) × (s.gap ≡ false)
wants_none s e = by s.gap e
  where
    by : (gap : Bool) → (nat_eq s.ready 0 && not gap) ≡ true → (s.ready ≡ 0) × (gap ≡ false)
    by false e = (grind (arith, nat_tests), refl)
    by true e = absurd (never (nat_eq s.ready 0) e)
      where
        never : (b : Bool) → (b && false) ≡ true → ⊥
        never true e = cc
        never false e = cc

pub wanting : (s : Crossing) (slots : List Slot) (p : ℕ) → IsCrossing s → StandsFor s slots p → wants s ≡ true → Wanting s
wanting s slots p is stands e =
    let none = wants_none s e in
    record {
      ready = none.0;
      gap = none.1;
      track = subst (λ n. IsTrack (drop n s.cells)) none.0 stands.track;
      next = subst (λ n. BeginsTrack (growing_at n s.next)) none.0 stands.next;
      short = omega (arith, is.held, none.0);
      less = is.growing none.0;
    }

pub unsettled_is : (s : Crossing) (more : List Slot) → s.ready ≡ 0 → unsettled s more ≡ map Some s.cells ++ (map Some s.next ++ more)
unsettled_is s more ready = ap (λ n. map Some (drop n s.cells) ++ (map Some (growing_at n s.next) ++ more)) ready

step : (s t : Crossing) (slots : List Slot) (slot : Slot) (p : ℕ) → StandsFor s slots p → Wanting s → t.overlap ≡ s.overlap →
    ((more : List Slot) → cross s.overlap (map Some s.cells ++ (map Some s.next ++ slot ∷ more)) ≡ ready_items t ++ cross s.overlap (unsettled t more)) →
    IsTrack (take (t.ready - length t.next) t.cells) → IsTrack (held t) → BeginsTrack (growing t) → StandsFor t (slots ++ slot ∷ []) p
step s t slots slot p stands w same law plain track next = record {
  past = stands.past;
  count = stands.count;
  items = λ more.
      ap (λ n. cross n ((slots ++ slot ∷ []) ++ more)) same
      ∙ ap (cross s.overlap) (append_assoc slots (slot ∷ []) more)
      ∙ stands.items (slot ∷ more)
      ∙ ap (λ l. stands.past ++ (l ++ cross s.overlap (unsettled s (slot ∷ more)))) (none_ready_items s w.ready w.gap)
      ∙ ap (λ l. stands.past ++ cross s.overlap l) (unsettled_is s (slot ∷ more) w.ready)
      ∙ ap (λ l. stands.past ++ l) (law more)
      ∙ ap (λ n. stands.past ++ (ready_items t ++ cross n (unsettled t more))) (sym same);
  plain = plain;
  track = track;
  next = next;
}

pub track_none : (n : ℕ) (cells : List Cell) → n ≡ 0 → IsTrack (take n cells)
track_none n cells none = subst (λ n. IsTrack (take n cells)) (sym none) tt

track_part : (n : ℕ) (cells : List Cell) → IsTrack cells → IsTrack (take n cells)
track_part zero cells track = tt
track_part (suc n) [] track = tt
track_part (suc n) (a ∷ cells) track = inner_part n cells track
  where
    inner_part : (n : ℕ) (cells : List Cell) → AllInner cells → AllInner (take n cells)
    inner_part zero cells inner = tt
    inner_part (suc n) [] inner = tt
    inner_part (suc n) (a ∷ cells) inner = (inner.0, inner_part n cells inner.1)

-- the plain cells of what is ready, of a track r with more behind it
pub plain_track : (t : Crossing) (r more next : List Cell) → IsTrack r → length next ≤ length r → t.ready ≡ length r → t.next ≡ next → t.cells ≡ r ++ more → IsTrack (take (t.ready - length t.next) t.cells)
plain_track t r more next track few ready is_next cells =
    let n : t.ready - length t.next ≡ length r - length next = ap (λ m. m - length t.next) ready ∙ ap (λ l. length r - length l) is_next in
    let same : take (t.ready - length t.next) t.cells ≡ take (length r - length next) r =
    ap (λ m. take m t.cells) n ∙ ap (take (length r - length next)) cells ∙ take-append-le (length r - length next) r more (omega arith) in
    subst IsTrack (sym same) (track_part (length r - length next) r track)

growing_none : (n : ℕ) (next : List Cell) → (0 < length next → length next < n) → growing_at n next ≡ []
growing_none zero [] less = refl
growing_none zero (b ∷ next) less = absurd (omega (arith, less (omega arith)))
growing_none (suc n) next less = refl

pub growing_some : (n : ℕ) (next : List Cell) → 0 < n → growing_at n next ≡ []
growing_some zero next some = absurd (omega (arith, some))
growing_some (suc n) next some = refl

-- all that was held is ready
pub all_ready : (r more next : List Cell) → length next ≤ length r → ready_of (length r) (length next) (r ++ more) next ≡ mixed_end r next
all_ready r more next few =
    let none : length next - length next ≡ 0 = omega arith in
    ap (λ l. map Some l ++ mixed_cells (drop (length r - length next) (take (length r) (r ++ more))) next (length next - length next) (length next))
    (take-append-le (length r - length next) r more (omega arith))
    ∙ ap (λ l. map Some (take (length r - length next) r) ++ mixed_cells (drop (length r - length next) l) next (length next - length next) (length next))
    (take_at r more (length r) refl)
    ∙ ap (λ n. map Some (take (length r - length next) r) ++ mixed_cells (drop (length r - length next) r) next n (length next)) none

mixed_nil : (from : List Cell) (at whole : ℕ) → mixed_cells from [] at whole ≡ []
mixed_nil [] at whole = refl
mixed_nil (a ∷ from) at whole = refl

mixed_end_nil : (r : List Cell) → mixed_end r [] ≡ map Some r
mixed_end_nil r =
    let all : length r - 0 ≡ length r = omega arith in
    ap (λ l. map Some (take (length r - 0) r) ++ l) (mixed_nil (drop (length r - 0) r) 0 0)
    ∙ append-nil (map Some (take (length r - 0) r))
    ∙ ap (map Some) (take_all (length r - 0) r (omega arith))

-- ---- an empty slot

gap_law : (most : ℕ) (r next : List Cell) (more : List Slot) → IsTrack r → BeginsTrack next → length r ≤ most → (0 < length next → length next < length r) →
    cross most (map Some r ++ (map Some next ++ None ∷ more)) ≡ mixed_end r next ++ None ∷ cross most more
gap_law most r [] more track begins short less = gap_behind most r more track ∙ ap (λ l. l ++ None ∷ cross most more) (sym (mixed_end_nil r))
gap_law most [] (b ∷ next) more track begins short less = absurd (omega (arith, less (omega arith)))
gap_law most (a ∷ r) (b ∷ next) more track begins short less =
    two_tracks most a r b next (None ∷ more) track begins.0 begins.1 (omega (arith, less (omega arith), short)) (inl refl)
    ∙ ap (λ l. mixed_end (a ∷ r) (b ∷ next) ++ l) (gap_first most more)

few_or_none : (r next : List Cell) → (0 < length next → length next < length r) → length next ≤ length r
few_or_none r [] less = omega arith
few_or_none r (b ∷ next) less = omega (arith, less (omega arith))

pub filled_gap : (s t : Crossing) (slots : List Slot) (p : ℕ) → StandsFor s slots p → Wanting s → t.overlap ≡ s.overlap →
    t.cells ≡ s.cells → t.next ≡ s.next → t.ready ≡ length s.cells → t.whole ≡ length s.next → t.gap ≡ true → StandsFor t (slots ++ None ∷ []) p
filled_gap s t slots p stands w same cells next ready whole gap =
    let held_none : held t ≡ [] = ap (λ n. drop n t.cells) ready ∙ ap (drop (length s.cells)) cells ∙ drop_all (length s.cells) s.cells (omega arith) in
    let growing_none : growing t ≡ [] = ap (λ n. growing_at n t.next) ready ∙ ap (growing_at (length s.cells)) next ∙ growing_none (length s.cells) s.next w.less in
    let all : ready_of t.ready t.whole t.cells t.next ≡ mixed_end s.cells s.next =
    ap (λ n. ready_of n t.whole t.cells t.next) ready ∙ ap (λ n. ready_of (length s.cells) n t.cells t.next) whole
    ∙ ap (λ l. ready_of (length s.cells) (length s.next) l t.next) (cells ∙ sym (append-nil s.cells)) ∙ ap (λ l. ready_of (length s.cells) (length s.next) (s.cells ++ []) l) next
    ∙ all_ready s.cells [] s.next (few_or_none s.cells s.next w.less) in
    step s t slots None p stands w same
    (λ more. gap_law s.overlap s.cells s.next more w.track w.next w.short w.less
    ∙ sym (append_assoc (mixed_end s.cells s.next) (None ∷ []) (cross s.overlap more))
    ∙ ap (λ l. (l ++ None ∷ []) ++ cross s.overlap more) (sym all)
    ∙ ap (λ g. (ready_of t.ready t.whole t.cells t.next ++ gap_of g) ++ cross s.overlap more) (sym gap)
    ∙ ap (λ l. ready_items t ++ cross s.overlap (map Some l ++ (map Some [] ++ more))) (sym held_none)
    ∙ ap (λ l. ready_items t ++ cross s.overlap (map Some (held t) ++ (map Some l ++ more))) (sym growing_none))
    (plain_track t s.cells [] s.next w.track (few_or_none s.cells s.next w.less) ready next (cells ∙ sym (append-nil s.cells)))
    (subst IsTrack (sym held_none) tt)
    (subst BeginsTrack (sym growing_none) tt)

-- ---- a cell that ends the next track

closing_law : (most : ℕ) (r next : List Cell) (cell : Cell) (more : List Slot) → IsTrack r → BeginsTrack next → length r ≤ most → (0 < length next → length next < length r) →
    0 < length next → cell.first ≡ true → cross most (map Some r ++ (map Some next ++ Some cell ∷ more)) ≡ mixed_end r next ++ cross most (Some cell ∷ more)
closing_law most r [] cell more track begins short less some first = absurd (omega (arith, some))
closing_law most [] (b ∷ next) cell more track begins short less some first = absurd (omega (arith, less some))
closing_law most (a ∷ r) (b ∷ next) cell more track begins short less some first =
    two_tracks most a r b next (Some cell ∷ more) track begins.0 begins.1 (omega (arith, less some, short)) (inl first)

pub filled_closing : (s t : Crossing) (slots : List Slot) (p : ℕ) (cell : Cell) → StandsFor s slots p → Wanting s → t.overlap ≡ s.overlap →
    0 < length s.next → cell.first ≡ true →
    t.cells ≡ s.cells ++ cell ∷ [] → t.next ≡ s.next → t.ready ≡ length s.cells → t.whole ≡ length s.next → t.gap ≡ false → StandsFor t (slots ++ Some cell ∷ []) p
filled_closing s t slots p cell stands w same some first cells next ready whole gap =
    let held_one : held t ≡ cell ∷ [] = ap (λ n. drop n t.cells) ready ∙ ap (drop (length s.cells)) cells ∙ drop_at s.cells (cell ∷ []) (length s.cells) refl in
    let growing_none : growing t ≡ [] = ap (λ n. growing_at n t.next) ready ∙ ap (growing_at (length s.cells)) next ∙ growing_none (length s.cells) s.next w.less in
    let all : ready_of t.ready t.whole t.cells t.next ≡ mixed_end s.cells s.next =
    ap (λ n. ready_of n t.whole t.cells t.next) ready ∙ ap (λ n. ready_of (length s.cells) n t.cells t.next) whole
    ∙ ap (λ l. ready_of (length s.cells) (length s.next) l t.next) cells ∙ ap (λ l. ready_of (length s.cells) (length s.next) (s.cells ++ cell ∷ []) l) next
    ∙ all_ready s.cells (cell ∷ []) s.next (few_or_none s.cells s.next w.less) in
    let items : ready_items t ≡ mixed_end s.cells s.next = ap (λ g. ready_of t.ready t.whole t.cells t.next ++ gap_of g) gap ∙ append-nil (ready_of t.ready t.whole t.cells t.next) ∙ all in
    step s t slots (Some cell) p stands w same
    (λ more. closing_law s.overlap s.cells s.next cell more w.track w.next w.short w.less some first
    ∙ ap (λ l. l ++ cross s.overlap (Some cell ∷ more)) (sym items)
    ∙ ap (λ l. ready_items t ++ cross s.overlap (map Some l ++ (map Some [] ++ more))) (sym held_one)
    ∙ ap (λ l. ready_items t ++ cross s.overlap (map Some (held t) ++ (map Some l ++ more))) (sym growing_none))
    (plain_track t s.cells (cell ∷ []) s.next w.track (few_or_none s.cells s.next w.less) ready next cells)
    (subst IsTrack (sym held_one) tt)
    (subst BeginsTrack (sym growing_none) tt)

-- ---- a cell that joins the next track

inner_more : (cells : List Cell) (cell : Cell) → AllInner cells → cell.first ≡ false → AllInner (cells ++ cell ∷ [])
inner_more [] cell inner e = (e, tt)
inner_more (a ∷ cells) cell inner e = (inner.0, inner_more cells cell inner.1 e)

begins_more : (next : List Cell) (cell : Cell) → BeginsTrack next → (0 < length next → cell.first ≡ false) → (length next ≡ 0 → cell.first ≡ true) → BeginsTrack (next ++ cell ∷ [])
begins_more [] cell begins inner first = (first refl, tt)
begins_more (b ∷ next) cell begins inner first = (begins.0, inner_more next cell begins.1 (inner (omega arith)))

track_more : (r : List Cell) (cell : Cell) → IsTrack r → (0 < length r → cell.first ≡ false) → IsTrack (r ++ cell ∷ [])
track_more [] cell track inner = tt
track_more (a ∷ r) cell track inner = inner_more r cell track (inner (omega arith))

one_more : (cells : List Cell) (cell : Cell) (more : List Slot) → map Some cells ++ Some cell ∷ more ≡ map Some (cells ++ cell ∷ []) ++ more
one_more [] cell more = refl
one_more (a ∷ cells) cell more = ap (λ l. Some a ∷ l) (one_more cells cell more)

pub filled_joining : (s t : Crossing) (slots : List Slot) (p : ℕ) (cell : Cell) → StandsFor s slots p → Wanting s → t.overlap ≡ s.overlap →
    (0 < length s.next → cell.first ≡ false) → (length s.next ≡ 0 → cell.first ≡ true) →
    t.cells ≡ s.cells → t.next ≡ s.next ++ cell ∷ [] → t.ready ≡ 0 → t.gap ≡ false → StandsFor t (slots ++ Some cell ∷ []) p
filled_joining s t slots p cell stands w same inner first cells next ready gap =
    let held_same : held t ≡ s.cells = ap (λ n. drop n t.cells) ready ∙ cells in
    let growing_more : growing t ≡ s.next ++ cell ∷ [] = ap (λ n. growing_at n t.next) ready ∙ next in
    step s t slots (Some cell) p stands w same
    (λ more. ap (λ l. cross s.overlap (map Some s.cells ++ l)) (one_more s.next cell more)
    ∙ ap (λ l. cross s.overlap (map Some s.cells ++ (map Some l ++ more))) (sym growing_more)
    ∙ ap (λ l. cross s.overlap (map Some l ++ (map Some (growing t) ++ more))) (sym held_same)
    ∙ ap (λ l. l ++ cross s.overlap (unsettled t more)) (sym (none_ready_items t ready gap)))
    (track_none (t.ready - length t.next) t.cells (omega (arith, ready)))
    (subst IsTrack (sym held_same) w.track)
    (subst BeginsTrack (sym growing_more) (begins_more s.next cell w.next inner first))

pub complete_law : (most : ℕ) (r next : List Cell) (more : List Slot) → IsTrack r → BeginsTrack next → length r ≤ most → 0 < length next → length next ≡ length r →
    cross most (map Some r ++ (map Some next ++ more)) ≡ mixed_end r next ++ cross most more
complete_law most r [] more track begins short some all = absurd (omega (arith, some))
complete_law most [] (b ∷ next) more track begins short some all = absurd (omega (arith, all))
complete_law most (a ∷ r) (b ∷ next) more track begins short some all =
    two_tracks most a r b next more track begins.0 begins.1 (omega (arith, all, short)) (inr (omega (arith, all)))

pub filled_complete : (s t : Crossing) (slots : List Slot) (p : ℕ) (cell : Cell) → StandsFor s slots p → Wanting s → t.overlap ≡ s.overlap →
    (0 < length s.next → cell.first ≡ false) → (length s.next ≡ 0 → cell.first ≡ true) → length (s.next ++ cell ∷ []) ≡ length s.cells →
    t.cells ≡ s.cells → t.next ≡ s.next ++ cell ∷ [] → t.ready ≡ length s.cells → t.whole ≡ length t.next → t.gap ≡ false → StandsFor t (slots ++ Some cell ∷ []) p
filled_complete s t slots p cell stands w same inner first full cells next ready whole gap =
    let long = length-append s.next (cell ∷ []) in
    let some : 0 < length s.cells = omega (arith, full, long) in
    let held_none : held t ≡ [] = ap (λ n. drop n t.cells) ready ∙ ap (drop (length s.cells)) cells ∙ drop_all (length s.cells) s.cells (omega arith) in
    let growing_none : growing t ≡ [] = ap (λ n. growing_at n t.next) ready ∙ growing_some (length s.cells) t.next some in
    let all : ready_of t.ready t.whole t.cells t.next ≡ mixed_end s.cells (s.next ++ cell ∷ []) =
    ap (λ n. ready_of n t.whole t.cells t.next) ready ∙ ap (λ n. ready_of (length s.cells) n t.cells t.next) whole
    ∙ ap (λ l. ready_of (length s.cells) (length t.next) l t.next) (cells ∙ sym (append-nil s.cells)) ∙ ap (λ l. ready_of (length s.cells) (length l) (s.cells ++ []) l) next
    ∙ all_ready s.cells [] (s.next ++ cell ∷ []) (omega (arith, full)) in
    let items : ready_items t ≡ mixed_end s.cells (s.next ++ cell ∷ []) = ap (λ g. ready_of t.ready t.whole t.cells t.next ++ gap_of g) gap ∙ append-nil (ready_of t.ready t.whole t.cells t.next) ∙ all in
    step s t slots (Some cell) p stands w same
    (λ more. ap (λ l. cross s.overlap (map Some s.cells ++ l)) (one_more s.next cell more)
    ∙ complete_law s.overlap s.cells (s.next ++ cell ∷ []) more w.track (begins_more s.next cell w.next inner first) w.short (omega (arith, long)) full
    ∙ ap (λ l. l ++ cross s.overlap more) (sym items)
    ∙ ap (λ l. ready_items t ++ cross s.overlap (map Some l ++ (map Some [] ++ more))) (sym held_none)
    ∙ ap (λ l. ready_items t ++ cross s.overlap (map Some (held t) ++ (map Some l ++ more))) (sym growing_none))
    (plain_track t s.cells [] (s.next ++ cell ∷ []) w.track (omega (arith, full)) ready next (cells ∙ sym (append-nil s.cells)))
    (subst IsTrack (sym held_none) tt)
    (subst BeginsTrack (sym growing_none) tt)

-- ---- a cell of the track that is held back

pub no_cells : (next : List Cell) → length next ≡ 0 → next ≡ []
no_cells [] none = refl
no_cells (b ∷ next) none = absurd (omega (arith, none))

pub filled_going : (s t : Crossing) (slots : List Slot) (p : ℕ) (cell : Cell) → StandsFor s slots p → Wanting s → t.overlap ≡ s.overlap →
    length s.next ≡ 0 → (0 < length s.cells → cell.first ≡ false) →
    t.cells ≡ s.cells ++ cell ∷ [] → t.next ≡ s.next → t.ready ≡ 0 → t.gap ≡ false → StandsFor t (slots ++ Some cell ∷ []) p
filled_going s t slots p cell stands w same none inner cells next ready gap =
    let empty : s.next ≡ [] = no_cells s.next none in
    let held_more : held t ≡ s.cells ++ cell ∷ [] = ap (λ n. drop n t.cells) ready ∙ cells in
    let growing_none : growing t ≡ [] = ap (λ n. growing_at n t.next) ready ∙ next ∙ empty in
    step s t slots (Some cell) p stands w same
    (λ more. ap (λ l. cross s.overlap (map Some s.cells ++ (map Some l ++ Some cell ∷ more))) empty
    ∙ ap (cross s.overlap) (one_more s.cells cell more)
    ∙ ap (λ l. cross s.overlap (map Some l ++ (map Some [] ++ more))) (sym held_more)
    ∙ ap (λ l. cross s.overlap (map Some (held t) ++ (map Some l ++ more))) (sym growing_none)
    ∙ ap (λ l. l ++ cross s.overlap (unsettled t more)) (sym (none_ready_items t ready gap)))
    (track_none (t.ready - length t.next) t.cells (omega (arith, ready)))
    (subst IsTrack (sym held_more) (track_more s.cells cell w.track inner))
    (subst BeginsTrack (sym growing_none) tt)

-- the first cell of a track of which more than the overlap is there
over_law : (most : ℕ) (a : Cell) (r : List Cell) (cell : Cell) (more : List Slot) → AllInner r → cell.first ≡ false → most ≤ length (r ++ cell ∷ []) →
    cross most (map Some (a ∷ (r ++ cell ∷ [])) ++ more) ≡ Some a ∷ cross most (map Some (r ++ cell ∷ []) ++ more)
over_law most a [] cell more inner first long = one_settled most a cell [] more first tt long
over_law most a (b ∷ r) cell more inner first long = one_settled most a b (r ++ cell ∷ []) more inner.0 (inner_more r cell inner.1 first) long

pub filled_over : (s t : Crossing) (slots : List Slot) (p : ℕ) (cell : Cell) → StandsFor s slots p → Wanting s → t.overlap ≡ s.overlap → 0 < s.overlap →
    length s.next ≡ 0 → (0 < length s.cells → cell.first ≡ false) → s.overlap < length (s.cells ++ cell ∷ []) →
    t.cells ≡ s.cells ++ cell ∷ [] → t.next ≡ s.next → t.ready ≡ 1 → t.gap ≡ false → StandsFor t (slots ++ Some cell ∷ []) p
filled_over s t slots p cell stands w same positive none inner over cells next ready gap = by s.cells refl
  where
    by : (held_cells : List Cell) → s.cells ≡ held_cells → StandsFor t (slots ++ Some cell ∷ []) p
    by [] e = let long = length-append s.cells (cell ∷ []) in let empty : length s.cells ≡ 0 = ap length e in absurd (omega (arith, long, empty, over, positive))
    by (a ∷ r) e =
        let empty : s.next ≡ [] = no_cells s.next none in
        let whole : t.cells ≡ a ∷ (r ++ cell ∷ []) = cells ∙ ap (λ l. l ++ cell ∷ []) e in
        let held_more : held t ≡ r ++ cell ∷ [] = ap (λ n. drop n t.cells) ready ∙ ap (drop 1) whole in
        let growing_none : growing t ≡ [] = ap (λ n. growing_at n t.next) ready in
        let before : 1 - length t.next ≡ 1 = let empty_t : length t.next ≡ 0 = ap length next ∙ none in omega (arith, empty_t) in
        let items : ready_items t ≡ Some a ∷ [] =
        ap (λ g. ready_of t.ready t.whole t.cells t.next ++ gap_of g) gap ∙ append-nil (ready_of t.ready t.whole t.cells t.next)
        ∙ ap (λ n. ready_of n t.whole t.cells t.next) ready
        ∙ ap (λ l. ready_of 1 t.whole l t.next) whole
        ∙ ap (λ n. map Some (take n (a ∷ (r ++ cell ∷ []))) ++ mixed_cells (drop n (take 1 (a ∷ (r ++ cell ∷ [])))) t.next (t.whole - length t.next) t.whole) before in
        let track : AllInner r = subst IsTrack e w.track in
        let first : cell.first ≡ false = inner (let some : length s.cells ≡ length (a ∷ r) = ap length e in omega (arith, some)) in
        let long : length (s.cells ++ cell ∷ []) ≡ length (a ∷ (r ++ cell ∷ [])) = ap (λ l. length (l ++ cell ∷ [])) e in
        step s t slots (Some cell) p stands w same
        (λ more. ap (λ l. cross s.overlap (map Some s.cells ++ (map Some l ++ Some cell ∷ more))) empty
        ∙ ap (cross s.overlap) (one_more s.cells cell more)
        ∙ ap (λ l. cross s.overlap (map Some (l ++ cell ∷ []) ++ more)) e
        ∙ over_law s.overlap a r cell more track first (omega (arith, long, over))
        ∙ ap (λ l. l ++ cross s.overlap (map Some (r ++ cell ∷ []) ++ more)) (sym items)
        ∙ ap (λ l. ready_items t ++ cross s.overlap (map Some l ++ (map Some [] ++ more))) (sym held_more)
        ∙ ap (λ l. ready_items t ++ cross s.overlap (map Some (held t) ++ (map Some l ++ more))) (sym growing_none))
        (subst (λ n. IsTrack (take n t.cells)) (sym (ap (λ m. m - length t.next) ready ∙ before)) (subst (λ l. IsTrack (take 1 l)) (sym whole) tt))
        (subst IsTrack (sym held_more) (inner_track (r ++ cell ∷ []) (inner_more r cell track first)))
        (subst BeginsTrack (sym growing_none) tt)
      where
        inner_track : (cells : List Cell) → AllInner cells → IsTrack cells
        inner_track [] inner = tt
        inner_track (a ∷ cells) inner = inner.1
