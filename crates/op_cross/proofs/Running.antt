-- Cells of a track that goes on, many at once.
use Rattle.std.proofs.Common.{◌≡◌, ◌<◌, ◌≤◌, ◌+◌, ◌-◌, ◌∙◌, ◌++◌, ℕ, zero, suc, Some, List, [], ◌∷◌, ℤ, length, take, drop, map, Bool, true, false, arith, refl, ap, sym, subst, append_assoc}
use Rattle.std.specs.Prelude.{nat_eq, nat_lt, ◌&&◌}
use Rattle.std.proofs.lemmas.Bool.{false≢true}
use Rattle.std.proofs.lemmas.Bool.Decides.{nat_tests}
use Rattle.std.proofs.lemmas.List.{length-append, length-drop, length-take, length-map, append-nil, drop_at, drop_all, take_all}
use Rattle.frame_core.specs.declared.cell.Cell.{Cell}
use Rattle.frame_core.specs.Slots.{Slot, slot_left, slot_right}
use Rattle.cell_ring.specs.Rings.{inner_cells}
use Rattle.op_cross.specs.Crossfade.{mixed_cells, cross}
use Rattle.op_cross.specs.States.{Crossing, StandsFor, IsCrossing, AllInner, IsTrack, BeginsTrack, held, growing, growing_at, gap_of, passes, ready_items, track_room, unsettled, wants}
use Rattle.op_cross.proofs.Filling.{mixed_end, nothing_settled, one_settled}
use Rattle.op_cross.proofs.Standing.{ready_of, none_ready_items, is_settled}
use Rattle.op_cross.proofs.PlainStretch.{lefts, rights}
use Rattle.op_cross.proofs.Longer.{track_goes_on}
use Rattle.op_cross.proofs.Filled.{Wanting, all_ready, complete_law, growing_some, no_cells, plain_track, wanting, unsettled_is, track_none}

pub runs_inner : (title : ℕ) (xs ys : List ℤ) → AllInner (inner_cells title xs ys)
runs_inner title [] ys = tt
runs_inner title (x ∷ xs) [] = tt
runs_inner title (x ∷ xs) (y ∷ ys) = (refl, runs_inner title xs ys)

pub inner_more : (front back : List Cell) → AllInner front → AllInner back → AllInner (front ++ back)
inner_more [] back inner rest = rest
inner_more (a ∷ front) back inner rest = (inner.0, inner_more front back inner.1 rest)

inner_track : (cells : List Cell) → AllInner cells → IsTrack cells
inner_track [] inner = tt
inner_track (a ∷ cells) inner = inner.1

track_more : (r run : List Cell) → IsTrack r → AllInner run → IsTrack (r ++ run)
track_more [] run track inner = inner_track run inner
track_more (a ∷ r) run track inner = inner_more r run track inner

begins_more : (next run : List Cell) → BeginsTrack next → 0 < length next → AllInner run → BeginsTrack (next ++ run)
begins_more [] run begins some inner = absurd (omega (arith, some))
begins_more (b ∷ next) run begins some inner = (begins.0, inner_more next run begins.1 inner)

pub inner_part : (n : ℕ) (cells : List Cell) → AllInner cells → AllInner (take n cells)
inner_part zero cells inner = tt
inner_part (suc n) [] inner = tt
inner_part (suc n) (a ∷ cells) inner = (inner.0, inner_part n cells inner.1)

many_more : (cells run : List Cell) (more : List Slot) → map Some cells ++ (map Some run ++ more) ≡ map Some (cells ++ run) ++ more
many_more [] run more = refl
many_more (a ∷ cells) run more = ap (λ l. Some a ∷ l) (many_more cells run more)

-- some slots at once
step_run : (s t : Crossing) (slots run : List Slot) (p : ℕ) → StandsFor s slots p → Wanting s → t.overlap ≡ s.overlap →
    ((more : List Slot) → cross s.overlap (map Some s.cells ++ (map Some s.next ++ (run ++ more))) ≡ ready_items t ++ cross s.overlap (unsettled t more)) →
    IsTrack (take (t.ready - length t.next) t.cells) → IsTrack (held t) → BeginsTrack (growing t) → StandsFor t (slots ++ run) p
step_run s t slots run p stands w same law plain track next = record {
  past = stands.past;
  count = stands.count;
  items = λ more.
      ap (λ n. cross n ((slots ++ run) ++ more)) same
      ∙ ap (cross s.overlap) (append_assoc slots run more)
      ∙ stands.items (run ++ more)
      ∙ ap (λ l. stands.past ++ (l ++ cross s.overlap (unsettled s (run ++ more)))) (none_ready_items s w.ready w.gap)
      ∙ ap (λ l. stands.past ++ cross s.overlap l) (unsettled_is s (run ++ more) w.ready)
      ∙ ap (λ l. stands.past ++ l) (law more)
      ∙ ap (λ n. stands.past ++ (ready_items t ++ cross n (unsettled t more))) (sym same);
  plain = plain;
  track = track;
  next = next;
}

-- the track that is held back grows
pub run_going : (s t : Crossing) (slots : List Slot) (p : ℕ) (run : List Cell) → StandsFor s slots p → Wanting s → t.overlap ≡ s.overlap → AllInner run →
    length s.next ≡ 0 → t.cells ≡ s.cells ++ run → t.next ≡ s.next → t.ready ≡ 0 → t.gap ≡ false → StandsFor t (slots ++ map Some run) p
run_going s t slots p run stands w same inner none cells next ready gap =
    let empty : s.next ≡ [] = no_cells s.next none in
    let held_more : held t ≡ s.cells ++ run = ap (λ n. drop n t.cells) ready ∙ cells in
    let growing_none : growing t ≡ [] = ap (λ n. growing_at n t.next) ready ∙ next ∙ empty in
    step_run s t slots (map Some run) p stands w same
    (λ more. ap (λ l. cross s.overlap (map Some s.cells ++ (map Some l ++ (map Some run ++ more)))) empty
    ∙ ap (cross s.overlap) (many_more s.cells run more)
    ∙ ap (λ l. cross s.overlap (map Some l ++ (map Some [] ++ more))) (sym held_more)
    ∙ ap (λ l. cross s.overlap (map Some (held t) ++ (map Some l ++ more))) (sym growing_none)
    ∙ ap (λ l. l ++ cross s.overlap (unsettled t more)) (sym (none_ready_items t ready gap)))
    (track_none (t.ready - length t.next) t.cells (omega (arith, ready)))
    (subst IsTrack (sym held_more) (track_more s.cells run w.track inner))
    (subst BeginsTrack (sym growing_none) tt)

over_law : (most : ℕ) (a : Cell) (r : List Cell) (more : List Slot) → AllInner r → 0 < most → most ≤ length r →
    cross most (map Some (a ∷ r) ++ more) ≡ Some a ∷ cross most (map Some r ++ more)
over_law most a [] more inner some long = absurd (omega (arith, some, long))
over_law most a (b ∷ r) more inner some long = one_settled most a b r more inner.0 inner.1 long

-- and its first cell is settled
pub run_over : (s t : Crossing) (slots : List Slot) (p : ℕ) (run : List Cell) → StandsFor s slots p → Wanting s → t.overlap ≡ s.overlap → 0 < s.overlap → AllInner run →
    length s.next ≡ 0 → s.overlap < length (s.cells ++ run) → t.cells ≡ s.cells ++ run → t.next ≡ s.next → t.ready ≡ 1 → t.gap ≡ false → StandsFor t (slots ++ map Some run) p
run_over s t slots p run stands w same positive inner none over cells next ready gap = by (s.cells ++ run) refl (track_more s.cells run w.track inner)
  where
    by : (all : List Cell) → s.cells ++ run ≡ all → IsTrack (s.cells ++ run) → StandsFor t (slots ++ map Some run) p
    by [] e track = let long : length (s.cells ++ run) ≡ 0 = ap length e in absurd (omega (arith, long, over))
    by (a ∷ r) e track =
        let empty : s.next ≡ [] = no_cells s.next none in
        let whole : t.cells ≡ a ∷ r = cells ∙ e in
        let inner_r : AllInner r = subst IsTrack e track in
        let held_more : held t ≡ r = ap (λ n. drop n t.cells) ready ∙ ap (drop 1) whole in
        let growing_none : growing t ≡ [] = ap (λ n. growing_at n t.next) ready in
        let before : 1 - length t.next ≡ 1 = let empty_t : length t.next ≡ 0 = ap length next ∙ none in omega (arith, empty_t) in
        let long : length (s.cells ++ run) ≡ suc (length r) = ap length e in
        let items : ready_items t ≡ Some a ∷ [] =
        ap (λ g. ready_of t.ready t.whole t.cells t.next ++ gap_of g) gap ∙ append-nil (ready_of t.ready t.whole t.cells t.next)
        ∙ ap (λ n. ready_of n t.whole t.cells t.next) ready
        ∙ ap (λ l. ready_of 1 t.whole l t.next) whole
        ∙ ap (λ n. map Some (take n (a ∷ r)) ++ mixed_cells (drop n (take 1 (a ∷ r))) t.next (t.whole - length t.next) t.whole) before in
        step_run s t slots (map Some run) p stands w same
        (λ more. ap (λ l. cross s.overlap (map Some s.cells ++ (map Some l ++ (map Some run ++ more)))) empty
        ∙ ap (cross s.overlap) (many_more s.cells run more)
        ∙ ap (λ l. cross s.overlap (map Some l ++ more)) e
        ∙ over_law s.overlap a r more inner_r positive (omega (arith, long, over))
        ∙ ap (λ l. l ++ cross s.overlap (map Some r ++ more)) (sym items)
        ∙ ap (λ l. ready_items t ++ cross s.overlap (map Some l ++ (map Some [] ++ more))) (sym held_more)
        ∙ ap (λ l. ready_items t ++ cross s.overlap (map Some (held t) ++ (map Some l ++ more))) (sym growing_none))
        (subst (λ n. IsTrack (take n t.cells)) (sym (ap (λ m. m - length t.next) ready ∙ before)) (subst (λ l. IsTrack (take 1 l)) (sym whole) tt))
        (subst IsTrack (sym held_more) (inner_track r inner_r))
        (subst BeginsTrack (sym growing_none) tt)

-- the next track grows
pub run_joining : (s t : Crossing) (slots : List Slot) (p : ℕ) (run : List Cell) → StandsFor s slots p → Wanting s → t.overlap ≡ s.overlap → AllInner run →
    0 < length s.next → t.cells ≡ s.cells → t.next ≡ s.next ++ run → t.ready ≡ 0 → t.gap ≡ false → StandsFor t (slots ++ map Some run) p
run_joining s t slots p run stands w same inner some cells next ready gap =
    let held_same : held t ≡ s.cells = ap (λ n. drop n t.cells) ready ∙ cells in
    let growing_more : growing t ≡ s.next ++ run = ap (λ n. growing_at n t.next) ready ∙ next in
    step_run s t slots (map Some run) p stands w same
    (λ more. ap (λ l. cross s.overlap (map Some s.cells ++ l)) (many_more s.next run more)
    ∙ ap (λ l. cross s.overlap (map Some s.cells ++ (map Some l ++ more))) (sym growing_more)
    ∙ ap (λ l. cross s.overlap (map Some l ++ (map Some (growing t) ++ more))) (sym held_same)
    ∙ ap (λ l. l ++ cross s.overlap (unsettled t more)) (sym (none_ready_items t ready gap)))
    (track_none (t.ready - length t.next) t.cells (omega (arith, ready)))
    (subst IsTrack (sym held_same) w.track)
    (subst BeginsTrack (sym growing_more) (begins_more s.next run w.next some inner))

-- and is as long as what is held back
pub run_complete : (s t : Crossing) (slots : List Slot) (p : ℕ) (run : List Cell) → StandsFor s slots p → Wanting s → t.overlap ≡ s.overlap → AllInner run →
    0 < length s.next → length (s.next ++ run) ≡ length s.cells →
    t.cells ≡ s.cells → t.next ≡ s.next ++ run → t.ready ≡ length s.cells → t.whole ≡ length t.next → t.gap ≡ false → StandsFor t (slots ++ map Some run) p
run_complete s t slots p run stands w same inner some full cells next ready whole gap =
    let long = length-append s.next run in
    let more_cells : 0 < length s.cells = omega (arith, full, long, some) in
    let held_none : held t ≡ [] = ap (λ n. drop n t.cells) ready ∙ ap (drop (length s.cells)) cells ∙ drop_all (length s.cells) s.cells (omega arith) in
    let growing_none : growing t ≡ [] = ap (λ n. growing_at n t.next) ready ∙ growing_some (length s.cells) t.next more_cells in
    let all : ready_of t.ready t.whole t.cells t.next ≡ mixed_end s.cells (s.next ++ run) =
    ap (λ n. ready_of n t.whole t.cells t.next) ready ∙ ap (λ n. ready_of (length s.cells) n t.cells t.next) whole
    ∙ ap (λ l. ready_of (length s.cells) (length t.next) l t.next) (cells ∙ sym (append-nil s.cells)) ∙ ap (λ l. ready_of (length s.cells) (length l) (s.cells ++ []) l) next
    ∙ all_ready s.cells [] (s.next ++ run) (omega (arith, full)) in
    let items : ready_items t ≡ mixed_end s.cells (s.next ++ run) = ap (λ g. ready_of t.ready t.whole t.cells t.next ++ gap_of g) gap ∙ append-nil (ready_of t.ready t.whole t.cells t.next) ∙ all in
    step_run s t slots (map Some run) p stands w same
    (λ more. ap (λ l. cross s.overlap (map Some s.cells ++ l)) (many_more s.next run more)
    ∙ complete_law s.overlap s.cells (s.next ++ run) more w.track (begins_more s.next run w.next some inner) w.short (omega (arith, long, some)) full
    ∙ ap (λ l. l ++ cross s.overlap more) (sym items)
    ∙ ap (λ l. ready_items t ++ cross s.overlap (map Some l ++ (map Some [] ++ more))) (sym held_none)
    ∙ ap (λ l. ready_items t ++ cross s.overlap (map Some (held t) ++ (map Some l ++ more))) (sym growing_none))
    (plain_track t s.cells [] (s.next ++ run) w.track (omega (arith, full)) ready next (cells ∙ sym (append-nil s.cells)))
    (subst IsTrack (sym held_none) tt)
    (subst BeginsTrack (sym growing_none) tt)

-- ---- fewer cells settle nothing

unsettled_count : (t : Crossing) (slots : List Slot) (p : ℕ) → IsCrossing t → StandsFor t slots p → t.ready ≡ 0 → t.gap ≡ false → length (cross t.overlap slots) ≡ p
unsettled_count t slots p is stands ready gap =
    let none : length (ready_items t) ≡ 0 = ap length (none_ready_items t ready gap) in
    is_settled t slots p is stands ∙ omega (arith, none)

going_settles_none : (s : Crossing) (slots : List Slot) (p : ℕ) (run : List Cell) → IsCrossing s → StandsFor s slots p → Wanting s → AllInner run → length s.next ≡ 0
    → length s.cells + length run ≤ s.overlap → length (cross s.overlap (slots ++ map Some run)) ≡ p
going_settles_none s slots p run is stands w inner none few =
    unsettled_count (record s { cells = s.cells ++ run }) (slots ++ map Some run) p
    (record {
      overlap = is.overlap;
      ready = (let r = w.ready in omega (arith, r));
      held = (let long = length-append s.cells run in omega (arith, long, few));
      growing = λ ready some. absurd (omega (arith, none, some));
      mixing = λ some. absurd (let r = w.ready in omega (arith, r, some));
      begun = λ some less. absurd (omega (arith, none, some));
      whole = is.whole;
      ended = λ gap. absurd (false≢true (sym w.gap ∙ gap));
    })
    (run_going s (record s { cells = s.cells ++ run }) slots p run stands w refl inner none refl refl w.ready w.gap) w.ready w.gap

joining_settles_none : (s : Crossing) (slots : List Slot) (p : ℕ) (run : List Cell) → IsCrossing s → StandsFor s slots p → Wanting s → AllInner run → 0 < length s.next
    → length s.next + length run < length s.cells → length (cross s.overlap (slots ++ map Some run)) ≡ p
joining_settles_none s slots p run is stands w inner some few =
    unsettled_count (record s { next = s.next ++ run }) (slots ++ map Some run) p
    (record {
      overlap = is.overlap;
      ready = is.ready;
      held = is.held;
      growing = λ ready some. (let long = length-append s.next run in omega (arith, long, few));
      mixing = λ some. absurd (let r = w.ready in omega (arith, r, some));
      begun = λ some less. absurd (let r = w.ready in omega (arith, r, less));
      whole = is.whole;
      ended = is.ended;
    })
    (run_joining s (record s { next = s.next ++ run }) slots p run stands w refl inner some refl refl w.ready w.gap) w.ready w.gap

pub fewer_settle_none : (s : Crossing) (slots : List Slot) (p : ℕ) (run : List Cell) → IsCrossing s → StandsFor s slots p → wants s ≡ true → AllInner run
    → length run < track_room s → length (cross s.overlap (slots ++ map Some run)) ≤ p
fewer_settle_none s slots p run is stands wanted inner few = by (nat_lt 0 (length s.next)) refl
  where
    by : (begun : Bool) → nat_lt 0 (length s.next) ≡ begun → length (cross s.overlap (slots ++ map Some run)) ≤ p
    by true e =
        let room : track_room s ≡ length s.cells - length s.next = rw e refl in
        let some : 0 < length s.next = grind (arith, nat_tests, e) in
        let is_p = joining_settles_none s slots p run is stands (wanting s slots p is stands wanted) inner some (omega (arith, room, few)) in
        omega (arith, is_p)
    by false e =
        let room : track_room s ≡ suc s.overlap - length s.cells = rw e refl in
        let none : length s.next ≡ 0 = grind (arith, nat_tests, e) in
        let is_p = going_settles_none s slots p run is stands (wanting s slots p is stands wanted) inner none (omega (arith, room, few)) in
        omega (arith, is_p)

-- ---- cells that pass through

pub record Passing (s : Crossing) : Type 0 where
  pub wanted : wants s ≡ true
  pub none : length s.next ≡ 0
  pub full : length s.cells ≡ s.overlap

pub passing : (s : Crossing) → passes s ≡ true → Passing s
passing s e = by (wants s) (nat_eq (length s.next) 0) (nat_eq (length s.cells) s.overlap) refl refl refl e
  where
    by : (a b c : Bool) → wants s ≡ a → nat_eq (length s.next) 0 ≡ b → nat_eq (length s.cells) s.overlap ≡ c → (a && (b && c)) ≡ true → Passing s
    by true true true w n f e = record { wanted = w; none = grind (arith, nat_tests, n); full = grind (arith, nat_tests, f) }
    by true true false w n f e = absurd (false≢true e)
    by true false c w n f e = absurd (false≢true e)
    by false b c w n f e = absurd (false≢true e)

-- the items of all that was filled
passed_items : (s : Crossing) (slots : List Slot) (p : ℕ) (run : List Cell) (more : List Slot) → IsCrossing s → (stands : StandsFor s slots p) → Passing s → AllInner run →
    cross s.overlap ((slots ++ map Some run) ++ more)
    ≡ stands.past ++ (map Some (take (length run) (s.cells ++ run)) ++ cross s.overlap (map Some (drop (length run) (s.cells ++ run)) ++ more))
passed_items s slots p run more is stands pass inner =
    let w = wanting s slots p is stands pass.wanted in
    ap (cross s.overlap) (append_assoc slots (map Some run) more)
    ∙ stands.items (map Some run ++ more)
    ∙ ap (λ l. stands.past ++ (l ++ cross s.overlap (unsettled s (map Some run ++ more)))) (none_ready_items s w.ready w.gap)
    ∙ ap (λ l. stands.past ++ cross s.overlap l) (unsettled_is s (map Some run ++ more) w.ready)
    ∙ ap (λ l. stands.past ++ cross s.overlap (map Some s.cells ++ (map Some l ++ (map Some run ++ more)))) (no_cells s.next pass.none)
    ∙ ap (λ l. stands.past ++ cross s.overlap l) (many_more s.cells run more)
    ∙ ap (λ l. stands.past ++ l) (track_goes_on s.overlap run s.cells more w.track inner pass.full is.overlap.0)

rest_track : (n : ℕ) (cells : List Cell) → IsTrack cells → IsTrack (drop n cells)
rest_track zero cells track = track
rest_track (suc n) [] track = tt
rest_track (suc n) (a ∷ cells) track = inner_rest n cells track
  where
    inner_rest : (n : ℕ) (cells : List Cell) → AllInner cells → IsTrack (drop n cells)
    inner_rest zero cells inner = inner_track cells inner
    inner_rest (suc n) [] inner = tt
    inner_rest (suc n) (a ∷ cells) inner = inner_rest n cells inner.1

pub passed : (s t : Crossing) (slots : List Slot) (p : ℕ) (run : List Cell) → IsCrossing s → StandsFor s slots p → Passing s → AllInner run → t.overlap ≡ s.overlap →
    t.cells ≡ drop (length run) (s.cells ++ run) → t.next ≡ s.next → t.ready ≡ s.ready → t.gap ≡ s.gap → StandsFor t (slots ++ map Some run) (p + length run)
passed s t slots p run is stands pass inner same cells next ready gap =
    let w = wanting s slots p is stands pass.wanted in
    let front : List Cell = take (length run) (s.cells ++ run) in
    let long = length-append s.cells run in
    let taken = length-take (length run) (s.cells ++ run) in
    let mapped = length-map front Some in
    let many = length-append stands.past (map Some front) in
    let held_rest : held t ≡ drop (length run) (s.cells ++ run) = ap (λ n. drop n t.cells) (ready ∙ w.ready) ∙ cells in
    let growing_none : growing t ≡ [] = ap (λ n. growing_at n t.next) (ready ∙ w.ready) ∙ next ∙ no_cells s.next pass.none in
    record {
      past = stands.past ++ map Some front;
      count = (let count = stands.count in omega (arith, count, long, taken, mapped, many));
      items = λ more.
          ap (λ n. cross n ((slots ++ map Some run) ++ more)) same
          ∙ passed_items s slots p run more is stands pass inner
          ∙ sym (append_assoc stands.past (map Some front) (cross s.overlap (map Some (drop (length run) (s.cells ++ run)) ++ more)))
          ∙ ap (λ l. (stands.past ++ map Some front) ++ cross s.overlap (map Some l ++ (map Some [] ++ more))) (sym held_rest)
          ∙ ap (λ l. (stands.past ++ map Some front) ++ cross s.overlap (map Some (held t) ++ (map Some l ++ more))) (sym growing_none)
          ∙ ap (λ l. (stands.past ++ map Some front) ++ (l ++ cross s.overlap (unsettled t more))) (sym (none_ready_items t (ready ∙ w.ready) (gap ∙ w.gap)))
          ∙ ap (λ n. (stands.past ++ map Some front) ++ (ready_items t ++ cross n (unsettled t more))) (sym same);
      plain = (let r = ready ∙ w.ready in track_none (t.ready - length t.next) t.cells (omega (arith, r)));
      track = subst IsTrack (sym held_rest) (rest_track (length run) (s.cells ++ run) (track_more s.cells run w.track inner));
      next = subst BeginsTrack (sym growing_none) tt;
    }

-- what is settled
pub passed_now : (s : Crossing) (slots : List Slot) (p : ℕ) (run : List Cell) → IsCrossing s → (stands : StandsFor s slots p) → Passing s → AllInner run →
    cross s.overlap (slots ++ map Some run) ≡ stands.past ++ map Some (take (length run) (s.cells ++ run))
passed_now s slots p run is stands pass inner =
    let w = wanting s slots p is stands pass.wanted in
    let long = length-append s.cells run in
    let rest = length-drop (length run) (s.cells ++ run) in
    let few : length (drop (length run) (s.cells ++ run)) ≤ s.overlap = (let full = pass.full in omega (arith, long, rest, full)) in
    ap (cross s.overlap) (sym (append-nil (slots ++ map Some run)))
    ∙ passed_items s slots p run [] is stands pass inner
    ∙ ap (λ l. stands.past ++ (map Some (take (length run) (s.cells ++ run)) ++ l))
    (nothing_settled s.overlap (drop (length run) (s.cells ++ run)) [] (rest_track (length run) (s.cells ++ run) (track_more s.cells run w.track inner)) tt few (λ some. absurd (omega (arith, some))))
    ∙ ap (λ l. stands.past ++ l) (append-nil (map Some (take (length run) (s.cells ++ run))))

pub passed_count : (s : Crossing) (slots : List Slot) (p : ℕ) (run : List Cell) → IsCrossing s → StandsFor s slots p → Passing s → AllInner run →
    length (cross s.overlap (slots ++ map Some run)) ≡ p + length run
passed_count s slots p run is stands pass inner =
    let front : List Cell = take (length run) (s.cells ++ run) in
    let long = length-append s.cells run in
    let taken = length-take (length run) (s.cells ++ run) in
    let mapped = length-map front Some in
    let many = length-append stands.past (map Some front) in
    ap length (passed_now s slots p run is stands pass inner) ∙ (let count = stands.count in omega (arith, count, long, taken, mapped, many))

passed_front : (s : Crossing) (slots : List Slot) (p : ℕ) (run : List Cell) → IsCrossing s → StandsFor s slots p → Passing s → AllInner run →
    take (length run) (drop p (cross s.overlap (slots ++ map Some run))) ≡ map Some (take (length run) (s.cells ++ run))
passed_front s slots p run is stands pass inner =
    let long = length-append s.cells run in
    let taken = length-take (length run) (s.cells ++ run) in
    let mapped = length-map (take (length run) (s.cells ++ run)) Some in
    ap (λ l. take (length run) (drop p l)) (passed_now s slots p run is stands pass inner)
    ∙ ap (take (length run)) (drop_at stands.past (map Some (take (length run) (s.cells ++ run))) p stands.count)
    ∙ take_all (length run) (map Some (take (length run) (s.cells ++ run))) (omega (arith, long, taken, mapped))

pub passed_lefts : (s : Crossing) (slots : List Slot) (p : ℕ) (run : List Cell) → IsCrossing s → StandsFor s slots p → Passing s → AllInner run →
    map (λ (cell : Cell). cell.left) (take (length run) (s.cells ++ run)) ≡ map slot_left (take (length run) (drop p (cross s.overlap (slots ++ map Some run))))
passed_lefts s slots p run is stands pass inner = sym (ap (map slot_left) (passed_front s slots p run is stands pass inner) ∙ lefts (take (length run) (s.cells ++ run)))

pub passed_rights : (s : Crossing) (slots : List Slot) (p : ℕ) (run : List Cell) → IsCrossing s → StandsFor s slots p → Passing s → AllInner run →
    map (λ (cell : Cell). cell.right) (take (length run) (s.cells ++ run)) ≡ map slot_right (take (length run) (drop p (cross s.overlap (slots ++ map Some run))))
passed_rights s slots p run is stands pass inner = sym (ap (map slot_right) (passed_front s slots p run is stands pass inner) ∙ rights (take (length run) (s.cells ++ run)))
