-- What is held once cells have passed through.
use Rattle.std.proofs.Common.{◌≡◌, ◌<◌, ◌≤◌, ◌+◌, ◌-◌, ◌*◌, ◌∙◌, ◌++◌, ℕ, suc, Some, List, length, take, drop, map, Bool, true, false, arith, refl, ap, sym, subst, inl, inr}
use Rattle.std.specs.Prelude.{nat_eq, nat_lt, ◌&&◌}
use Rattle.std.proofs.lemmas.Bool.{cases_lt, eq-eqb, false≢true}
use Rattle.std.proofs.lemmas.Bool.Decides.{nat_tests}
use Rattle.std.proofs.lemmas.List.{length-append, length-drop, length-take}
use Rattle.frame_core.specs.declared.cell.Cell.{Cell}
use Rattle.cell_ring.specs.Rings.{Ring}
use Rattle.frame_core.specs.Slots.{Slot}
use Rattle.op_cross.specs.Crossfade.{cross}
use Rattle.op_cross.specs.States.{AllInner, Crossing, IsCrossing, StandsFor, left, passes, track_room, wants}
use Rattle.op_cross.proofs.Filled.{wants_none}
use Rattle.op_cross.proofs.Running.{Passing, fewer_settle_none, inner_part, passed}

pub long_now : (cells run : List Cell) (ring : Ring) (room n : ℕ) → ring ≡ record { cells = cells ++ run; room = room } → length run ≡ n → n ≤ length ring.cells
long_now cells run ring room n is long =
    let e = ap (λ (r : Ring). length r.cells) is in
    let all = length-append cells run in
    omega (arith, e, all, long)

pub rest_long : (cells run rest : List Cell) (n : ℕ) → rest ≡ drop n (cells ++ run) → length run ≡ n → length rest ≡ length cells
rest_long cells run rest n is long =
    let e = ap length is in
    let all = length-append cells run in
    let dropped = length-drop n (cells ++ run) in
    omega (arith, e, all, dropped, long)

pub rest_is : (s t : Crossing) → IsCrossing s → Passing s → wants t ≡ wants s → t.overlap ≡ s.overlap → length t.cells ≡ length s.cells → t.next ≡ s.next → t.ready ≡ s.ready → t.whole ≡ s.whole → t.gap ≡ s.gap → IsCrossing t
rest_is s t is pass w same long next ready whole gap =
    let none : length t.next ≡ 0 = ap length next ∙ pass.none in
    record {
      overlap = (let o = is.overlap in (omega (arith, same, o), omega (arith, same, o)));
      ready = (let r = is.ready in omega (arith, r, ready, long));
      held = (let h = is.held in omega (arith, h, ready, long, same));
      growing = λ r some. absurd (omega (arith, none, some));
      mixing = λ some. (omega (arith, none), omega (arith, none));
      begun = λ some less. absurd (omega (arith, none, some));
      whole = (let w = is.whole in omega (arith, w, whole, same));
      ended = λ g. (let e = is.ended (sym gap ∙ g) in omega (arith, e, long, ready));
    }

pub passes_still : (s t : Crossing) → Passing s → t.overlap ≡ s.overlap → length t.cells ≡ length s.cells → t.next ≡ s.next → wants t ≡ wants s → passes t ≡ true
passes_still s t pass same long next w =
    let full = pass.full in
    ap (λ b. b && (nat_eq (length t.next) 0 && nat_eq (length t.cells) t.overlap)) (w ∙ pass.wanted)
    ∙ ap (λ b. b && nat_eq (length t.cells) t.overlap) (eq-eqb (length t.next) 0 (ap length next ∙ pass.none))
    ∙ eq-eqb (length t.cells) t.overlap (omega (arith, full, long, same))

pub passed_by : (s t : Crossing) (slots : List Slot) (p n : ℕ) (run : List Cell) → length run ≡ n → IsCrossing s → StandsFor s slots p → Passing s → AllInner run → t.overlap ≡ s.overlap →
    t.cells ≡ drop n (s.cells ++ run) → t.next ≡ s.next → t.ready ≡ s.ready → t.gap ≡ s.gap → StandsFor t (slots ++ map Some run) (p + n)
passed_by s t slots p n run long is stands pass inner same cells next ready gap =
    subst (λ n. StandsFor t (slots ++ map Some run) (p + n)) long
    (passed s t slots p run is stands pass inner same (cells ∙ ap (λ n. drop n (s.cells ++ run)) (sym long)) next ready gap)

pub room_begun : (s : Crossing) → 0 < length s.next → track_room s ≡ length s.cells - length s.next
room_begun s some = let e : nat_lt 0 (length s.next) ≡ true = grind (arith, nat_tests) in rw e refl

pub room_held : (s : Crossing) → length s.next ≡ 0 → track_room s ≡ suc s.overlap - length s.cells
room_held s none = let e : nat_lt 0 (length s.next) ≡ false = grind (arith, nat_tests) in rw e refl

pub fewer_by : (s : Crossing) (slots : List Slot) (p m n : ℕ) (run : List Cell) → length run ≡ n → IsCrossing s → StandsFor s slots p → wants s ≡ true → AllInner run
    → n ≤ track_room s → m < n → length (cross s.overlap (slots ++ map Some (take m run))) ≤ p
fewer_by s slots p m n run long is stands wanted inner few less =
    let taken = length-take m run in
    fewer_settle_none s slots p (take m run) is stands wanted (inner_part m run inner) (omega (arith, taken, long, few, less))

-- what it asks for falls
left_most : (t : Crossing) → left t ≤ 2 * t.overlap - length t.cells - length t.next
left_most t = by (wants t) refl
  where
    by : (w : Bool) → wants t ≡ w → left t ≤ 2 * t.overlap - length t.cells - length t.next
    by true e = (let is : left t ≡ 2 * t.overlap - length t.cells - length t.next = rw e refl in omega (arith, is))
    by false e = (let is : left t ≡ 0 = rw e refl in omega (arith, is))

pub less_left : (s t : Crossing) (n : ℕ) → IsCrossing s → wants s ≡ true → t.overlap ≡ s.overlap → length t.cells + length t.next ≡ length s.cells + length s.next + n → 0 < n → left t < left s
less_left s t n is wanted same more some =
    let before : left s ≡ 2 * s.overlap - length s.cells - length s.next = rw wanted refl in
    let none = wants_none s wanted in
    by (nat_lt 0 (length s.next)) refl before (left_most t) (let h = is.held in let r = none.0 in omega (arith, h, r)) is.overlap.0 none.0
  where
    by : (begun : Bool) → nat_lt 0 (length s.next) ≡ begun → left s ≡ 2 * s.overlap - length s.cells - length s.next → left t ≤ 2 * t.overlap - length t.cells - length t.next
        → length s.cells ≤ s.overlap → 0 < s.overlap → s.ready ≡ 0 → left t < left s
    by true e before most short positive ready =
        let begun : 0 < length s.next = grind (arith, nat_tests, e) in
        let less = is.growing ready begun in omega (arith, before, most, short, same, more, some, less)
    by false e before most short positive ready =
        let none : length s.next ≡ 0 = grind (arith, nat_tests, e) in
        omega (arith, before, most, short, same, more, some, none, positive)

-- the next track has grown, and is shorter than what is held back
pub joined_is : (s t : Crossing) (run : List Cell) (n : ℕ) → IsCrossing s → wants s ≡ true → length run ≡ n → n ≤ track_room s → 0 < length s.next → length t.next ≡ length (s.next ++ run) → (length t.next ≡ length s.cells → ⊥)
    → t.overlap ≡ s.overlap → t.cells ≡ s.cells → t.ready ≡ s.ready → t.whole ≡ s.whole → t.gap ≡ s.gap → IsCrossing t
joined_is s t run n is wanted long few some next apart same cells ready whole gap =
    let none = wants_none s wanted in
    let room = room_begun s some in
    let all = length-append s.next run in
    let held = ap length cells in
    record {
      overlap = (let o = is.overlap in (omega (arith, same, o), omega (arith, same, o)));
      ready = (let r = is.ready in omega (arith, r, ready, held));
      held = (let h = is.held in omega (arith, h, ready, held, same));
      growing = λ r more. apart_less (length t.next) (length t.cells) (let g = is.growing none.0 some in omega (arith, next, all, long, few, room, held, g)) (λ e. apart (e ∙ held));
      mixing = λ more. absurd (let r = none.0 in omega (arith, r, ready, more));
      begun = λ more less. absurd (let r = none.0 in omega (arith, r, ready, less));
      whole = (let w = is.whole in omega (arith, w, whole, same));
      ended = λ g. absurd (false≢true (sym none.1 ∙ sym gap ∙ g));
    }
  where
    apart_less : (a b : ℕ) → a ≤ b → (a ≡ b → ⊥) → a < b
    apart_less a b le ne = elim (cases_lt a b) [ inl h ↦ h | inr h ↦ absurd (ne (omega (arith, le, h))) ]

-- more of a track is there than overlaps
pub over_is : (s t : Crossing) (run : List Cell) (n : ℕ) → IsCrossing s → wants s ≡ true → length run ≡ n → n ≤ track_room s → length s.next ≡ 0 → length t.cells ≡ length (s.cells ++ run) → s.overlap < length t.cells
    → t.overlap ≡ s.overlap → t.next ≡ s.next → t.ready ≡ 1 → t.whole ≡ s.whole → t.gap ≡ s.gap → IsCrossing t
over_is s t run n is wanted long few no_next cells over same next ready whole gap =
    let none = wants_none s wanted in
    let room = room_held s no_next in
    let all = length-append s.cells run in
    let empty : length t.next ≡ 0 = ap length next ∙ no_next in
    record {
      overlap = (let o = is.overlap in (omega (arith, same, o), omega (arith, same, o)));
      ready = omega (arith, ready, over, same);
      held = (let h = is.held in let r = none.0 in omega (arith, ready, cells, all, long, few, room, same, h, r));
      growing = λ r some. absurd (omega (arith, empty, some));
      mixing = λ some. (omega (arith, empty), omega (arith, empty));
      begun = λ some less. absurd (omega (arith, empty, some));
      whole = (let w = is.whole in omega (arith, w, whole, same));
      ended = λ g. absurd (false≢true (sym none.1 ∙ sym gap ∙ g));
    }
