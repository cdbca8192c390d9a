-- How many ready items are cells of one track.
use Rattle.std.proofs.Common.{◌≡◌, ◌<◌, ◌≤◌, ◌+◌, ◌-◌, ◌∙◌, ◌++◌, ℕ, zero, suc, Some, None, List, [], ◌∷◌, length, take, drop, map, Bool, true, false, cond, arith, refl, ap, sym, append_assoc}
use Rattle.std.specs.Prelude.{nat_eq, nat_lt}
use Rattle.std.proofs.lemmas.Bool.Decides.{nat_tests}
use Rattle.std.proofs.lemmas.List.{length-drop, length-take, drop_at}
use Rattle.frame_core.specs.declared.cell.Cell.{Cell}
use Rattle.frame_core.specs.Slots.{Slot}
use Rattle.op_cross.specs.Crossfade.{mixed_cells, cross}
use Rattle.op_cross.specs.Stretches.{inner_count, stretch}
use Rattle.op_cross.specs.States.{Crossing, StandsFor, IsCrossing, AllInner, IsTrack, gap_of, ready_items, ready_stretch}
use Rattle.op_cross.proofs.Standing.{is_settled, settled_now, by_less, take_none, none_ready_at}

inner_of : (cells : List Cell) (more : List Slot) → AllInner cells → inner_count more ≡ 0 → inner_count (map Some cells ++ more) ≡ length cells
inner_of [] more inner none = none
inner_of (a ∷ cells) more inner none = ap (λ b. cond b 0 (suc (inner_count (map Some cells ++ more)))) inner.0 ∙ ap suc (inner_of cells more inner.1 none)

stretch_of_track : (cells : List Cell) (more : List Slot) → IsTrack cells → 0 < length cells → inner_count more ≡ 0 → stretch (map Some cells ++ more) ≡ length cells
stretch_of_track [] more track some none = absurd (omega (arith, some))
stretch_of_track (a ∷ cells) more track some none = ap suc (inner_of cells more track none)

gap_ends : (gap : Bool) → inner_count (gap_of gap) ≡ 0
gap_ends true = refl
gap_ends false = refl

-- a mix that begins ends a stretch
mix_ends : (from to : List Cell) (whole : ℕ) (gap : Bool) → inner_count (mixed_cells from to 0 whole ++ gap_of gap) ≡ 0
mix_ends [] to whole gap = gap_ends gap
mix_ends (a ∷ from) [] whole gap = gap_ends gap
mix_ends (a ∷ from) (b ∷ to) whole gap = refl

not_zero : (at : ℕ) → nat_eq (suc at) 0 ≡ false
not_zero at = grind (arith, nat_tests)

inner_of_mix : (from to : List Cell) (at whole : ℕ) (more : List Slot) → length from ≡ length to → inner_count more ≡ 0 → inner_count (mixed_cells from to (suc at) whole ++ more) ≡ length to
inner_of_mix [] [] at whole more same none = none
inner_of_mix [] (b ∷ to) at whole more same none = absurd (omega (arith, same))
inner_of_mix (a ∷ from) [] at whole more same none = absurd (omega (arith, same))
inner_of_mix (a ∷ from) (b ∷ to) at whole more same none =
    ap (λ t. cond t 0 (suc (inner_count (mixed_cells from to (suc (suc at)) whole ++ more)))) (not_zero at)
    ∙ ap suc (inner_of_mix from to (suc at) whole more (omega (arith, same)) none)

stretch_of_mix : (from to : List Cell) (at whole : ℕ) (more : List Slot) → length from ≡ length to → 0 < length to → inner_count more ≡ 0 → stretch (mixed_cells from to at whole ++ more) ≡ length to
stretch_of_mix from [] at whole more same some none = absurd (omega (arith, some))
stretch_of_mix [] (b ∷ to) at whole more same some none = absurd (omega (arith, same))
stretch_of_mix (a ∷ from) (b ∷ to) at whole more same some none = ap suc (inner_of_mix from to at whole more (omega (arith, same)) none)

nothing_mixed : (from : List Cell) (at whole : ℕ) → mixed_cells from [] at whole ≡ []
nothing_mixed [] at whole = refl
nothing_mixed (a ∷ from) at whole = refl

-- behind plain cells the stretch ends
plain_ends : (s : Crossing) → IsCrossing s → length s.next < s.ready →
    inner_count (mixed_cells (drop (s.ready - length s.next) (take s.ready s.cells)) s.next (s.whole - length s.next) s.whole ++ gap_of s.gap) ≡ 0
plain_ends s is few = by s.next refl
  where
    by : (next : List Cell) → s.next ≡ next → inner_count (mixed_cells (drop (s.ready - length s.next) (take s.ready s.cells)) s.next (s.whole - length s.next) s.whole ++ gap_of s.gap) ≡ 0
    by [] e =
        ap (λ l. inner_count (mixed_cells (drop (s.ready - length s.next) (take s.ready s.cells)) l (s.whole - length s.next) s.whole ++ gap_of s.gap)) e
        ∙ ap (λ l. inner_count (l ++ gap_of s.gap)) (nothing_mixed (drop (s.ready - length s.next) (take s.ready s.cells)) (s.whole - length s.next) s.whole) ∙ gap_ends s.gap
    by (b ∷ next) e =
        let long : length s.next ≡ length (b ∷ next) = ap length e in
        let at : s.whole - length s.next ≡ 0 = let begun = is.begun (omega (arith, long)) few in omega (arith, begun) in
        ap (λ n. inner_count (mixed_cells (drop (s.ready - length s.next) (take s.ready s.cells)) s.next n s.whole ++ gap_of s.gap)) at
        ∙ mix_ends (drop (s.ready - length s.next) (take s.ready s.cells)) s.next s.whole s.gap

less_test : (a b : ℕ) → a < b → nat_lt a b ≡ true
less_test a b less = grind (arith, nat_tests)

same_test : (a b : ℕ) → a ≡ b → nat_lt a b ≡ false
same_test a b same = grind (arith, nat_tests)

pub none_stretch : (s : Crossing) → s.ready ≡ 0 → ready_stretch s ≡ 0
none_stretch s none = by (nat_lt (length s.next) s.ready)
  where
    by : (t : Bool) → cond t (s.ready - length s.next) s.ready ≡ 0
    by true = omega (arith, none)
    by false = none

some_stretch : (s : Crossing) → IsCrossing s → IsTrack (take (s.ready - length s.next) s.cells) → 0 < s.ready → stretch (ready_items s) ≡ ready_stretch s
some_stretch s is plain some =
    let mixing = is.mixing some in
    let mix = mixed_cells (drop (s.ready - length s.next) (take s.ready s.cells)) s.next (s.whole - length s.next) s.whole in
    let cells = take (s.ready - length s.next) s.cells in
    let long = length-take (s.ready - length s.next) s.cells in
    by_less (length s.next) s.ready mixing.0
    (λ few. ap stretch (append_assoc (map Some cells) mix (gap_of s.gap))
    ∙ stretch_of_track cells (mix ++ gap_of s.gap) plain (omega (arith, long, few, is.ready)) (plain_ends s is few)
    ∙ (long ∙ omega (arith, is.ready))
    ∙ sym (ap (λ t. cond t (s.ready - length s.next) s.ready) (less_test (length s.next) s.ready few)))
    (λ all. let none : s.ready - length s.next ≡ 0 = omega (arith, all) in
    let front = length-take s.ready s.cells in
    ap (λ l. stretch ((map Some l ++ mix) ++ gap_of s.gap)) (take_none (s.ready - length s.next) s.cells none)
    ∙ ap (λ n. stretch (mixed_cells (drop n (take s.ready s.cells)) s.next (s.whole - length s.next) s.whole ++ gap_of s.gap)) none
    ∙ stretch_of_mix (take s.ready s.cells) s.next (s.whole - length s.next) s.whole (gap_of s.gap) (omega (arith, front, all, is.ready)) (omega (arith, all, some)) (gap_ends s.gap)
    ∙ all
    ∙ sym (ap (λ t. cond t (s.ready - length s.next) s.ready) (same_test (length s.next) s.ready all)))

pub stretch_is : (s : Crossing) (slots : List Slot) (p : ℕ) → IsCrossing s → StandsFor s slots p → stretch (drop p (cross s.overlap slots)) ≡ ready_stretch s
stretch_is s slots p is stands =
    ap (λ l. stretch (drop p l)) (settled_now s slots p is stands)
    ∙ ap stretch (drop_at stands.past (ready_items s) p stands.count)
    ∙ by s.ready refl
  where
    by : (n : ℕ) → s.ready ≡ n → stretch (ready_items s) ≡ ready_stretch s
    by zero none = ap stretch (ap (λ l. l ++ gap_of s.gap) (none_ready_at s none)) ∙ gap_stretch s.gap ∙ sym (none_stretch s none)
      where
        gap_stretch : (gap : Bool) → stretch (gap_of gap) ≡ 0
        gap_stretch true = refl
        gap_stretch false = refl
    by (suc n) ready = some_stretch s is stands.plain (omega (arith, ready))

run_within : (slots : List Slot) → inner_count slots ≤ length slots
run_within [] = omega arith
run_within (None ∷ slots) = omega arith
run_within (Some cell ∷ slots) = by cell.first (run_within slots)
  where
    by : (first : Bool) → inner_count slots ≤ length slots → cond first 0 (suc (inner_count slots)) ≤ suc (length slots)
    by true few = omega arith
    by false few = omega (arith, few)

stretch_within : (slots : List Slot) → stretch slots ≤ length slots
stretch_within [] = omega arith
stretch_within (None ∷ slots) = omega arith
stretch_within (Some cell ∷ slots) = let few = run_within slots in omega (arith, few)

-- items that are ready are settled
pub settled_ahead : (s : Crossing) (slots : List Slot) (p n : ℕ) → IsCrossing s → StandsFor s slots p → n ≤ ready_stretch s → p + n ≤ length (cross s.overlap slots)
settled_ahead s slots p n is stands few =
    let long = is_settled s slots p is stands in
    let same = stretch_is s slots p is stands in
    let within = stretch_within (drop p (cross s.overlap slots)) in
    let rest = length-drop p (cross s.overlap slots) in
    omega (arith, long, same, within, rest, few)

pub long_run : (s : Crossing) (mixed : ℕ) → mixed ≡ length s.next → mixed < s.ready → s.ready - mixed ≡ ready_stretch s
long_run s mixed is less =
    ap (λ n. s.ready - n) is ∙ sym (ap (λ t. cond t (s.ready - length s.next) s.ready) (less_test (length s.next) s.ready (omega (arith, is, less))))

pub short_run : (s : Crossing) (mixed : ℕ) → mixed ≡ length s.next → s.ready ≤ mixed → s.ready ≡ ready_stretch s
short_run s mixed is most = sym (ap (λ t. cond t (s.ready - length s.next) s.ready) (most_test (length s.next) s.ready (omega (arith, is, most))))
  where
    most_test : (a b : ℕ) → b ≤ a → nat_lt a b ≡ false
    most_test a b le = grind (arith, nat_tests)
