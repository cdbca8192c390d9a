-- A stretch of items that are given as they are, all at once.
use Rattle.std.proofs.Common.{◌≡◌, ◌<◌, ◌≤◌, ◌+◌, ◌-◌, ◌∙◌, ◌++◌, ℕ, zero, suc, Some, List, [], ◌∷◌, length, take, drop, map, arith, refl, ap, sym, subst, append_assoc}
use Rattle.std.proofs.lemmas.List.{length-append, length-map, length-take, drop_at, take_at, drop-drop, drop-take}
use Rattle.frame_core.specs.declared.cell.Cell.{Cell}
use Rattle.frame_core.specs.Slots.{Slot, slot_left, slot_right}
use Rattle.op_cross.specs.Crossfade.{cross}
use Rattle.op_cross.specs.States.{Crossing, StandsFor, IsCrossing, AllInner, IsTrack, BeginsTrack, held, growing, gap_of, ready_items, unsettled}
use Rattle.op_cross.proofs.Standing.{ready_of, plain_front, some_ready, growing_one, settled_now}

plain_many : (k ready whole : ℕ) (cells next : List Cell) → k ≤ ready - length next → ready ≤ length cells →
    ready_of ready whole cells next ≡ map Some (take k cells) ++ ready_of (ready - k) whole (drop k cells) next
plain_many zero ready whole cells next few there = let same : ready ≡ ready - 0 = omega arith in ap (λ n. ready_of n whole cells next) same
plain_many (suc k) ready whole [] next few there = absurd (omega (arith, few, there))
plain_many (suc k) ready whole (a ∷ rest) next few there =
    let n = some_ready ready (omega (arith, few)) in
    let same : n.0 - k ≡ ready - suc k = omega (arith, n.1) in
    plain_front ready whole n.0 a rest next n.1 (omega (arith, few))
    ∙ ap (λ l. Some a ∷ l) (plain_many k n.0 whole rest next (omega (arith, few, n.1)) (omega (arith, there, n.1)))
    ∙ ap (λ m. Some a ∷ (map Some (take k rest) ++ ready_of m whole (drop k rest) next)) same

-- the first of the items that are ready
plain_items : (s : Crossing) (k : ℕ) → IsCrossing s → k ≤ s.ready - length s.next →
    ready_items s ≡ map Some (take k s.cells) ++ (ready_of (s.ready - k) s.whole (drop k s.cells) s.next ++ gap_of s.gap)
plain_items s k is few =
    ap (λ l. l ++ gap_of s.gap) (plain_many k s.ready s.whole s.cells s.next few is.ready)
    ∙ append_assoc (map Some (take k s.cells)) (ready_of (s.ready - k) s.whole (drop k s.cells) s.next) (gap_of s.gap)

inner_rest : (k : ℕ) (cells : List Cell) → AllInner cells → IsTrack (drop k cells)
inner_rest zero [] inner = tt
inner_rest zero (a ∷ cells) inner = inner.1
inner_rest (suc k) [] inner = tt
inner_rest (suc k) (a ∷ cells) inner = inner_rest k cells inner.1

track_rest : (k : ℕ) (cells : List Cell) → IsTrack cells → IsTrack (drop k cells)
track_rest zero cells track = track
track_rest (suc k) [] track = tt
track_rest (suc k) (a ∷ cells) track = inner_rest k cells track

pub plain_copied : (s t : Crossing) (slots : List Slot) (p k : ℕ) → IsCrossing s → StandsFor s slots p → length s.next < s.ready → k ≤ s.ready - length s.next →
    t.overlap ≡ s.overlap → t.cells ≡ drop k s.cells → t.next ≡ s.next → t.ready ≡ s.ready - k → t.whole ≡ s.whole → t.gap ≡ s.gap → StandsFor t slots (p + k)
plain_copied s t slots p k is stands plain few same cells next ready whole gap =
    let taken = length-take k s.cells in
    let mapped = length-map (take k s.cells) Some in
    let rest : ready_items t ≡ ready_of (s.ready - k) s.whole (drop k s.cells) s.next ++ gap_of s.gap =
    ap (λ n. ready_of n t.whole t.cells t.next ++ gap_of t.gap) ready
    ∙ ap (λ n. ready_of (s.ready - k) n t.cells t.next ++ gap_of t.gap) whole
    ∙ ap (λ l. ready_of (s.ready - k) s.whole l t.next ++ gap_of t.gap) cells
    ∙ ap (λ l. ready_of (s.ready - k) s.whole (drop k s.cells) l ++ gap_of t.gap) next
    ∙ ap (λ g. ready_of (s.ready - k) s.whole (drop k s.cells) s.next ++ gap_of g) gap in
    let items : ready_items s ≡ map Some (take k s.cells) ++ ready_items t = plain_items s k is few ∙ ap (λ l. map Some (take k s.cells) ++ l) (sym rest) in
    let sum : k + (s.ready - k) ≡ s.ready = omega (arith, few) in
    let same_held : held t ≡ held s = ap (λ n. drop n t.cells) ready ∙ ap (drop (s.ready - k)) cells ∙ drop-drop (s.ready - k) k s.cells ∙ ap (λ n. drop n s.cells) sum in
    let few_next : length t.next ≡ length s.next = ap length next in
    let same_growing : growing t ≡ growing s = growing_one t.ready t.next (omega (arith, ready, few, few_next, plain)) ∙ sym (growing_one s.ready s.next (omega (arith, plain))) in
    let parts : s.ready - length s.next ≡ k + (t.ready - length t.next) = omega (arith, ready, few, few_next) in
    let plain_rest : IsTrack (take (t.ready - length t.next) t.cells) =
    subst (λ l. IsTrack (take (t.ready - length t.next) l)) (sym cells)
    (subst IsTrack (drop-take k (t.ready - length t.next) s.cells)
    (track_rest k (take (k + (t.ready - length t.next)) s.cells) (subst (λ n. IsTrack (take n s.cells)) parts stands.plain))) in
    record {
      past = stands.past ++ map Some (take k s.cells);
      count = length-append stands.past (map Some (take k s.cells)) ∙ omega (arith, stands.count, mapped, taken, few, is.ready);
      items = λ more.
          let unsettled_same : unsettled t more ≡ unsettled s more = ap (λ l. map Some l ++ (map Some (growing t) ++ more)) same_held ∙ ap (λ l. map Some (held s) ++ (map Some l ++ more)) same_growing in
          ap (λ n. cross n (slots ++ more)) same
          ∙ stands.items more
          ∙ ap (λ l. stands.past ++ (l ++ cross s.overlap (unsettled s more))) items
          ∙ ap (λ l. stands.past ++ l) (append_assoc (map Some (take k s.cells)) (ready_items t) (cross s.overlap (unsettled s more)))
          ∙ sym (append_assoc stands.past (map Some (take k s.cells)) (ready_items t ++ cross s.overlap (unsettled s more)))
          ∙ ap (λ n. (stands.past ++ map Some (take k s.cells)) ++ (ready_items t ++ cross n (unsettled s more))) (sym same)
          ∙ ap (λ l. (stands.past ++ map Some (take k s.cells)) ++ (ready_items t ++ cross t.overlap l)) (sym unsettled_same);
      plain = plain_rest;
      track = subst IsTrack (sym same_held) stands.track;
      next = subst BeginsTrack (sym same_growing) stands.next;
    }

-- the samples that were laid are the items'
pub lefts : (cells : List Cell) → map slot_left (map Some cells) ≡ map (λ cell. cell.left) cells
lefts [] = refl
lefts (a ∷ cells) = ap (λ l. a.left ∷ l) (lefts cells)

pub rights : (cells : List Cell) → map slot_right (map Some cells) ≡ map (λ cell. cell.right) cells
rights [] = refl
rights (a ∷ cells) = ap (λ l. a.right ∷ l) (rights cells)

plain_front_items : (s : Crossing) (slots : List Slot) (p k : ℕ) → IsCrossing s → StandsFor s slots p → k ≤ s.ready - length s.next → take k (drop p (cross s.overlap slots)) ≡ map Some (take k s.cells)
plain_front_items s slots p k is stands few =
    let taken = length-take k s.cells in
    let mapped = length-map (take k s.cells) Some in
    ap (λ l. take k (drop p l)) (settled_now s slots p is stands)
    ∙ ap (take k) (drop_at stands.past (ready_items s) p stands.count)
    ∙ ap (take k) (plain_items s k is few)
    ∙ take_at (map Some (take k s.cells)) (ready_of (s.ready - k) s.whole (drop k s.cells) s.next ++ gap_of s.gap) k (omega (arith, taken, mapped, few, is.ready))

pub plain_lefts : (s : Crossing) (slots : List Slot) (p k : ℕ) → IsCrossing s → StandsFor s slots p → k ≤ s.ready - length s.next →
    map (λ (cell : Cell). cell.left) (take k s.cells) ≡ map slot_left (take k (drop p (cross s.overlap slots)))
plain_lefts s slots p k is stands few = sym (ap (map slot_left) (plain_front_items s slots p k is stands few) ∙ lefts (take k s.cells))

pub plain_rights : (s : Crossing) (slots : List Slot) (p k : ℕ) → IsCrossing s → StandsFor s slots p → k ≤ s.ready - length s.next →
    map (λ (cell : Cell). cell.right) (take k s.cells) ≡ map slot_right (take k (drop p (cross s.overlap slots)))
plain_rights s slots p k is stands few = sym (ap (map slot_right) (plain_front_items s slots p k is stands few) ∙ rights (take k s.cells))
