-- A track that goes on, of which as much as the overlap is held: each further cell settles one.
use Rattle.std.proofs.Common.{◌≡◌, ◌<◌, ◌≤◌, ◌∙◌, ◌++◌, ℕ, Some, List, [], ◌∷◌, length, take, drop, map, arith, refl, ap, sym, append_assoc}
use Rattle.std.proofs.lemmas.List.{length-append}
use Rattle.frame_core.specs.declared.cell.Cell.{Cell}
use Rattle.frame_core.specs.Slots.{Slot}
use Rattle.op_cross.specs.Crossfade.{cross}
use Rattle.op_cross.specs.States.{AllInner, IsTrack}
use Rattle.op_cross.proofs.Filling.{one_settled}

all_inner : (front back : List Cell) → AllInner front → AllInner back → AllInner (front ++ back)
all_inner [] back inner rest = rest
all_inner (a ∷ front) back inner rest = (inner.0, all_inner front back inner.1 rest)

inner_track : (cells : List Cell) → AllInner cells → IsTrack cells
inner_track [] inner = tt
inner_track (a ∷ cells) inner = inner.1

inner_settled : (most : ℕ) (a : Cell) (cells : List Cell) (more : List Slot) → AllInner cells → most ≤ length cells → 0 < most →
    cross most (map Some (a ∷ cells) ++ more) ≡ Some a ∷ cross most (map Some cells ++ more)
inner_settled most a [] more inner long some = absurd (omega (arith, long, some))
inner_settled most a (b ∷ cells) more inner long some = one_settled most a b cells more inner.0 inner.1 long

pub track_goes_on : (most : ℕ) (cells r : List Cell) (more : List Slot) → IsTrack r → AllInner cells → length r ≡ most → 0 < most →
    cross most (map Some (r ++ cells) ++ more) ≡ map Some (take (length cells) (r ++ cells)) ++ cross most (map Some (drop (length cells) (r ++ cells)) ++ more)
track_goes_on most [] r more track inner full some = refl
track_goes_on most (c ∷ cells) [] more track inner full some = absurd (omega (arith, full, some))
track_goes_on most (c ∷ cells) (a ∷ r) more track inner full some =
    let same : r ++ c ∷ cells ≡ (r ++ c ∷ []) ++ cells = sym (append_assoc r (c ∷ []) cells) in
    let one : AllInner (r ++ c ∷ []) = all_inner r (c ∷ []) track (inner.0, tt) in
    let long = length-append r (c ∷ []) in
    let longer = length-append (r ++ c ∷ []) cells in
    ap (λ l. cross most (map Some (a ∷ l) ++ more)) same
    ∙ inner_settled most a ((r ++ c ∷ []) ++ cells) more (all_inner (r ++ c ∷ []) cells one inner.1) (omega (arith, long, longer, full)) some
    ∙ ap (λ l. Some a ∷ l) (track_goes_on most cells (r ++ c ∷ []) more (inner_track (r ++ c ∷ []) one) inner.1 (omega (arith, long, full)) some)
    ∙ ap (λ l. map Some (take (length (c ∷ cells)) (a ∷ l)) ++ cross most (map Some (drop (length (c ∷ cells)) (a ∷ l)) ++ more)) (sym same)
