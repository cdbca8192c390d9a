-- How many items of a crossfade are settled.
use Rattle.std.proofs.Common.{◌≡◌, ◌<◌, ◌≤◌, ◌+◌, ◌-◌, ◌*◌, ◌∙◌, ◌++◌, ◌||◌, ℕ, suc, Some, None, List, [], ◌∷◌, length, take, drop, map, min, nat_le, Bool, true, false, cond, arith, refl, ap}
use Rattle.std.proofs.lemmas.Bool.Decides.{nat_tests}
use Rattle.std.proofs.lemmas.List.{length-append, length-map, length-take, length-drop}
use Rattle.frame_core.specs.declared.cell.Cell.{Cell}
use Rattle.frame_core.specs.Slots.{Slot}
use Rattle.op_cross.specs.Tracks.{Border, Flag, Gap, Unended, Piece, is_closed, with_front, begins_track, track_pieces}
use Rattle.op_cross.specs.Crossfade.{mixed_cells, overlap_of, takes_part, held_back, overlapped, settled, settled_from, cross}

abbrev pub gap : Border → ℕ
gap Flag = 0
gap Gap = 1
gap Unended = 0

-- how many slots these pieces are
abbrev pub total : List Piece → ℕ
total [] = 0
total (piece ∷ pieces) = length piece.cells + gap piece.border + total pieces

-- nothing follows an open border
abbrev pub IsCut : Border → List Piece → Type 0
IsCut Unended [] = Unit {0}
IsCut Unended (piece ∷ pieces) = ⊥
IsCut Flag [] = Unit {0}
IsCut Flag (piece ∷ pieces) = IsCut piece.border pieces
IsCut Gap [] = Unit {0}
IsCut Gap (piece ∷ pieces) = IsCut piece.border pieces

abbrev pub AreCut : List Piece → Type 0
AreCut [] = Unit {0}
AreCut (piece ∷ pieces) = IsCut piece.border pieces

with_front-cut : (cell : Cell) (pieces : List Piece) → AreCut pieces → AreCut (with_front cell pieces)
with_front-cut cell [] cut = tt
with_front-cut cell (piece ∷ pieces) cut = cut

flag-cut : (pieces : List Piece) → AreCut pieces → IsCut Flag pieces
flag-cut [] cut = tt
flag-cut (piece ∷ pieces) cut = cut

gap-cut : (pieces : List Piece) → AreCut pieces → IsCut Gap pieces
gap-cut [] cut = tt
gap-cut (piece ∷ pieces) cut = cut

pub pieces_of-cut : (slots : List Slot) → AreCut (track_pieces slots)
pieces_of-cut [] = tt
pieces_of-cut (None ∷ slots) = gap-cut (track_pieces slots) (pieces_of-cut slots)
pieces_of-cut (Some cell ∷ slots) =
    elim (begins_track slots) as (λ begins. AreCut (cond begins (record { cells = cell ∷ []; border = Flag } ∷ track_pieces slots) (with_front cell (track_pieces slots)))) [
      | true ↦ flag-cut (track_pieces slots) (pieces_of-cut slots)
      | false ↦ with_front-cut cell (track_pieces slots) (pieces_of-cut slots)
    ]

with_front-total : (cell : Cell) (pieces : List Piece) → total (with_front cell pieces) ≡ suc (total pieces)
with_front-total cell [] = refl
with_front-total cell (piece ∷ pieces) = omega arith

-- the pieces are all the slots
pub pieces_of-total : (slots : List Slot) → total (track_pieces slots) ≡ length slots
pieces_of-total [] = refl
pieces_of-total (None ∷ slots) = let rest = pieces_of-total slots in omega (arith, rest)
pieces_of-total (Some cell ∷ slots) =
    elim (begins_track slots) as (λ begins. total (cond begins (record { cells = cell ∷ []; border = Flag } ∷ track_pieces slots) (with_front cell (track_pieces slots))) ≡ suc (length slots)) [
      | true ↦ (let rest = pieces_of-total slots in omega (arith, rest))
      | false ↦ (let rest = pieces_of-total slots in omega (arith, rest, with_front-total cell (track_pieces slots)))
    ]

length-mixed : (from to : List Cell) (at whole : ℕ) → length from ≡ length to → length (mixed_cells from to at whole) ≡ length from
length-mixed [] to at whole same = refl
length-mixed (a ∷ from) [] at whole same = absurd (omega arith)
length-mixed (a ∷ from) (b ∷ to) at whole same = ap suc (length-mixed from to (suc at) whole (omega arith))

length-held : (most : ℕ) (r : List Cell) → length (held_back most r) ≡ length r - min most (length r)
length-held most r =
    let taken = length-take (length r - min most (length r)) r in
    length-map (take (length r - min most (length r)) r) Some ∙ taken ∙ omega arith

length-joined : (o : ℕ) (r next : List Cell) → o ≤ length r → o ≤ length next → length (overlapped o r next) ≡ length r
length-joined o r next in_r in_next =
    let front = length-map (take (length r - o) r) Some in
    let taken = length-take (length r - o) r in
    let from = length-drop (length r - o) r in
    let to = length-take o next in
    let same : length (drop (length r - o) r) ≡ length (take o next) = omega (arith, from, to, in_r, in_next) in
    let mix = length-mixed (drop (length r - o) r) (take o next) 0 o same in
    length-append (map Some (take (length r - o) r)) (mixed_cells (drop (length r - o) r) (take o next) 0 o)
    ∙ omega (arith, front, taken, from, mix, in_r)

-- a track that doesn't take part is the last one, and shorter than the overlap
not_taken : (most : ℕ) (r cells : List Cell) (border : Border) (pieces : List Piece) → IsCut border pieces →
    (is_closed border || nat_le (min most (length r)) (length cells)) ≡ false →
    (gap border + total pieces ≡ 0) × (length cells < min most (length r))
not_taken most r cells Flag pieces cut e = let no : true ≡ false = e in (cc, cc)
not_taken most r cells Gap pieces cut e = let no : true ≡ false = e in (cc, cc)
not_taken most r cells Unended [] cut e = (refl, short (min most (length r)) (length cells) e)
  where
    short : (a b : ℕ) → nat_le a b ≡ false → b < a
    short a b e = grind (arith, nat_tests)
not_taken most r cells Unended (piece ∷ pieces) cut e = absurd cut

-- the turn of the law at a next track
flag-many : (most : ℕ) (r : List Cell) (next : Piece) (pieces : List Piece) → IsCut next.border pieces → (rest : List Slot) →
    length (drop (overlap_of most r next.cells) next.cells) + gap next.border + total pieces ≤ 2 * length rest + 2 * most →
    (takes : Bool) → takes_part most r next ≡ takes →
    length r + 0 + (length next.cells + gap next.border + total pieces)
    ≤ 2 * length (cond takes (overlapped (overlap_of most r next.cells) r next.cells ++ rest) (held_back most r)) + 2 * most
flag-many most r next pieces cut rest many true e =
    let o = overlap_of most r next.cells in
    let dropped = length-drop o next.cells in
    let all = length-append (overlapped o r next.cells) rest in
    let mixed = length-joined o r next.cells (omega arith) (omega arith) in
    omega (arith, many, dropped, all, mixed)
flag-many most r next pieces cut rest many false e =
    let held = length-held most r in
    let short = not_taken most r next.cells next.border pieces cut e in
    omega (arith, held, short.0, short.1)

-- all but twice the overlap of the slots make an item for each two of them
pub settled-many : (most : ℕ) (r : List Cell) (border : Border) (pieces : List Piece) → IsCut border pieces →
    length r + gap border + total pieces ≤ 2 * length (settled most r border pieces) + 2 * most
settled-many most r Unended [] cut = let held = length-held most r in omega (arith, held)
settled-many most r Unended (piece ∷ pieces) cut = absurd cut
settled-many most r Gap [] cut = let all = length-append (map Some r) (None ∷ []) in let cells = length-map r Some in omega (arith, all, cells)
settled-many most r Gap (next ∷ pieces) cut =
    let rest = settled-many most next.cells next.border pieces cut in
    let all = length-append (map Some r) (None ∷ settled most next.cells next.border pieces) in
    let cells = length-map r Some in
    omega (arith, rest, all, cells)
settled-many most r Flag [] cut = let held = length-held most r in omega (arith, held)
settled-many most r Flag (next ∷ pieces) cut =
    flag-many most r next pieces cut (settled most (drop (overlap_of most r next.cells) next.cells) next.border pieces)
    (settled-many most (drop (overlap_of most r next.cells) next.cells) next.border pieces cut) (takes_part most r next) refl

settled_from-many : (most : ℕ) (pieces : List Piece) → AreCut pieces → total pieces ≤ 2 * length (settled_from most pieces) + 2 * most
settled_from-many most [] cut = omega arith
settled_from-many most (piece ∷ pieces) cut = settled-many most piece.cells piece.border pieces cut

-- item p is settled once so many slots are there
pub cross-many : (most : ℕ) (slots : List Slot) (p : ℕ) → 2 * p + 2 * most + 2 ≤ length slots → p < length (cross most slots)
cross-many most slots p long =
    let many = settled_from-many most (track_pieces slots) (pieces_of-cut slots) in
    let all = pieces_of-total slots in omega (arith, many, all, long)
