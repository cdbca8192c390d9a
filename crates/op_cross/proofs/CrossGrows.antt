-- A longer list of slots keeps the settled items of a crossfade.
use Rattle.std.proofs.Common.{◌≡◌, ◌≤◌, ◌+◌, ◌-◌, ◌∙◌, ◌++◌, ◌||◌, ℕ, Some, None, List, [], ◌∷◌, length, take, drop, map, min, nat_le, Bool, true, false, cond, arith, refl, ap, sym, subst, append_assoc, ◌⊎◌, inl, inr}
use Rattle.std.proofs.lemmas.Bool.Decides.{nat_tests}
use Rattle.std.proofs.lemmas.List.{length-append, append-nil, take-append-le, drop-append-le, map-append}
use Rattle.std.proofs.Math.Seq.{take-add, take-length}
use Rattle.frame_core.specs.declared.cell.Cell.{Cell}
use Rattle.frame_core.specs.Slots.{Slot, is_first}
use Rattle.op_cross.specs.Tracks.{Border, Flag, Gap, Unended, Piece, is_closed, with_front, begins_track, track_pieces}
use Rattle.op_cross.specs.Crossfade.{mixed_cells, overlap_of, takes_part, held_back, overlapped, settled, settled_from, cross}

-- the first list begins the second
pub record Begins {A : Type 0} (front whole : List A) : Type 0 where
  pub rest : List A
  pub is : front ++ rest ≡ whole

Begins-same : {A : Type 0} (xs : List A) → Begins xs xs
Begins-same xs = record { rest = []; is = append-nil xs }

Begins-behind : {A : Type 0} (front xs ys : List A) → Begins xs ys → Begins (front ++ xs) (front ++ ys)
Begins-behind front xs ys b = record { rest = b.rest; is = append_assoc front xs b.rest ∙ ap (λ l. front ++ l) b.is }

Begins-more : {A : Type 0} (xs ys zs : List A) → Begins xs ys → Begins xs (ys ++ zs)
Begins-more xs ys zs b = record { rest = b.rest ++ zs; is = sym (append_assoc xs b.rest zs) ∙ ap (λ l. l ++ zs) b.is }

abbrev pub IsClosed : Border → Type 0
IsClosed Flag = Unit {0}
IsClosed Gap = Unit {0}
IsClosed Unended = ⊥

-- the pieces of a list and those of a longer one: only an open last piece may grow
abbrev pub Grows : List Piece → List Piece → Type 0
Grows [] longer = Unit {0}
Grows (piece ∷ pieces) [] = ⊥
Grows (piece ∷ pieces) (next ∷ longer) =
    ((piece ≡ next) × IsClosed piece.border × Grows pieces longer)
    ⊎ ((pieces ≡ []) × (piece.border ≡ Unended) × Begins piece.cells next.cells)

front-alone : (cell : Cell) (pieces : List Piece) → Grows (record { cells = cell ∷ []; border = Unended } ∷ []) (with_front cell pieces)
front-alone cell [] = inr (refl, refl, Begins-same (cell ∷ []))
front-alone cell (piece ∷ pieces) = inr (refl, refl, record { rest = piece.cells; is = refl })

with_front-grows : (cell : Cell) (pieces longer : List Piece) → Grows pieces longer → Grows (with_front cell pieces) (with_front cell longer)
with_front-grows cell [] longer g = front-alone cell longer
with_front-grows cell (piece ∷ pieces) [] g = absurd g
with_front-grows cell (piece ∷ pieces) (next ∷ longer) g = elim g [
  | inl c ↦ inl (ap (λ (p : Piece). record { cells = cell ∷ p.cells; border = p.border }) c.0, c.1, c.2)
  | inr o ↦ inr (o.0, o.1, record { rest = o.2.rest; is = ap (λ l. cell ∷ l) o.2.is })
]

pub pieces_of-grows : (slots more : List Slot) → Grows (track_pieces slots) (track_pieces (slots ++ more))
pieces_of-grows [] more = tt
pieces_of-grows (None ∷ slots) more = inl (refl, tt, pieces_of-grows slots more)
pieces_of-grows (Some cell ∷ []) more =
    elim (begins_track more) as (λ b. Grows (record { cells = cell ∷ []; border = Unended } ∷ []) (cond b (record { cells = cell ∷ []; border = Flag } ∷ track_pieces more) (with_front cell (track_pieces more)))) [
      | true ↦ inr (refl, refl, Begins-same (cell ∷ []))
      | false ↦ front-alone cell (track_pieces more)
    ]
pieces_of-grows (Some cell ∷ slot ∷ slots) more =
    let rest = pieces_of-grows (slot ∷ slots) more in
    elim (is_first slot) as (λ b. Grows (cond b (record { cells = cell ∷ []; border = Flag } ∷ track_pieces (slot ∷ slots)) (with_front cell (track_pieces (slot ∷ slots))))
    (cond b (record { cells = cell ∷ []; border = Flag } ∷ track_pieces (slot ∷ slots ++ more)) (with_front cell (track_pieces (slot ∷ slots ++ more))))) [
      | true ↦ inl (refl, tt, rest)
      | false ↦ with_front-grows cell (track_pieces (slot ∷ slots)) (track_pieces (slot ∷ slots ++ more)) rest
    ]

-- fewer cells of a shorter track begin more cells of a longer one
le-from : (a b : ℕ) → nat_le a b ≡ true → a ≤ b
le-from a b e = grind (arith, nat_tests)

le-to : (a b : ℕ) → a ≤ b → nat_le a b ≡ true
le-to a b h = grind (arith, nat_tests)

some-begins : (a b : ℕ) (cells more : List Cell) → a ≤ b → a ≤ length cells → Begins (map Some (take a cells)) (map Some (take b (cells ++ more)))
some-begins a b cells more le small = record {
  rest = map Some (take (b - a) (drop a (cells ++ more)));
  is = sym (map-append Some (take a cells) (take (b - a) (drop a (cells ++ more))))
      ∙ ap (map Some) (ap (λ l. l ++ take (b - a) (drop a (cells ++ more))) (sym (take-append-le a cells more small))
      ∙ sym (take-add a (b - a) (cells ++ more)) ∙ ap (λ n. take n (cells ++ more)) sum);
}
  where
    sum : a + (b - a) ≡ b
    sum = omega arith

all-of : (cells more : List Cell) → take (length (cells ++ more)) (cells ++ more) ≡ cells ++ more
all-of cells more = take-length (cells ++ more)

held-held : (most : ℕ) (cells more : List Cell) → Begins (held_back most cells) (held_back most (cells ++ more))
held-held most cells more =
    let long = length-append cells more in
    some-begins (length cells - min most (length cells)) (length (cells ++ more) - min most (length (cells ++ more))) cells more (omega (arith, long)) (omega arith)

held-all : (most : ℕ) (cells more : List Cell) → Begins (held_back most cells) (map Some (cells ++ more))
held-all most cells more =
    let long = length-append cells more in
    subst (λ l. Begins (held_back most cells) (map Some l)) (all-of cells more)
    (some-begins (length cells - min most (length cells)) (length (cells ++ more)) cells more (omega (arith, long)) (omega arith))

-- a next track leaves what is held back of the one before it
held-joined : (most o : ℕ) (cells more : List Cell) (next : List Cell) (rest : List Slot) → o ≤ min most (length (cells ++ more)) →
    Begins (held_back most cells) (overlapped o (cells ++ more) next ++ rest)
held-joined most o cells more next rest small =
    let long = length-append cells more in
    Begins-more (held_back most cells) (overlapped o (cells ++ more) next) rest
    (Begins-more (held_back most cells) (map Some (take (length (cells ++ more) - o) (cells ++ more))) (mixed_cells (drop (length (cells ++ more) - o) (cells ++ more)) (take o next) 0 o)
    (some-begins (length cells - min most (length cells)) (length (cells ++ more) - o) cells more (omega (arith, long, small)) (omega arith)))

-- what is held back of a track is held back of nothing longer
held-begins : (most : ℕ) (cells more : List Cell) (border : Border) (pieces : List Piece) → Begins (held_back most cells) (settled most (cells ++ more) border pieces)
held-begins most cells more Unended pieces = held-held most cells more
held-begins most cells more Gap [] = Begins-more (held_back most cells) (map Some (cells ++ more)) (None ∷ []) (held-all most cells more)
held-begins most cells more Gap (next ∷ pieces) = Begins-more (held_back most cells) (map Some (cells ++ more)) (None ∷ settled most next.cells next.border pieces) (held-all most cells more)
held-begins most cells more Flag [] = held-held most cells more
held-begins most cells more Flag (next ∷ pieces) =
    elim (takes_part most (cells ++ more) next) as (λ b. Begins (held_back most cells)
    (cond b (overlapped (overlap_of most (cells ++ more) next.cells) (cells ++ more) next.cells ++ settled most (drop (overlap_of most (cells ++ more) next.cells) next.cells) next.border pieces) (held_back most (cells ++ more)))) [
      | true ↦ held-joined most (overlap_of most (cells ++ more) next.cells) cells more next.cells (settled most (drop (overlap_of most (cells ++ more) next.cells) next.cells) next.border pieces) (omega arith)
      | false ↦ held-held most cells more
    ]

-- an open track, of which more is known later
open-grows : (most : ℕ) (cells longer : List Cell) (border : Border) (pieces : List Piece) → Begins cells longer → Begins (held_back most cells) (settled most longer border pieces)
open-grows most cells longer border pieces b = subst (λ l. Begins (held_back most cells) (settled most l border pieces)) b.is (held-begins most cells b.rest border pieces)

closed-takes : (most : ℕ) (r : List Cell) (next : Piece) → IsClosed next.border → takes_part most r next ≡ true
closed-takes most r next closed = go next.border closed
  where
    go : (border : Border) → IsClosed border → (is_closed border || nat_le (min most (length r)) (length next.cells)) ≡ true
    go Flag c = refl
    go Gap c = refl
    go Unended c = absurd c

-- the track behind a closed one grows, and is not closed itself
grown-open : (most : ℕ) (r cells more : List Cell) (border : Border) (longer : List Piece) → nat_le (min most (length r)) (length cells) ≡ true →
    Begins (overlapped (overlap_of most r cells) r cells ++ held_back most (drop (overlap_of most r cells) cells)) (settled most r Flag (record { cells = cells ++ more; border = border } ∷ longer))
grown-open most r cells more border longer e =
    let takes : (is_closed border || nat_le (min most (length r)) (length (cells ++ more))) ≡ true = taken (is_closed border) in
    let front : take (overlap_of most r cells) (cells ++ more) ≡ take (overlap_of most r cells) cells = take-append-le (overlap_of most r cells) cells more (omega arith) in
    let back : drop (overlap_of most r cells) (cells ++ more) ≡ drop (overlap_of most r cells) cells ++ more = drop-append-le (overlap_of most r cells) cells more (omega arith) in
    rw takes
    (subst (λ n. Begins (overlapped (overlap_of most r cells) r cells ++ held_back most (drop (overlap_of most r cells) cells)) (overlapped n r (cells ++ more) ++ settled most (drop n (cells ++ more)) border longer)) (sym same)
    (subst (λ t. Begins (overlapped (overlap_of most r cells) r cells ++ held_back most (drop (overlap_of most r cells) cells))
    ((map Some (take (length r - overlap_of most r cells) r) ++ mixed_cells (drop (length r - overlap_of most r cells) r) t 0 (overlap_of most r cells)) ++ settled most (drop (overlap_of most r cells) (cells ++ more)) border longer)) (sym front)
    (Begins-behind (overlapped (overlap_of most r cells) r cells) (held_back most (drop (overlap_of most r cells) cells)) (settled most (drop (overlap_of most r cells) (cells ++ more)) border longer)
    (subst (λ l. Begins (held_back most (drop (overlap_of most r cells) cells)) (settled most l border longer)) (sym back)
    (held-begins most (drop (overlap_of most r cells) cells) more border longer)))))
  where
    small : min most (length r) ≤ length cells
    small = le-from (min most (length r)) (length cells) e

    same : overlap_of most r (cells ++ more) ≡ overlap_of most r cells
    same = let long = length-append cells more in omega (arith, long, small)

    longer_le : nat_le (min most (length r)) (length (cells ++ more)) ≡ true
    longer_le = let long = length-append cells more in le-to (min most (length r)) (length (cells ++ more)) (omega (arith, long, small))

    taken : (closed : Bool) → (closed || nat_le (min most (length r)) (length (cells ++ more))) ≡ true
    taken true = refl
    taken false = longer_le

flag-open : (most : ℕ) (r : List Cell) (cells : List Cell) (next : Piece) (longer : List Piece) → Begins cells next.cells →
    (t : Bool) → nat_le (min most (length r)) (length cells) ≡ t →
    Begins (cond t (overlapped (overlap_of most r cells) r cells ++ held_back most (drop (overlap_of most r cells) cells)) (held_back most r)) (settled most r Flag (next ∷ longer))
flag-open most r cells next longer b true e =
    subst (λ l. Begins (overlapped (overlap_of most r cells) r cells ++ held_back most (drop (overlap_of most r cells) cells)) (settled most r Flag (record { cells = l; border = next.border } ∷ longer))) b.is
    (grown-open most r cells b.rest next.border longer e)
flag-open most r cells next longer b false e = open-grows most r r Flag (next ∷ longer) (Begins-same r)

flag-closed : (t : Bool) (front held rest rest' : List Slot) → t ≡ true → Begins rest rest' → Begins (cond t (front ++ rest) held) (cond t (front ++ rest') held)
flag-closed true front held rest rest' e b = Begins-behind front rest rest' b
flag-closed false front held rest rest' e b = let no : false ≡ true = e in cc

pub settled-grows : (most : ℕ) (r : List Cell) (border : Border) (pieces longer : List Piece) → IsClosed border → Grows pieces longer →
    Begins (settled most r border pieces) (settled most r border longer)
settled-grows most r Unended pieces longer closed g = absurd closed
settled-grows most r Gap [] [] closed g = Begins-same (map Some r ++ None ∷ [])
settled-grows most r Gap [] (next ∷ longer) closed g = record { rest = settled most next.cells next.border longer; is = append_assoc (map Some r) (None ∷ []) (settled most next.cells next.border longer) }
settled-grows most r Gap (piece ∷ pieces) [] closed g = absurd g
settled-grows most r Gap (piece ∷ pieces) (next ∷ longer) closed g =
    Begins-behind (map Some r) (None ∷ settled most piece.cells piece.border pieces) (None ∷ settled most next.cells next.border longer)
    (Begins-behind (None ∷ []) (settled most piece.cells piece.border pieces) (settled most next.cells next.border longer)
    (elim g [
      | inl c ↦ subst (λ (p : Piece). Begins (settled most piece.cells piece.border pieces) (settled most p.cells p.border longer)) c.0
          (settled-grows most piece.cells piece.border pieces longer c.1 c.2)
      | inr o ↦ subst (λ ps. Begins (settled most piece.cells piece.border ps) (settled most next.cells next.border longer)) (sym o.0)
          (subst (λ b. Begins (settled most piece.cells b []) (settled most next.cells next.border longer)) (sym o.1)
          (open-grows most piece.cells next.cells next.border longer o.2))
    ]))
settled-grows most r Flag [] [] closed g = Begins-same (held_back most r)
settled-grows most r Flag [] (next ∷ longer) closed g = open-grows most r r Flag (next ∷ longer) (Begins-same r)
settled-grows most r Flag (piece ∷ pieces) [] closed g = absurd g
settled-grows most r Flag (piece ∷ pieces) (next ∷ longer) closed g = elim g [
  | inl c ↦ subst (λ (p : Piece). Begins (settled most r Flag (piece ∷ pieces)) (settled most r Flag (p ∷ longer))) c.0
      (flag-closed (takes_part most r piece) (overlapped (overlap_of most r piece.cells) r piece.cells) (held_back most r)
      (settled most (drop (overlap_of most r piece.cells) piece.cells) piece.border pieces) (settled most (drop (overlap_of most r piece.cells) piece.cells) piece.border longer)
      (closed-takes most r piece c.1)
      (settled-grows most (drop (overlap_of most r piece.cells) piece.cells) piece.border pieces longer c.1 c.2))
  | inr o ↦ subst (λ ps. Begins (settled most r Flag (piece ∷ ps)) (settled most r Flag (next ∷ longer))) (sym o.0)
      (subst (λ b. Begins (settled most r Flag (record { cells = piece.cells; border = b } ∷ [])) (settled most r Flag (next ∷ longer))) (sym o.1)
      (flag-open most r piece.cells next longer o.2 (nat_le (min most (length r)) (length piece.cells)) refl))
]

settled_from-grows : (most : ℕ) (pieces longer : List Piece) → Grows pieces longer → Begins (settled_from most pieces) (settled_from most longer)
settled_from-grows most [] longer g = record { rest = settled_from most longer; is = refl }
settled_from-grows most (piece ∷ pieces) [] g = absurd g
settled_from-grows most (piece ∷ pieces) (next ∷ longer) g = elim g [
  | inl c ↦ subst (λ (p : Piece). Begins (settled most piece.cells piece.border pieces) (settled most p.cells p.border longer)) c.0
      (settled-grows most piece.cells piece.border pieces longer c.1 c.2)
  | inr o ↦ subst (λ ps. Begins (settled most piece.cells piece.border ps) (settled most next.cells next.border longer)) (sym o.0)
      (subst (λ b. Begins (settled most piece.cells b []) (settled most next.cells next.border longer)) (sym o.1)
      (open-grows most piece.cells next.cells next.border longer o.2))
]

-- a longer list keeps the settled items
pub cross-begins : (most : ℕ) (slots more : List Slot) → Begins (cross most slots) (cross most (slots ++ more))
cross-begins most slots more = settled_from-grows most (track_pieces slots) (track_pieces (slots ++ more)) (pieces_of-grows slots more)
