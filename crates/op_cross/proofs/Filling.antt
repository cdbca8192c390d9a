-- How the items of a crossfade go on where a slot is filled, by what is held back of a track and what is there of the next one.
use Rattle.std.proofs.Common.{◌≡◌, ◌<◌, ◌≤◌, ◌-◌, ◌∙◌, ◌++◌, ◌||◌, ◌⊎◌, inl, inr, ℕ, suc, Some, None, List, [], ◌∷◌, length, take, drop, map, min, nat_le, Bool, true, false, cond, arith, refl, ap, sym, subst}
use Rattle.std.proofs.lemmas.Bool.Decides.{nat_tests}
use Rattle.std.proofs.lemmas.List.{length-append, append-nil, take_at, drop_at}
use Rattle.std.proofs.Math.Seq.{take-nil}
use Rattle.frame_core.specs.declared.cell.Cell.{Cell}
use Rattle.frame_core.specs.Slots.{Slot}
use Rattle.op_cross.specs.Tracks.{Border, Flag, Gap, Unended, Piece, is_closed, with_front, begins_track, track_pieces}
use Rattle.op_cross.specs.States.{AllInner, IsTrack, BeginsTrack}
use Rattle.op_cross.specs.Crossfade.{mixed_cells, overlap_of, takes_part, held_back, overlapped, settled, settled_from, cross}

-- whether these slots end a track that stands before them
abbrev pub ends : List Slot → Bool
ends [] = false
ends (None ∷ slots) = true
ends (Some cell ∷ slots) = cell.first

-- the pieces of some cells of a track and the slots behind them: the first goes on as far as the track does
pub record Cut (most : ℕ) (cells : List Cell) (slots : List Slot) : Type 0 where
  pub behind : List Cell
  pub border : Border
  pub pieces : List Piece
  pub is : track_pieces (map Some cells ++ slots) ≡ record { cells = cells ++ behind; border = border } ∷ pieces
  pub eaten : settled most behind border pieces ≡ cross most slots
  pub closed : ends slots ≡ true → (is_closed border ≡ true) × (behind ≡ [])
  pub flagged : begins_track slots ≡ true → (border ≡ Flag) × (pieces ≡ track_pieces slots)

-- a cell in front of one that goes on with its track
fronted : (cell next : Cell) (slots : List Slot) → next.first ≡ false → track_pieces (Some cell ∷ Some next ∷ slots) ≡ with_front cell (track_pieces (Some next ∷ slots))
fronted cell next slots inner = let P : Bool → Type 0 = λ b. cond b (record { cells = cell ∷ []; border = Flag } ∷ track_pieces (Some next ∷ slots)) (with_front cell (track_pieces (Some next ∷ slots))) ≡ with_front cell (track_pieces (Some next ∷ slots)) in
    subst P (sym inner) refl

-- a track of no cells holds nothing back, and overlaps nothing
held_nothing : (most : ℕ) → held_back most [] ≡ []
held_nothing most = rw take-nil refl

-- a track that is wholly eaten leaves the next one as it is
eaten_flag : (most : ℕ) (pieces : List Piece) → settled most [] Flag pieces ≡ settled_from most pieces
eaten_flag most [] = held_nothing most
eaten_flag most (piece ∷ pieces) =
    let o : overlap_of most [] piece.cells ≡ 0 = omega arith in
    let takes : takes_part most [] piece ≡ true = taken (is_closed piece.border) in
    rw (takes, o) (ap (λ n. settled most (drop n piece.cells) piece.border pieces) o)
  where
    taken : (closed : Bool) → (closed || nat_le (min most 0) (length piece.cells)) ≡ true
    taken true = refl
    taken false = grind (arith, nat_tests)

fronted_some : (cell : Cell) (pieces : List Piece) → with_front cell pieces ≡ [] → ⊥
fronted_some cell [] e = cc
fronted_some cell (piece ∷ pieces) e = cc

some_pieces : (cell : Cell) (slots : List Slot) → track_pieces (Some cell ∷ slots) ≡ [] → ⊥
some_pieces cell slots e = by (begins_track slots) e
  where
    by : (begins : Bool) → cond begins (record { cells = cell ∷ []; border = Flag } ∷ track_pieces slots) (with_front cell (track_pieces slots)) ≡ [] → ⊥
    by true e = cc
    by false e = fronted_some cell (track_pieces slots) e

-- one cell, and what is behind it, which goes on with its track
one_on : (most : ℕ) (cell next : Cell) (slots : List Slot) (pieces : List Piece) → track_pieces (Some next ∷ slots) ≡ pieces → next.first ≡ false → Cut most (cell ∷ []) (Some next ∷ slots)
one_on most cell next slots [] e inner = absurd (some_pieces next slots e)
one_on most cell next slots (piece ∷ pieces) e inner = record {
  behind = piece.cells;
  border = piece.border;
  pieces = pieces;
  is = fronted cell next slots inner ∙ ap (with_front cell) e;
  eaten = sym (ap (settled_from most) e);
  closed = λ h. absurd (cc h);
  flagged = λ h. absurd (cc h);
}

one : (most : ℕ) (cell : Cell) (slots : List Slot) → Cut most (cell ∷ []) slots
one most cell [] = record {
  behind = [];
  border = Unended;
  pieces = [];
  is = refl;
  eaten = held_nothing most;
  closed = λ h. absurd (cc h);
  flagged = λ h. absurd (cc h);
}
one most cell (None ∷ slots) = record {
  behind = [];
  border = Gap;
  pieces = track_pieces slots;
  is = refl;
  eaten = gap (track_pieces slots);
  closed = λ h. (refl, refl);
  flagged = λ h. absurd (cc h);
}
  where
    gap : (pieces : List Piece) → settled most [] Gap pieces ≡ settled_from most (record { cells = []; border = Gap } ∷ pieces)
    gap pieces = refl
one most cell (Some next ∷ slots) = by next.first refl
  where
    by : (first : Bool) → next.first ≡ first → Cut most (cell ∷ []) (Some next ∷ slots)
    by true e = record {
      behind = [];
      border = Flag;
      pieces = track_pieces (Some next ∷ slots);
      is = rw e refl;
      eaten = eaten_flag most (track_pieces (Some next ∷ slots));
      closed = λ h. (refl, refl);
      flagged = λ h. (refl, refl);
    }
    by false e = one_on most cell next slots (track_pieces (Some next ∷ slots)) refl e

more : (most : ℕ) (cell next : Cell) (cells : List Cell) (slots : List Slot) → next.first ≡ false → Cut most (next ∷ cells) slots → Cut most (cell ∷ next ∷ cells) slots
more most cell next cells slots inner cut = record {
  behind = cut.behind;
  border = cut.border;
  pieces = cut.pieces;
  is = fronted cell next (map Some cells ++ slots) inner ∙ ap (with_front cell) cut.is;
  eaten = cut.eaten;
  closed = cut.closed;
  flagged = cut.flagged;
}

pub cut_of : (most : ℕ) (cell : Cell) (cells : List Cell) (slots : List Slot) → AllInner cells → Cut most (cell ∷ cells) slots
cut_of most cell [] slots inner = one most cell slots
cut_of most cell (next ∷ cells) slots inner = more most cell next cells slots inner.0 (cut_of most next cells slots inner.1)

-- the mix of the last cells of a track with all those of the next one
abbrev pub mixed_end : List Cell → List Cell → List Slot
mixed_end r next = map Some (take (length r - length next) r) ++ mixed_cells (drop (length r - length next) r) next 0 (length next)

-- a next track that takes part, and is eaten as far as it is given here
pub joined_cut : (most : ℕ) (r : List Cell) (cell : Cell) (cells : List Cell) (slots : List Slot) → AllInner cells →
    length (cell ∷ cells) ≤ min most (length r) → ((ends slots ≡ true) ⊎ (length r ≤ length (cell ∷ cells))) →
    settled most r Flag (track_pieces (map Some (cell ∷ cells) ++ slots)) ≡ mixed_end r (cell ∷ cells) ++ cross most slots
joined_cut most r cell cells slots inner fits ended = by (cut_of most cell cells slots inner)
  where
    by : Cut most (cell ∷ cells) slots → settled most r Flag (track_pieces (map Some (cell ∷ cells) ++ slots)) ≡ mixed_end r (cell ∷ cells) ++ cross most slots
    by cut =
        let long = length-append (cell ∷ cells) cut.behind in
        let o : overlap_of most r (cell ∷ cells ++ cut.behind) ≡ length (cell ∷ cells) = elim ended [
          | inl e ↦ (let none : length cut.behind ≡ 0 = ap length (cut.closed e).1 in omega (arith, long, none, fits))
          | inr all ↦ omega (arith, long, all, fits)
        ] in
        let takes : takes_part most r (record { cells = cell ∷ cells ++ cut.behind; border = cut.border }) ≡ true = elim ended [
          | inl e ↦ closed_takes (is_closed cut.border) (nat_le (min most (length r)) (length (cell ∷ cells ++ cut.behind))) (cut.closed e).0
          | inr all ↦ long_takes (is_closed cut.border) (min most (length r)) (length (cell ∷ cells ++ cut.behind)) (omega (arith, long, all))
        ] in
        let eaten : drop (length (cell ∷ cells)) (cell ∷ cells ++ cut.behind) ≡ cut.behind = drop_at (cell ∷ cells) cut.behind (length (cell ∷ cells)) refl in
        let mixed : take (length (cell ∷ cells)) (cell ∷ cells ++ cut.behind) ≡ cell ∷ cells = take_at (cell ∷ cells) cut.behind (length (cell ∷ cells)) refl in
        ap (settled most r Flag) cut.is
        ∙ go most r (cell ∷ cells ++ cut.behind) cut.border cut.pieces (cell ∷ cells) cut.behind (length (cell ∷ cells)) takes o eaten mixed
        ∙ ap (λ l. mixed_end r (cell ∷ cells) ++ l) cut.eaten
      where
        closed_takes : (closed le : Bool) → closed ≡ true → (closed || le) ≡ true
        closed_takes true le e = refl
        closed_takes false le e = cc

        long_takes : (closed : Bool) (a b : ℕ) → a ≤ b → (closed || nat_le a b) ≡ true
        long_takes true a b less = refl
        long_takes false a b less = grind (arith, nat_tests)

        go : (most : ℕ) (r whole : List Cell) (border : Border) (pieces : List Piece) (next behind : List Cell) (o : ℕ) →
            takes_part most r (record { cells = whole; border = border }) ≡ true → overlap_of most r whole ≡ o →
            drop o whole ≡ behind → take o whole ≡ next →
            settled most r Flag (record { cells = whole; border = border } ∷ pieces)
            ≡ (map Some (take (length r - o) r) ++ mixed_cells (drop (length r - o) r) next 0 o) ++ settled most behind border pieces
        go most r whole border pieces next behind o takes is eaten mixed =
            rw takes
            (ap (λ n. overlapped n r whole ++ settled most (drop n whole) border pieces) is
            ∙ ap (λ l. overlapped o r whole ++ settled most l border pieces) eaten
            ∙ ap (λ l. (map Some (take (length r - o) r) ++ mixed_cells (drop (length r - o) r) l 0 o) ++ settled most behind border pieces) mixed)

-- nothing more is behind a track that a flagged cell ends
plain : (most : ℕ) (r behind : List Cell) (border : Border) (pieces next : List Piece) → behind ≡ [] → border ≡ Flag → pieces ≡ next →
    settled most (r ++ behind) border pieces ≡ settled most r Flag next
plain most r behind border pieces next none flag same =
    ap (λ l. settled most (r ++ l) border pieces) none
    ∙ ap (λ l. settled most l border pieces) (append-nil r)
    ∙ ap (λ b. settled most r b pieces) flag
    ∙ ap (settled most r Flag) same

-- two tracks, of which the second takes part and is eaten
pub two_tracks : (most : ℕ) (a : Cell) (r : List Cell) (b : Cell) (next : List Cell) (slots : List Slot) → AllInner r → b.first ≡ true → AllInner next →
    length (b ∷ next) ≤ min most (length (a ∷ r)) → ((ends slots ≡ true) ⊎ (length (a ∷ r) ≤ length (b ∷ next))) →
    cross most (map Some (a ∷ r) ++ (map Some (b ∷ next) ++ slots)) ≡ mixed_end (a ∷ r) (b ∷ next) ++ cross most slots
two_tracks most a r b next slots inner flag inner_next fits ended = by (cut_of most a r (map Some (b ∷ next) ++ slots) inner)
  where
    by : Cut most (a ∷ r) (map Some (b ∷ next) ++ slots) → cross most (map Some (a ∷ r) ++ (map Some (b ∷ next) ++ slots)) ≡ mixed_end (a ∷ r) (b ∷ next) ++ cross most slots
    by cut =
        let flagged = cut.flagged flag in
        let closed = cut.closed flag in
        ap (settled_from most) cut.is
        ∙ plain most (a ∷ r) cut.behind cut.border cut.pieces (track_pieces (map Some (b ∷ next) ++ slots)) closed.1 flagged.0 flagged.1
        ∙ joined_cut most (a ∷ r) b next slots inner_next fits ended

-- an empty slot ends a track
pub gap_first : (most : ℕ) (slots : List Slot) → cross most (None ∷ slots) ≡ None ∷ cross most slots
gap_first most slots = by (track_pieces slots)
  where
    by : (pieces : List Piece) → settled most [] Gap pieces ≡ None ∷ settled_from most pieces
    by [] = refl
    by (piece ∷ pieces) = refl

gap_pieces : (a : Cell) (r : List Cell) (slots : List Slot) → AllInner r → track_pieces (map Some (a ∷ r) ++ None ∷ slots) ≡ record { cells = a ∷ r; border = Gap } ∷ track_pieces slots
gap_pieces a [] slots inner = refl
gap_pieces a (b ∷ r) slots inner = fronted a b (map Some r ++ None ∷ slots) inner.0 ∙ ap (with_front a) (gap_pieces b r slots inner.1)

pub gap_behind : (most : ℕ) (r : List Cell) (slots : List Slot) → IsTrack r → cross most (map Some r ++ None ∷ slots) ≡ map Some r ++ None ∷ cross most slots
gap_behind most [] slots track = gap_first most slots
gap_behind most (a ∷ r) slots track = ap (settled_from most) (gap_pieces a r slots track) ∙ by (track_pieces slots)
  where
    by : (pieces : List Piece) → settled most (a ∷ r) Gap pieces ≡ map Some (a ∷ r) ++ None ∷ settled_from most pieces
    by [] = refl
    by (piece ∷ pieces) = refl

-- the first cell of a track that is longer than the overlap
held_front : (most : ℕ) (a : Cell) (r : List Cell) → most ≤ length r → held_back most (a ∷ r) ≡ Some a ∷ held_back most r
held_front most a r long =
    let n : length (a ∷ r) - min most (length (a ∷ r)) ≡ suc (length r - min most (length r)) = omega (arith, long) in
    ap (λ n. map Some (take n (a ∷ r))) n

joined_front : (o : ℕ) (a : Cell) (r next : List Cell) → o ≤ length r → overlapped o (a ∷ r) next ≡ Some a ∷ overlapped o r next
joined_front o a r next long =
    let n : length (a ∷ r) - o ≡ suc (length r - o) = omega (arith, long) in
    ap (λ n. map Some (take n (a ∷ r)) ++ mixed_cells (drop n (a ∷ r)) (take o next) 0 o) n

settled_front : (most : ℕ) (a : Cell) (r : List Cell) (border : Border) (pieces : List Piece) → most ≤ length r →
    settled most (a ∷ r) border pieces ≡ Some a ∷ settled most r border pieces
settled_front most a r Unended pieces long = held_front most a r long
settled_front most a r Gap [] long = refl
settled_front most a r Gap (piece ∷ pieces) long = refl
settled_front most a r Flag [] long = held_front most a r long
settled_front most a r Flag (piece ∷ pieces) long =
    ap (λ n. cond (is_closed piece.border || nat_le n (length piece.cells)) (overlapped (overlap_of most (a ∷ r) piece.cells) (a ∷ r) piece.cells ++ settled most (drop (overlap_of most (a ∷ r) piece.cells) piece.cells) piece.border pieces) (held_back most (a ∷ r))) held
    ∙ ap (λ o. cond (takes_part most r piece) (overlapped o (a ∷ r) piece.cells ++ settled most (drop o piece.cells) piece.border pieces) (held_back most (a ∷ r))) same
    ∙ by (takes_part most r piece)
  where
    held : min most (length (a ∷ r)) ≡ min most (length r)
    held = omega (arith, long)

    same : overlap_of most (a ∷ r) piece.cells ≡ overlap_of most r piece.cells
    same = omega (arith, long)

    by : (takes : Bool) → cond takes (overlapped (overlap_of most r piece.cells) (a ∷ r) piece.cells ++ settled most (drop (overlap_of most r piece.cells) piece.cells) piece.border pieces) (held_back most (a ∷ r))
        ≡ Some a ∷ cond takes (overlapped (overlap_of most r piece.cells) r piece.cells ++ settled most (drop (overlap_of most r piece.cells) piece.cells) piece.border pieces) (held_back most r)
    by true = ap (λ l. l ++ settled most (drop (overlap_of most r piece.cells) piece.cells) piece.border pieces) (joined_front (overlap_of most r piece.cells) a r piece.cells (omega arith))
    by false = held_front most a r long

pub one_settled : (most : ℕ) (a b : Cell) (r : List Cell) (slots : List Slot) → b.first ≡ false → AllInner r → most ≤ length (b ∷ r) →
    cross most (map Some (a ∷ b ∷ r) ++ slots) ≡ Some a ∷ cross most (map Some (b ∷ r) ++ slots)
one_settled most a b r slots flag inner long = by (cut_of most b r slots inner)
  where
    by : Cut most (b ∷ r) slots → cross most (map Some (a ∷ b ∷ r) ++ slots) ≡ Some a ∷ cross most (map Some (b ∷ r) ++ slots)
    by cut =
        let more = length-append (b ∷ r) cut.behind in
        ap (settled_from most) (fronted a b (map Some r ++ slots) flag ∙ ap (with_front a) cut.is)
        ∙ settled_front most a (b ∷ r ++ cut.behind) cut.border cut.pieces (omega (arith, more, long))
        ∙ ap (λ l. Some a ∷ settled_from most l) (sym cut.is)

-- what is held back of a track, with what is there of the next one, settles nothing
open_pieces : (a : Cell) (r : List Cell) → AllInner r → track_pieces (map Some (a ∷ r) ++ []) ≡ record { cells = a ∷ r; border = Unended } ∷ []
open_pieces a [] inner = refl
open_pieces a (b ∷ r) inner = fronted a b (map Some r ++ []) inner.0 ∙ ap (with_front a) (open_pieces b r inner.1)

flag_pieces : (a : Cell) (r : List Cell) (b : Cell) (slots : List Slot) → AllInner r → b.first ≡ true →
    track_pieces (map Some (a ∷ r) ++ Some b ∷ slots) ≡ record { cells = a ∷ r; border = Flag } ∷ track_pieces (Some b ∷ slots)
flag_pieces a [] b slots inner flag = rw flag refl
flag_pieces a (c ∷ r) b slots inner flag = fronted a c (map Some r ++ Some b ∷ slots) inner.0 ∙ ap (with_front a) (flag_pieces c r b slots inner.1 flag)

short_held : (most : ℕ) (r : List Cell) → length r ≤ most → held_back most r ≡ []
short_held most r short =
    let none : length r - min most (length r) ≡ 0 = omega (arith, short) in
    ap (λ n. map Some (take n r)) none ∙ by r
  where
    by : (r : List Cell) → map Some (take 0 r) ≡ []
    by [] = refl
    by (a ∷ r) = refl

pub nothing_settled : (most : ℕ) (r next : List Cell) → IsTrack r → BeginsTrack next → length r ≤ most → (0 < length next → length next < length r) →
    cross most (map Some r ++ (map Some next ++ [])) ≡ []
nothing_settled most [] [] track begins short less = refl
nothing_settled most [] (b ∷ next) track begins short less = absurd (omega (arith, less (omega arith)))
nothing_settled most (a ∷ r) [] track begins short less = ap (settled_from most) (open_pieces a r track) ∙ short_held most (a ∷ r) short
nothing_settled most (a ∷ r) (b ∷ next) track begins short less =
    let few : length (b ∷ next) < length (a ∷ r) = less (omega arith) in
    let takes : nat_le (min most (length (a ∷ r))) (length (b ∷ next)) ≡ false = over (min most (length (a ∷ r))) (length (b ∷ next)) (omega (arith, few, short)) in
    ap (settled_from most) (flag_pieces a r b (map Some next ++ []) track begins.0)
    ∙ ap (settled most (a ∷ r) Flag) (open_pieces b next begins.1)
    ∙ rw takes (short_held most (a ∷ r) short)
  where
    over : (m n : ℕ) → n < m → nat_le m n ≡ false
    over m n less = grind (arith, nat_tests)
