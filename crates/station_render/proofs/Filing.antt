-- Files that are written whole, one after another.
use Rattle.std.proofs.Common.{◌≡◌, ◌≤◌, ◌∙◌, ◌++◌, ℕ, List, [], ◌∷◌, length, append-nil, append_assoc, arith, refl, ap, sym, subst, inl, inr}
use Rattle.std.specs.Prelude.{Option, Some, Result, Ok, Err, OnOk, OnErr, IsSomeAnd, is_some}
use Rattle.liq_base.specs.Files.{Closed, ClosedPart, Files, HoldsPart}
use Rattle.liq_base.specs.Kept.{some_and}
use Rattle.liq_base.specs.Pieces.{IsPrefix, SinkTold, TookPiece, TookPart, grown}
use Rattle.liq_base.specs.Shelves.{IsFresh, OnlyClosed, OnlyMade, OnlyRead, ShelfTold}
use Rattle.stations.specs.Creations.{HaveClosed, after_making}
use Rattle.stations.specs.Outputs.{OutputFile}
use Rattle.stations.proofs.Making.{all_made, none_closed, none_listed, none_made, none_more, one_more}
use Rattle.station_render.specs.Listed.{AreTold}
use Rattle.station_render.specs.Shelves.{TookAtOnce, WroteFiles, WroteUpto, one_file}
use Rattle.station_render.proofs.Leaving.{one_part, part_none}
use Rattle.station_render.proofs.Listing.{closed_as, listed_at_once}
use Rattle.station_render.proofs.Measures.{fresh_empty, fresh_named, fresh_told, told_any, took_told}

-- no file was wanted
pub none_wanted : (shelf : ShelfTold) → WroteFiles shelf shelf [] []
none_wanted shelf = record {
  written = λ all at. at;
  made = none_more shelf.created;
  closes = none_closed shelf.closed shelf.closed refl;
  listed = none_listed shelf.closed shelf.closed refl;
}

-- none was begun
pub none_yet : (shelf : ShelfTold) (names : List (List ℕ)) (outputs : List OutputFile) → WroteUpto shelf shelf names outputs
none_yet shelf names outputs = record {
  part = part_none shelf.files outputs;
  front = none_made names shelf shelf refl refl;
  reads_grew = omega arith;
  writes_grew = omega arith;
}

-- what was held before a closing, and a front of what was to be written
closed_to : {E : Type 0} (r : Result (Unit {0}) E) (before mid : Option Files) (last : SinkTold) (files : Files) (name bytes h : List ℕ)
    → OnOk r (Closed last before mid) → OnErr r (ClosedPart last before mid) → before ≡ Some files → last.name ≡ Some name → last.held ≡ Some h → IsPrefix h bytes → IsSomeAnd mid (HoldsPart files name bytes)
closed_to (Ok x) before mid last files name bytes h whole part b m k p = subst (λ a. IsSomeAnd a (HoldsPart files name bytes)) (sym (whole files b name m h k)) (inr (h, p, refl))
closed_to (Err x) before mid last files name bytes h whole part b m k p =
    some_and mid (HoldsPart files name h) (HoldsPart files name bytes) (longer p) (part files b name m h k)
  where
    longer : IsPrefix h bytes → (after : Files) → HoldsPart files name h after → HoldsPart files name bytes after
    longer q after (inl kept) = inl kept
    longer q after (inr part) = inr (part.0, record { rest = part.1.rest ++ q.rest; whole_is = q.whole_is ∙ ap (λ v. v ++ q.rest) part.1.whole_is ∙ append_assoc part.0 part.1.rest q.rest }, part.2)

-- nothing was created
pub file_kept : (name bytes : List ℕ) (old new : ShelfTold) → OnlyRead old new → WroteUpto old new (name ∷ []) (one_file name bytes)
file_kept name bytes old new read = record {
  part = one_part old.files new.files name bytes (λ files at. subst (λ told. IsSomeAnd told (HoldsPart files name bytes)) (sym (read.files ∙ at)) (inl refl));
  front = none_made (name ∷ []) old new read.created read.closed;
  reads_grew = read.reads;
  writes_grew = read.writes;
}

-- a sink took a front of these bytes
record IsMoved (bytes : List ℕ) (first last : SinkTold) : Type 0 where
  named : last.name ≡ first.name
  held : List ℕ
  holds : first.held ≡ Some [] → last.held ≡ Some held
  front : IsPrefix held bytes
  tells : AreTold 0 first → AreTold 0 last

part_moved : (bytes : List ℕ) (first last : SinkTold) → TookPart bytes first last → IsMoved bytes first last
part_moved bytes first last part = record {
  named = part.took.name_kept;
  held = part.taken;
  holds = λ empty. part.took.held_grew ∙ ap (grown part.taken) empty;
  front = part.is_front;
  tells = λ told. told_any 1 last (took_told part.taken first last part.took 0 told);
}

-- or all of them
whole_moved : (bytes : List ℕ) (first last : SinkTold) → TookAtOnce bytes first last → IsMoved bytes first last
whole_moved [] first last same = record {
  named = ap (λ (s : SinkTold). s.name) same;
  held = [];
  holds = λ empty. ap (λ (s : SinkTold). s.held) same ∙ empty;
  front = record { rest = []; whole_is = refl };
  tells = λ told. subst (AreTold 0) (sym same) told;
}
whole_moved (byte ∷ bytes) first last took = record {
  named = took.name_kept;
  held = byte ∷ bytes;
  holds = λ empty. took.held_grew ∙ ap (grown (byte ∷ bytes)) empty;
  front = record { rest = []; whole_is = sym (append-nil (byte ∷ bytes)) };
  tells = λ told. told_any 1 last (took_told (byte ∷ bytes) first last took 0 told);
}

at_once_held : (bytes : List ℕ) (first last : SinkTold) → TookAtOnce bytes first last → first.held ≡ Some [] → last.held ≡ Some bytes
at_once_held [] first last same empty = ap (λ (s : SinkTold). s.held) same ∙ empty
at_once_held (byte ∷ bytes) first last took empty = took.held_grew ∙ ap (grown (byte ∷ bytes)) empty

-- a file was created, took its bytes, wholly or in part, and was closed
module _ (name bytes : List ℕ) (old made new : ShelfTold) (first last : SinkTold) (fresh : IsFresh name (length bytes) old first) (only : OnlyMade name old made) where
  made_one : OnlyClosed last made new → new.created ≡ after_making (name ∷ []) old.created
  made_one closing = closing.created ∙ only.created ∙ one_more name old.created

  closed_one : IsMoved bytes first last → OnlyClosed last made new → HaveClosed 0 (name ∷ []) old.closed new.closed
  closed_one moved closing =
      subst (λ told. HaveClosed 0 (name ∷ []) told new.closed) only.closed
      (closed_as 0 name last made.closed new.closed
      (λ told at. let there = sym only.closed ∙ at in
      (moved.named ∙ fresh_named name (length bytes) old first fresh (inr (ap is_some there)), (moved.tells (fresh_told name (length bytes) old first fresh told there), λ more. absurd (omega (arith, more)))))
      closing.closed)

  left_by : {E : Type 0} (r : Result (Unit {0}) E) → IsMoved bytes first last
      → OnOk r (Closed last made.files new.files) → OnErr r (ClosedPart last made.files new.files) → OnlyClosed last made new → WroteUpto old new (name ∷ []) (one_file name bytes)
  left_by r moved closed part closing = record {
    part = one_part old.files new.files name bytes (λ files at.
        let tells = inl (ap is_some at) in
        closed_to r made.files new.files last files name bytes moved.held closed part (only.files ∙ at) (moved.named ∙ fresh_named name (length bytes) old first fresh tells)
        (moved.holds (fresh_empty name (length bytes) old first fresh tells)) moved.front);
    front = all_made (name ∷ []) old new (made_one closing) (closed_one moved closing);
    reads_grew = (let a = only.reads in let b = closing.reads in omega (arith, a, b));
    writes_grew = (let a = only.writes in let b = closing.writes in omega (arith, a, b));
  }

  pub file_left : {E : Type 0} (r : Result (Unit {0}) E) → TookPart bytes first last
      → OnOk r (Closed last made.files new.files) → OnErr r (ClosedPart last made.files new.files) → OnlyClosed last made new → WroteUpto old new (name ∷ []) (one_file name bytes)
  file_left r part = left_by r (part_moved bytes first last part)

  pub file_ended : {E : Type 0} (r : Result (Unit {0}) E) → TookAtOnce bytes first last
      → OnOk r (Closed last made.files new.files) → OnErr r (ClosedPart last made.files new.files) → OnlyClosed last made new → WroteUpto old new (name ∷ []) (one_file name bytes)
  file_ended r took = left_by r (whole_moved bytes first last took)

  pub file_whole : TookAtOnce bytes first last → Closed last made.files new.files → OnlyClosed last made new → WroteFiles old new (name ∷ []) (one_file name bytes)
  file_whole took closed closing = record {
    written = λ files at.
        let tells = inl (ap is_some at) in
        closed files (only.files ∙ at) name ((whole_moved bytes first last took).named ∙ fresh_named name (length bytes) old first fresh tells)
        bytes (at_once_held bytes first last took (fresh_empty name (length bytes) old first fresh tells));
    made = made_one closing;
    closes = closed_one (whole_moved bytes first last took) closing;
    listed = listed_at_once name bytes old first fresh last took made.closed new.closed only.closed closing.closed;
  }
