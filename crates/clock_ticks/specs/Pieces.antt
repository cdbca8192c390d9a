-- How many pieces the sinks of an engine got, sink by sink. S is the sinks' type, `told` is what they tell.
use Rattle.std.specs.Prelude.{◌≡◌, ◌<◌, ◌≤◌, ℕ, Some, List, slice_get}
use Rattle.std.specs.Fn.{iterate}
use Rattle.liq_base.specs.Counts.{Rose, one_more_append}
use Rattle.liq_base.specs.Pieces.{SinkTold, TookPiece}

-- the sinks at places less than `below` each took a piece of bytes, or a part of one, and the other sinks are as they
-- were; `told` is what a sink tells of itself
pub record GotOnePiece {S : Type 0} (told : S → SinkTold) (below : ℕ) (old new : List S) : Type 0 where
  pub first : (k : ℕ) (before after : S) → k < below → slice_get old k ≡ Some before → slice_get new k ≡ Some after
      → (taken : List ℕ) × TookPiece taken (told before) (told after)
  pub others : (k : ℕ) → below ≤ k → slice_get new k ≡ slice_get old k

-- Some of the sinks `old`, from the first one on, took a piece of bytes each, or a part of one, and came to `new`. The
-- other sinks are as they were; `told` is what a sink tells of itself.
pub record GotSomePieces {S : Type 0} (told : S → SinkTold) (old new : List S) : Type 0 where
  pub count : ℕ
  pub got : GotOnePiece told count old new

-- the sink at this place refused bytes: its count of faults rose; `told` is what a sink tells of itself
pub record RoseAt {S : Type 0} (told : S → SinkTold) (place : ℕ) (old new : List S) : Type 0 where
  pub before : S
  pub after : S
  pub was : slice_get old place ≡ Some before
  pub is : slice_get new place ≡ Some after
  pub rose : Rose (told before).faults (told after).faults

-- each of the sinks `new` has the name that it had in `old`, and no smaller count of faults, by what it tells (`told`)
pub record AreKept {S : Type 0} (told : S → SinkTold) (old new : List S) : Type 0 where
  pub each : (k : ℕ) (before after : S) → slice_get old k ≡ Some before → slice_get new k ≡ Some after
      → ((told after).name ≡ (told before).name) × ((told before).faults ≤ (told after).faults)

-- a sink got so many pieces of bytes: its count of appends rose by as many, it kept its name, and its count of faults
-- did not fall
pub record HasGot (pieces : ℕ) (old new : SinkTold) : Type 0 where
  pub name_kept : new.name ≡ old.name
  pub faults_grew : old.faults ≤ new.faults
  pub appends_are : new.appends ≡ iterate one_more_append pieces old.appends

-- each sink got so many pieces of bytes, one for each tick; `told` is what a sink tells of itself
pub record GotPieces {S : Type 0} (told : S → SinkTold) (pieces : ℕ) (old new : List S) : Type 0 where
  pub each : (k : ℕ) (before after : S) → slice_get old k ≡ Some before → slice_get new k ≡ Some after
      → HasGot pieces (told before) (told after)

-- each sink got at least `least` and at most `most` pieces of bytes; `told` is what a sink tells of itself
pub record GotBetween {S : Type 0} (told : S → SinkTold) (least most : ℕ) (old new : List S) : Type 0 where
  pub each : (k : ℕ) (before after : S) → slice_get old k ≡ Some before → slice_get new k ≡ Some after
      → (pieces : ℕ) × (least ≤ pieces) × (pieces ≤ most) × HasGot pieces (told before) (told after)
