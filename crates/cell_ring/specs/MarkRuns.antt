-- Marks that are kept as runs of one title, in a ring.
use Rattle.std.specs.Prelude.{◌≡◌, ◌<◌, ◌≤◌, ◌+◌, ◌-◌, Bool, true, false, ◌&&◌, ℕ, List, [], ◌∷◌, Option, Some, None, length, slice_get, nat_eq}
use Rattle.frame_core.specs.declared.cell.CellMark.{CellMark}
use Rattle.frame_core.specs.declared.cell.MarkRun.{MarkRun}
use Rattle.cell_ring.specs.declared.mark_ring.Found.{Found}
use Rattle.cell_ring.specs.Lanes.{begins_none, has_name}

-- each of these runs (marks in a row with one title, kept as one item) has at least one mark
abbrev pub AreSome : List MarkRun → Type 0
AreSome [] = Unit {0}
AreSome (run ∷ runs) = (0 < run.count) × AreSome runs

-- the first mark of a run of marks with one title, if there is a run
abbrev pub mark_of : Option MarkRun → Option CellMark
mark_of None = None
mark_of (Some run) = Some (record { first = run.first; title = run.title })

-- a run of marks without its first `skip` ones; what is left begins no track if any was skipped
abbrev pub rest_run : MarkRun → (skip : ℕ) → MarkRun
rest_run run skip = record { first = run.first && nat_eq skip 0; title = run.title; count = run.count - skip }

-- Whether there is a mark (what a cell has beside its samples) of this title. If `begins` is false, it must also begin
-- no track.
abbrev pub passing : (begins : Bool) → (title : ℕ) → Option CellMark → Bool
passing true title mark = has_name title mark
passing false title mark = begins_none title mark

-- What a walk over marks (a cell's title and beginning) from place `from` on found. It counts marks of this title, up
-- to one that does not pass, to `most` of them, or to the end of the list. If `begins` is false, a mark that begins a
-- track does not pass. At the end of the list, `skip` says how far the walk went past it.
pub record Walked (begins : Bool) (title : ℕ) (marks : List CellMark) (from most : ℕ) (walk : Found) : Type 0 where
  pub pass : (j : ℕ) → j < walk.count → passing begins title (slice_get marks (from + j)) ≡ true
  pub within : walk.count ≤ most
  pub ends : walk.ended ≡ true → walk.count < most → passing begins title (slice_get marks (from + walk.count)) ≡ false
  pub inside : walk.ended ≡ true → walk.count < most → from + walk.count < length marks
  pub past : walk.ended ≡ false → (length marks ≤ from + walk.count) × (walk.skip ≡ from + walk.count - length marks)
