-- Marks that are kept as runs of one title.
use Rattle.std.specs.Prelude.{◌≡◌, ◌<◌, Bool, false, not, ◌&&◌, ℕ, zero, suc, List, [], ◌∷◌, ◌++◌, replicate, nat_eq}
use Rattle.frame_core.specs.declared.cell.CellMark.{CellMark}
use Rattle.frame_core.specs.declared.cell.MarkRun.{MarkRun}

-- The marks of `count` cells in a row with one title. Only the first of them may begin a track, if `first` says so.
abbrev pub run_marks : (first : Bool) → (title count : ℕ) → List CellMark
run_marks first title zero = []
run_marks first title (suc n) = record { first = first; title = title } ∷ replicate n (record { first = false; title = title })

-- the marks that these runs (marks in a row with one title, kept as one item) stand for, one for each cell, in order
abbrev pub marks_in : List MarkRun → List CellMark
marks_in [] = []
marks_in (run ∷ runs) = run_marks run.first run.title run.count ++ marks_in runs

-- the mark at place `at` of a run of marks with one title, counted from 0: only the one at place 0 may begin a track
abbrev pub mark_at : MarkRun → ℕ → CellMark
mark_at run at = record { first = run.first && nat_eq at 0; title = run.title }

-- whether a run of marks with one title goes on with the run `last` before it: it begins no track and has the same
-- title, so that both could be one run
abbrev pub joins : MarkRun → MarkRun → Bool
joins last run = not run.first && nat_eq last.title run.title

-- the first of these runs of marks with one title, if there is one, could not be one run with `last` before it
abbrev pub IsApart : MarkRun → List MarkRun → Type 0
IsApart last [] = Unit {0}
IsApart last (run ∷ runs) = joins last run ≡ false

-- Runs of marks with one title are kept as few as can be: each has a mark, and no two that meet could be one.
abbrev pub AreTight : List MarkRun → Type 0
AreTight [] = Unit {0}
AreTight (run ∷ runs) = (0 < run.count) × IsApart run runs × AreTight runs
