-- The marks that an engine keeps for its outputs.
use Rattle.std.specs.Prelude.{◌≡◌, ℕ, Bool, true, false, List, [], ◌++◌, length, map}
use Rattle.frame_core.specs.Slots.{Slot}
use Rattle.stream_meaning.specs.Sinks.{Cue, cues_from}
use Rattle.clock_ticks.specs.declared.cues.CueList.{CueList}
use Rattle.clock_ticks.specs.declared.cues.CueMark.{CueMark}

-- a cue, which is where a track begins in an output, as the engine keeps it: its instant and its title
abbrev pub mark_of : Cue → CueMark
mark_of cue = record { at = cue.at; title = cue.title }

-- where tracks begin among these slots of an output, the first of which is that of instant `at`
abbrev pub marks_of : (at : ℕ) → List Slot → List CueMark
marks_of at slots = map mark_of (cues_from at slots)

-- where tracks begin among these slots of an output, the first of which is that of instant `at`; none if the engine
-- keeps no marks
abbrev pub marks_if : (keeping : Bool) → (at : ℕ) → List Slot → List CueMark
marks_if true at slots = marks_of at slots
marks_if false at slots = []

-- within a tick, an output's list of track beginnings grew by `more`, and its count from before the tick stayed
pub record HasKept (more : List CueMark) (old new : CueList) : Type 0 where
  pub marks : new.marks.items ≡ old.marks.items ++ more
  pub before : new.before ≡ old.before

-- within a tick, an output's list of track beginnings grew, or stayed, and its count from before the tick stayed
pub record HasGrown (old new : CueList) : Type 0 where
  pub more : List CueMark
  pub kept : HasKept more old new

-- a tick began, and since then an output's list of track beginnings grew by `more`; it keeps how many it had before
-- the tick
pub record HasMarked (more : List CueMark) (old new : CueList) : Type 0 where
  pub marks : new.marks.items ≡ old.marks.items ++ more
  pub before : new.before ≡ length old.marks.items

-- a tick began, and since then an output's list of track beginnings grew, or stayed; it keeps how many it had before
-- the tick
pub record HasMarkedSome (old new : CueList) : Type 0 where
  pub more : List CueMark
  pub marked : HasMarked more old new
