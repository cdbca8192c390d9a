-- The turns in which the clocks make their ticks.
use Rattle.std.specs.Prelude.{◌≡◌, ◌<◌, ◌≤◌, ℕ, List, [], ◌∷◌, nat_eq, if◌then◌else◌}
use Rattle.frame_core.specs.declared.cell.Cell.{Cell}
use Rattle.stream_meaning.specs.Instants.{Setting}
use Rattle.trace_turns.specs.declared.course.TurnMade.{TurnMade}
use Rattle.trace_records.specs.Clocks.{Log}
use Rattle.trace_records.specs.Passes.{HasCome}
use Rattle.trace_turns.specs.Timed.{TimedText, timed}

-- This turn, the run of one clock while no other runs, is right in a replay of the trace `told`: its clock, which had
-- made the ticks `made`, came to the ticks that the turn notes. `chunks` are those of each buffer before, and `next`
-- those after it.
pub record IsTurn (base : Setting) (clocks : ℕ) (told : TimedText) (turn : TurnMade) (made : ℕ → ℕ) (chunks next : ℕ
    → List (List Cell)) : Type 0 where
  pub runs : turn.clock < clocks
  pub on : made turn.clock ≤ turn.ticks
  pub come : HasCome base told.window told.ticks told.text turn.clock turn.ticks chunks next

-- how many ticks each clock has made after a turn of one clock, if they had made `made` before
abbrev pub made_then : TurnMade → (made : ℕ → ℕ) → ℕ → ℕ
made_then turn made k = if nat_eq k turn.clock then turn.ticks else made k

-- By these turns, runs of single clocks one after another, the clocks 0 to `clocks - 1` come from the ticks `made` to
-- all N of each, as the text of a trace in windows of W tells. `chunks b` are those of buffer b at first.
abbrev pub AreTurns : (base : Setting) (clocks W N : ℕ) (text : ℕ → Log) → List TurnMade → (made : ℕ → ℕ)
    → (chunks : ℕ → List (List Cell)) → Type 0
AreTurns base clocks W N text [] made chunks = (k : ℕ) → k < clocks → made k ≡ N
AreTurns base clocks W N text (turn ∷ turns) made chunks =
    (next : ℕ → List (List Cell)) × IsTurn base clocks (timed text W N) turn made chunks next
    × AreTurns base clocks W N text turns (made_then turn made) next

-- how many ticks each clock has made before a replay: none
abbrev pub no_ticks : ℕ → ℕ
no_ticks k = 0

-- the chunks of each buffer before a replay: none
abbrev pub no_chunks : ℕ → List (List Cell)
no_chunks b = []
