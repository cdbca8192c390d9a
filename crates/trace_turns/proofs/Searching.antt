-- What holds between two turns of a search.
use Rattle.std.specs.Prelude.{◌≡◌, ◌<◌, ◌+◌, ◌*◌, ℕ, List, [], ◌∷◌, length, slice_index_or, ◌≤◌, Some, slice_get, ◌++◌}
use Rattle.frame_core.specs.declared.cell.Cell.{Cell}
use Rattle.clock_infer.specs.declared.clock_map.ClockMap.{ClockMap}
use Rattle.stream_meaning.specs.Instants.{Setting}
use Rattle.trace_turns.specs.declared.ends.Ends.{Ends}
use Rattle.trace_records.specs.Clocks.{Log}
use Rattle.trace_records.specs.Passes.{AreAt, IsHalted}
use Rattle.trace_turns.specs.Answering.{BufferState}
use Rattle.trace_turns.specs.Turns.{AreFit, chunks_of}
use Rattle.trace_turns.specs.declared.course.TurnMade.{TurnMade}
use Rattle.trace_turns.specs.declared.live.LiveClock.{LiveClock}
use Rattle.trace_turns.specs.Orders.{AreTurns, no_chunks, no_ticks}
use Rattle.trace_turns.specs.Thin.{AreFull, AreUnlost}
use Rattle.trace_turns.specs.Live.{IsPaused, mains}
use Rattle.trace_turns.specs.Timed.{timed}

-- how many ticks a clock has made
abbrev pub made_of : List ℕ → ℕ → ℕ
made_of made k = slice_index_or made k 0

abbrev pub total : List ℕ → ℕ
total [] = 0
total (n ∷ ns) = n + total ns

-- The clocks have made these ticks, and so many are left. For each text that the buffers told at first they tell it
-- still, and these are the chunks that the clocks put.
pub record ArePassing (base : Setting) (clocks : ClockMap) (W N : ℕ) (ends : List Ends) (first : List BufferState)
    (made : List ℕ) (left : ℕ) (states : List BufferState) : Type 0 where
  pub size : length made ≡ clocks.running
  pub counts : left + total made ≡ clocks.running * N
  pub many : length states ≡ length first
  pub fit : (text : ℕ → Log) → AreFit base W N text first ends → AreFit base W N text states ends
  pub at : (text : ℕ → Log) → AreFit base W N text first ends
      → AreAt base clocks.running W N text (made_of made) (chunks_of states)

-- as long as no tick more was made in this pass, the clocks that had their turn wait
abbrev pub AreStuck : Setting → (W N : ℕ) → List Ends → List BufferState → (made : List ℕ) → (states : List BufferState)
    → (before left m : ℕ) → Type 0
AreStuck base W N ends first made states before left m = left ≡ before → (text : ℕ → Log)
    → AreFit base W N text first ends
    → (k : ℕ) → k < m → made_of made k < N → IsHalted base text (chunks_of states) k (made_of made k)

-- all clocks made all their ticks, and these are the chunks that they put
pub record HaveFound (base : Setting) (clocks : ClockMap) (W N : ℕ) (text : ℕ → Log) (chunks : ℕ
    → List (List Cell)) : Type 0 where
  pub made : ℕ → ℕ
  pub all : (k : ℕ) → k < clocks.running → made k ≡ N
  pub at : AreAt base clocks.running W N text made chunks

-- By these turns the clocks came to these ticks and chunks: with turns that lead on to all ticks, they are all turns.
abbrev pub LeadTo : (base : Setting) (clocks W N : ℕ) (text : ℕ → Log) → List TurnMade → (made : ℕ → ℕ)
    → (chunks : ℕ → List (List Cell)) → Type 0
LeadTo base clocks W N text turns made chunks = (rest : List TurnMade) → AreTurns base clocks W N text rest made chunks
    → AreTurns base clocks W N text (turns ++ rest) no_ticks no_chunks

-- Each clock has made these ticks, in these turns, as a text tells, and waits for its turn: so it does with all the
-- chunks that were put.
pub record AreWaiting (base : Setting) (clocks : ClockMap) (W N : ℕ) (text : ℕ
    → Log) (feeders readers : List ℕ) (lives : List LiveClock) (made : List ℕ) (turns : List TurnMade)
    (states : List BufferState) : Type 0 where
  pub full : List BufferState
  pub fills : AreFull states full
  pub at : AreAt base clocks.running W N text (made_of made) (chunks_of full)
  pub led : LeadTo base clocks.running W N text turns (made_of made) (chunks_of full)
  pub paused : (k : ℕ) (live : LiveClock) → slice_get lives k ≡ Some live
      → IsPaused base (timed text W N) (mains feeders readers) k (made_of made k) live.engine.parts live.marks.items full
  pub unlost : (k : ℕ) (live : LiveClock) → slice_get lives k ≡ Some live → AreUnlost readers k live.marks.items states

-- The same for each text that the buffers told at first, and they tell it still. So many ticks are left.
pub record AreLive (base : Setting) (clocks : ClockMap) (W N : ℕ) (feeders readers : List ℕ) (ends : List Ends)
    (first : List BufferState) (lives : List LiveClock) (made : List ℕ) (left : ℕ) (turns : List TurnMade)
    (states : List BufferState) : Type 0 where
  pub size : length made ≡ clocks.running
  pub counts : left + total made ≡ clocks.running * N
  pub many : length states ≡ length first
  pub fit : (text : ℕ → Log) → AreFit base W N text first ends → AreFit base W N text states ends
  pub lives_size : length lives ≡ clocks.running
  pub marks : (k : ℕ) (live : LiveClock) → slice_get lives k ≡ Some live → length live.marks.items ≡ length states
  pub clock : (k : ℕ) (live : LiveClock) → slice_get lives k ≡ Some live → live.engine.parts.clock ≡ k
  pub within : (k : ℕ) → k < length lives → made_of made k ≤ N
  pub waiting : (text : ℕ → Log) → AreFit base W N text first ends
      → AreWaiting base clocks W N text feeders readers lives made turns states
