-- Runs of the engines of all clocks by threads, in windows of ticks.
use Rattle.std.specs.Prelude.{◌≡◌, ◌<◌, ℕ, Option, Some, None, List, [], length, map, slice_get, slice_index_or}
use Rattle.liq_base.specs.Pieces.{IsPrefix, SinkTold, grown}
use Rattle.plan_core.specs.declared.plan.Plan.{Plan}
use Rattle.clock_infer.specs.declared.clock_map.ClockMap.{ClockMap}
use Rattle.frame_core.specs.Calls.{Answer}
use Rattle.buffer_ends.specs.Local.{Answers}
use Rattle.buffer_ends.specs.declared.counts.Counts.{Counts}
use Rattle.buffer_ends.specs.declared.run_end.End.{End}
use Rattle.buffer_ends.specs.declared.run_end.End.TheVariants.{Write}
use Rattle.stream_meaning.specs.Instants.{Setting, with_rest}
use Rattle.stream_meaning.specs.Settings.{IsSetting}
use Rattle.stream_meaning.specs.Sinks.{ticks_bytes, IsOutput}
use Rattle.run_records.specs.Records.{AreWindows, AreWindowsBegun, Run, setting_in, setting_then}
use Rattle.clock_ticks.specs.Engines.{EngineStands, outputs_of, setting_of, held_of}
use Rattle.clock_ticks.specs.Ticks.{HaveTicksRoom}
use Rattle.clock_ticks.specs.Pieces.{GotBetween, GotPieces, RoseAt}
use Rattle.clock_ticks.specs.declared.engine.ClockEngine.{ClockEngine}
use Rattle.clock_ticks.specs.declared.fault.TickFault.TheVariants.{Write as Refused}
use Rattle.clock_threads.specs.TaskRuns.{IsSameClock}
use Rattle.clock_threads.specs.WindowRuns.{StandsOrStopped}
use Rattle.buffer_sides.specs.Logs.{told as told_of}
use Rattle.clock_threads.specs.Logs.{counts_in}

-- The engine is that of clock k and plays this setting. It has made no tick, and its sinks have room for N ticks;
-- `told` is what a sink tells of its bytes.
pub record IsFresh {S : Type 0} (told : S
    → SinkTold) (setting : Setting) (N k : ℕ) (engine : ClockEngine S) : Type 0 where
  pub over : setting_of engine.parts ≡ setting
  pub clock : engine.parts.clock ≡ k
  pub stands : EngineStands engine.parts 0 (λ buffer. [])
  pub rooms : HaveTicksRoom told engine.parts engine.outs N

-- These are the engines of all running clocks of a plan, in the order of the clocks. They play one setting, have made
-- no tick, and their sinks have room for N ticks. `told` is what a sink tells of its bytes.
pub record AreEngines {S : Type 0} (told : S
    → SinkTold) (plan : Plan) (clocks : ClockMap) (N : ℕ) (setting : Setting) (engines : List (ClockEngine S)) : Type 0
  where
    pub is : IsSetting setting clocks
    pub plan_is : setting.plan ≡ plan
    pub all : length engines ≡ clocks.running
    pub each : (k : ℕ) (d : ClockEngine S) → k < length engines → IsFresh told setting N k (slice_index_or engines k d)

-- These are the engines of all running clocks of a plan, in the order of the clocks. There is one setting of this plan
-- that all of them play; none has made a tick, and their sinks have room for N.
pub record AreAlike {S : Type 0} (told : S
    → SinkTold) (plan : Plan) (clocks : ClockMap) (N : ℕ) (engines : List (ClockEngine S)) : Type 0 where
  pub setting : Setting
  pub are : AreEngines told plan clocks N setting engines

-- The engine of clock k, `old`, has made all N ticks of a run and came to `new`. It stands for them, and for what its
-- takes got in the run. Each output has grown by what its node means then, and its sink got a piece for each tick.
-- `told` is what a sink tells of its bytes.
pub record HasMadeAll {S : Type 0} (told : S
    → SinkTold) (setting : Setting) (run : Run) (N k : ℕ) (old new : ClockEngine S) : Type 0 where
  pub same : IsSameClock told old new
  pub answers : ℕ → List Answer
  pub rest : ℕ → List Answer
  pub stands : EngineStands new.parts N answers
  pub are : with_rest setting answers rest ≡ setting_in setting run
  pub bytes : (sink node : ℕ) (output : IsOutput setting k sink node)
      → held_of told new sink ≡ grown (ticks_bytes (setting_in setting run) output.wide node N) (held_of told old sink)
  pub pieces : GotPieces told N old.outs new.outs

-- All engines, `old`, have made their N ticks, in windows of W ticks, and came to `new`. `run` is the record of what
-- the buffers answered them, and it is lawful. `told` is what a sink tells of its bytes.
pub record HasRun {S : Type 0} (told : S
    → SinkTold) (setting : Setting) (clocks : ClockMap) (W N : ℕ) (run : Run) (old new : List (ClockEngine S)) : Type 0
  where
    pub many : length new ≡ length old
    pub lawful : AreWindows setting clocks.running W N run
    pub engines : (k : ℕ) (d : ClockEngine S) → k < length old
        → HasMadeAll told setting run N k (slice_index_or old k d) (slice_index_or new k d)

-- The answers of a run's windows are told: each buffer's list in `logs` has those of its windows, and its counts are
-- the numbers of these
pub record AreTold (run : Run) (counts : List Counts) (logs : List (List Answers)) : Type 0 where
  pub logs_are : logs ≡ map (map told_of) run.buffers
  pub counts_are : counts ≡ map counts_in logs

-- All engines, `old`, have made their N ticks, in windows of W ticks, and came to `new`. `logs` has the answers of each
-- buffer, window by window, and `counts` how many they are. `told` is what a sink tells of its bytes.
pub record HasRunAll {S : Type 0} (told : S
    → SinkTold) (setting : Setting) (clocks : ClockMap) (W N : ℕ) (old new : List (ClockEngine S))
    (counts : List Counts) (logs : List (List Answers)) : Type 0 where
  pub run : Run
  pub has_run : HasRun told setting clocks W N run old new
  pub tells : AreTold run counts logs

-- How far the engine of clock k came in a run that was broken off: `made` ticks, and one more that it tried if `tried`
-- is more. Its takes got the answers of the run. Each output has grown by its bytes of the ticks made, and by a prefix
-- of those tried, whatever answers follow. Its sink got a piece for each tick made, and at most one for each that was
-- tried.
pub record HasMadePart {S : Type 0} (told : S
    → SinkTold) (setting : Setting) (run : Run) (made tried k : ℕ) (old new : ClockEngine S) : Type 0 where
  pub same : IsSameClock told old new
  pub answers : ℕ → List Answer
  pub given : (rest : ℕ → List Answer) → (more : ℕ → List Answer)
      × (with_rest setting answers more ≡ setting_then setting run rest)
  pub stands : StandsOrStopped new made tried answers
  pub part : (rest : ℕ → List Answer) (sink node : ℕ) (output : IsOutput setting k sink node)
      → (bytes : List ℕ)
      × IsPrefix (ticks_bytes (setting_then setting run rest) output.wide node made) bytes
      × IsPrefix bytes (ticks_bytes (setting_then setting run rest) output.wide node tried)
      × (held_of told new sink ≡ grown bytes (held_of told old sink))
  pub pieces : GotBetween told made tried old.outs new.outs

-- A run was broken off because this sink, of this clock, refused bytes. The sink is that of an output of the clock, and
-- its count of faults rose. Of the clocks that stopped, this one has the lowest number. The engines `old` came to
-- `new`; `told` is what a sink tells.
pub record IsWriteEnd {S : Type 0} (told : S
    → SinkTold) (setting : Setting) (clock sink : ℕ) (old new : List (ClockEngine S)) : Type 0 where
  pub before : ClockEngine S
  pub after : ClockEngine S
  pub was : slice_get old clock ≡ Some before
  pub is : slice_get new clock ≡ Some after
  pub stopped : after.parts.stopped ≡ Some (Refused sink)
  pub lowest : (k : ℕ) (engine : ClockEngine S) → k < clock → slice_get new k ≡ Some engine
      → engine.parts.stopped ≡ None
  pub place : ℕ
  pub node : ℕ
  pub there : slice_get (outputs_of setting clock) place ≡ Some (sink, node)
  pub rose : RoseAt told place before.outs after.outs

-- The engines `old` have come to `new` in a run of N ticks, in windows of W ticks, that may have been broken off. There
-- is a record of it, by which each clock made the ticks of the windows that were closed, and tried none behind the next
-- window. If `end` is a write that failed, it is one of the lowest clock that stopped.
pub record HasRunSome {S : Type 0} (told : S
    → SinkTold) (setting : Setting) (clocks : ClockMap) (W N : ℕ) (old new : List (ClockEngine S)) (end : End) : Type 0
  where
    pub run : Run
    pub begun : AreWindowsBegun setting clocks.running W N run
    pub many : length new ≡ length old
    pub engines : (k : ℕ) (d : ClockEngine S) → k < length old
        → HasMadePart told setting run (begun.made k) (begun.tried k) k (slice_index_or old k d)
        (slice_index_or new k d)
    pub write : (clock sink : ℕ) → end ≡ Write clock sink → IsWriteEnd told setting clock sink old new
