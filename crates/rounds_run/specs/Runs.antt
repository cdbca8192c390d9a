-- Whole runs over buffers that are lists, and their records.
use Rattle.std.specs.Prelude.{◌≡◌, ◌+◌, ℕ, count_by, is_none, is_some, Option, Some, List, length, map, slice_get}
use Rattle.std.specs.List.{flat_map}
use Rattle.liq_base.specs.Pieces.{SinkTold, grown}
use Rattle.plan_core.specs.declared.plan.Plan.{Plan}
use Rattle.plan_core.specs.Plans.{IsWellFormed}
use Rattle.frame_core.specs.Calls.{Answer}
use Rattle.stream_meaning.specs.Instants.{Setting, with_rest}
use Rattle.stream_meaning.specs.Sinks.{ticks_bytes, IsOutput}
use Rattle.run_records.specs.Records.{AreRoundsBegun, IsRounds, Run, Window, setting_in, setting_then}
use Rattle.clock_ticks.specs.declared.engine.ClockEngine.{ClockEngine}
use Rattle.clock_ticks.specs.Engines.{EngineStands, held_of, setting_of}
use Rattle.clock_ticks.specs.Pieces.{GotPieces}
use Rattle.buffer_ends.specs.Local.{Answers}
use Rattle.buffer_ends.specs.declared.counts.Counts.{Counts}
use Rattle.buffer_ends.specs.declared.run_end.End.{End}
use Rattle.buffer_ends.specs.declared.run_end.End.TheVariants.{Write}
use Rattle.buffer_sides.specs.Logs.{told as told_of}
use Rattle.rounds_run.specs.Rounds.{AreEngines, HaveRunPart, IsWriteEnd, ticks_by}

-- The engines of a run of `ticks` ticks: one per clock, in clock order, each fresh and with room in its sinks, and all
-- over this well-formed plan with its files, clocks and start (`setting`). `told` gives what a sink tells of itself.
pub record AreOver {S : Type 0} (told : S
    → SinkTold) (plan : Plan) (ticks : ℕ) (setting : Setting) (engines : List (ClockEngine S)) : Type 0 where
  pub plan_is : setting.plan ≡ plan
  pub well : IsWellFormed plan
  pub are : AreEngines told ticks setting engines

-- An engine has gone from `old` to `new` by `ticks` ticks without a fault, where buffers answer as `setting` says. It
-- took their answers, each output got the bytes of these ticks, and its sink a piece for each. It still keeps where
-- tracks begin, if it did. `told` gives what a sink tells of itself.
pub record HasRunTicks {S : Type 0} (told : S
    → SinkTold) (setting : Setting) (ticks : ℕ) (old new : ClockEngine S) : Type 0 where
  pub over : setting_of new.parts ≡ setting_of old.parts
  pub clock : new.parts.clock ≡ old.parts.clock
  pub keeping : new.parts.cues.keeping ≡ old.parts.cues.keeping
  pub answers : ℕ → List Answer
  pub rest : ℕ → List Answer
  pub given : with_rest (setting_of old.parts) answers rest ≡ setting
  pub stands : EngineStands new.parts ticks answers
  pub grew : (sink node : ℕ) (output : IsOutput (setting_of old.parts) old.parts.clock sink node)
      → held_of told new sink ≡ grown (ticks_bytes setting output.wide node ticks) (held_of told old sink)
  pub pieces : GotPieces told ticks old.outs new.outs
  pub outs : length new.outs ≡ length old.outs

-- Each engine has gone from its `old` to its `new` state by `ticks` ticks without a fault, where buffers answer as
-- `setting` says. `told` gives what a sink tells of itself.
pub record HaveRunTicks {S : Type 0} (told : S
    → SinkTold) (setting : Setting) (ticks : ℕ) (old new : List (ClockEngine S)) : Type 0 where
  pub size : length new ≡ length old
  pub each : (k : ℕ) (before after : ClockEngine S) → slice_get old k ≡ Some before → slice_get new k ≡ Some after
      → HasRunTicks told setting ticks before after

-- The counts of a buffer over these windows, the stretches of a run between two ends of its log: how many puts were
-- accepted, how many found it full, how many takes got a chunk, and how many found it empty.
abbrev pub counts_of_windows : List Window → Counts
counts_of_windows windows = record {
  accepted = count_by is_some (flat_map (λ (window : Window). window.0) windows);
  full = count_by is_none (flat_map (λ (window : Window). window.0) windows);
  got = count_by is_some (flat_map (λ (window : Window). window.1) windows);
  empty = count_by is_none (flat_map (λ (window : Window). window.1) windows);
}

-- for each buffer of a run, how many of its puts and takes went well and how many found it full or empty
abbrev pub counts_of_run : Run → List Counts
counts_of_run run = map counts_of_windows run.buffers

-- for each buffer of a run its log: window by window, how its puts and takes were answered
abbrev pub logs_of_run : Run → List (List Answers)
logs_of_run run = map (λ windows. map told_of windows) run.buffers

-- All `ticks` rounds were made, from the engines `first` to `now`, and `run` is the record of the buffers' answers.
-- Each engine has run all its ticks, given the chunks that the record's takes got, and `counts` and `logs` are the
-- record's. `told` gives what a sink tells of itself.
pub record HasRunAll {S : Type 0} (told : S → SinkTold) (setting : Setting) (ticks : ℕ)
    (first now : List (ClockEngine S)) (counts : List Counts) (logs : List (List Answers)) : Type 0 where
  pub run : Run
  pub rounds : IsRounds setting (length first) ticks run
  pub engines : HaveRunTicks told (setting_in setting run) ticks first now
  pub counts_are : counts ≡ counts_of_run run
  pub logs_are : logs ≡ logs_of_run run

-- `run` records the buffers' answers in rounds that may have been broken off in a clock's tick, from the engines
-- `first` to `now`. In that round the clocks below have made their tick, those above have not, and it has made at most
-- a part. If `end` is a failed write, it is one of this clock.
pub record HasRunSome {S : Type 0} (told : S
    → SinkTold) (setting : Setting) (ticks : ℕ) (first now : List (ClockEngine S)) (end : End) : Type 0 where
  pub run : Run
  pub begun : AreRoundsBegun setting (length first) ticks run
  pub part : HaveRunPart told (setting_then setting run) (ticks_by ticks begun.round begun.clock)
      (ticks_by ticks begun.round (begun.clock + 1)) first now
  pub write : (failed sink : ℕ) → end ≡ Write failed sink → IsWriteEnd told begun.clock first now end
