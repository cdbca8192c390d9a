-- What a replay of a trace leaves: all ticks made, or a part of them.
use Rattle.std.specs.Prelude.{◌≡◌, ℕ, suc, true, false, List}
use Rattle.std.specs.List.{flat_map}
use Rattle.liq_base.specs.Pieces.{SinkTold}
use Rattle.stream_meaning.specs.Instants.{Setting}
use Rattle.run_records.specs.Records.{IsWithin, Run, setting_in}
use Rattle.buffer_ends.specs.Local.{Answers, counts_of}
use Rattle.buffer_ends.specs.declared.counts.Counts.{Counts}
use Rattle.buffer_ends.specs.declared.run_end.End.{End}
use Rattle.buffer_ends.specs.declared.run_end.End.TheVariants.{Write}
use Rattle.clock_ticks.specs.declared.engine.ClockEngine.{ClockEngine}
use Rattle.rounds_run.specs.Rounds.{HaveRunPart, IsWriteEnd}
use Rattle.rounds_run.specs.Runs.{HaveRunTicks, counts_of_run, logs_of_run}
use Rattle.trace_log.specs.Values.{TraceValue}
use Rattle.trace_records.specs.Traces.{IsRecordOf}
use Rattle.trace_turns.specs.Logs.{side_of}

-- How many calls on a buffer got which answer, from its answers in each window of a run: chunks accepted or refused as
-- full, and chunks taken or missed as empty.
abbrev pub counts_in : List Answers → Counts
counts_in windows = counts_of (record {
  puts = flat_map (side_of true) windows;
  takes = flat_map (side_of false) windows;
})

-- A replay made all ticks of a run that the trace records: each engine went from `first` to `now`, with the chunks that
-- the takes of the run got. The buffers' counts and logs of answers are those of the run. `base` is the plan with its
-- audio files and start, `clocks` how many main clocks there are, and `told` gives what a sink tells of itself.
pub record HasReplayedAll {S : Type 0} (told : S → SinkTold) (base : Setting) (clocks : ℕ) (trace : TraceValue)
    (first now : List (ClockEngine S)) (counts : List Counts) (logs : List (List Answers)) : Type 0 where
  pub run : Run
  pub of : IsRecordOf base clocks trace run
  pub engines : HaveRunTicks told (setting_in base run) trace.ticks first now
  pub counts_are : counts ≡ counts_of_run run
  pub logs_are : logs ≡ logs_of_run run

-- A replay of N ticks ended early, for the reason `end`: clock m made `made m` ticks, and one clock at most tried one
-- more. Each output has the bytes of the ticks made, and then a prefix of those of the tick tried. `setting` is the
-- plan with its files, start and what its buffers answer. The engines went from `first` to `now`, and `told` gives what
-- a sink tells of itself.
pub record HasReplayedTo {S : Type 0} (told : S
    → SinkTold) (setting : Setting) (N : ℕ) (first now : List (ClockEngine S)) (end : End) : Type 0 where
  pub made : ℕ → ℕ
  pub tried : ℕ → ℕ
  pub within : (m : ℕ) → IsWithin 0 N (made m) (tried m)
  pub one : (m n : ℕ) → tried m ≡ suc (made m) → tried n ≡ suc (made n) → m ≡ n
  pub part : HaveRunPart told (λ rest. setting) made tried first now
  pub write : (failed sink : ℕ) → end ≡ Write failed sink → IsWriteEnd told failed first now end

-- A replay ended early, for the reason `end`: its engines went from `first` to `now` by some ticks of a run that the
-- trace records, and by no others. `base` is the plan with its audio files and start, `clocks` how many main clocks
-- there are, and `told` gives what a sink tells of itself.
pub record HasReplayedSome {S : Type 0} (told : S → SinkTold) (base : Setting) (clocks : ℕ) (trace : TraceValue)
    (first now : List (ClockEngine S)) (end : End) : Type 0 where
  pub run : Run
  pub of : IsRecordOf base clocks trace run
  pub part : HasReplayedTo told (setting_in base run) trace.ticks first now end
