-- Runs of the engines of all clocks, in rounds: each clock makes a tick, then each makes the next.
use Rattle.std.specs.Prelude.{◌≡◌, ◌+◌, ◌/◌, ◌%◌, ℕ, suc, Bool, Some, List, [], length, slice_get, ◌⊎◌, true, ◌<◌, ◌*◌}
pub use Rattle.run_records.specs.Records.{made_by, ticks_by}
use Rattle.liq_base.specs.Pieces.{IsPrefix, SinkTold, grown}
use Rattle.clock_infer.specs.declared.clock_map.NodeClock.TheVariants.{Main}
use Rattle.frame_core.specs.Calls.{Call, Answer}
use Rattle.stream_meaning.specs.Instants.{Setting, with_rest}
use Rattle.stream_meaning.specs.Calls.{IsBegin, IsUnread, answers_in, calls_of_tick, joined_upto}
use Rattle.stream_meaning.specs.Sinks.{ticks_bytes, IsOutput}
use Rattle.node_states.specs.Ticks.{HoldTicks}
use Rattle.clock_ticks.specs.declared.engine.ClockEngine.{ClockEngine}
use Rattle.clock_ticks.specs.Engines.{EngineStands, held_of, outputs_of, setting_of}
use Rattle.clock_ticks.specs.Ticks.{HaveTicksRoom}
use Rattle.clock_ticks.specs.Pieces.{GotBetween, GotPieces, RoseAt}
use Rattle.buffer_ends.specs.declared.run_end.End.{End}
use Rattle.buffer_ends.specs.declared.run_end.End.TheVariants.{Write, Memory as NoMemory}

-- the setting of a run (plan, files, clocks, start and the buffers' answers) in which each buffer answers what these
-- calls got from it, and then what `rest` has for it
abbrev pub world : Setting → List Call → (rest : ℕ → List Answer) → Setting
world setting calls rest = with_rest setting (λ buffer. answers_in buffer calls) rest

-- The calls to buffers in the first `turns` turns; a turn is one tick of one of the `clocks` clocks, each in its
-- order. Turn j is tick j / clocks of clock j % clocks. `accepted j b` is what buffer b answers to the give of turn j.
abbrev pub calls_of_turns : Setting → (accepted : ℕ → ℕ → Bool) → (clocks turns : ℕ) → List Call
calls_of_turns setting accepted clocks turns = joined_upto
    (λ j. calls_of_tick setting (accepted j) (j % clocks) (j / clocks)) turns

-- These are the calls to buffers in the first `turns` turns of a run; a turn is one tick of one of the `clocks` clocks,
-- each in its order. The answers are those that the calls got, whatever further answers (`rest`) follow. `accepted`
-- says of each turn and buffer whether the buffer took what it was given.
pub record AreTurns (setting : Setting) (clocks turns : ℕ) (calls : List Call) : Type 0 where
  pub accepted : ℕ → ℕ → Bool
  pub are : (rest : ℕ → List Answer) → calls ≡ calls_of_turns (world setting calls rest) accepted clocks turns

-- These calls to buffers are a beginning of those in the first `turns` turns of a run; a turn is one tick of one of the
-- `clocks` clocks, each in its order. The answers are those that the calls got, whatever further answers (`rest`)
-- follow. `accepted` says of each turn and buffer whether the buffer took what it was given.
pub record AreTurnsBegun (setting : Setting) (clocks turns : ℕ) (calls : List Call) : Type 0 where
  pub accepted : ℕ → ℕ → Bool
  pub begun : (rest : ℕ → List Answer) → IsBegin calls (calls_of_turns (world setting calls rest) accepted clocks turns)

-- These are all calls to buffers in the first `turns` turns of a run, and a beginning of those in the next one. A turn
-- is one tick of one of the `clocks` clocks, each in its order. The answers are those that the calls got, whatever
-- further answers (`rest`) follow.
pub record AreTurnsUpto (setting : Setting) (clocks turns : ℕ) (calls : List Call) : Type 0 where
  pub accepted : ℕ → ℕ → Bool
  pub whole : (rest : ℕ → List Answer) → IsBegin (calls_of_turns (world setting calls rest) accepted clocks turns) calls
  pub begun : (rest : ℕ → List Answer)
      → IsBegin calls (calls_of_turns (world setting calls rest) accepted clocks (suc turns))

-- the answers of buffers before a run, by the buffer's number: none of any buffer
abbrev pub nothing : ℕ → List Answer
nothing buffer = []

-- An engine may begin a run of `ticks` ticks: it has made no tick and not stopped, and its sinks have room for so many
-- ticks. `told` gives what a sink tells of itself: its bytes, its pieces and its room.
pub record MayRun {S : Type 0} (told : S → SinkTold) (ticks : ℕ) (engine : ClockEngine S) : Type 0 where
  pub fresh : EngineStands engine.parts 0 nothing
  pub rooms : HaveTicksRoom told engine.parts engine.outs ticks

-- The engines of a run of `ticks` ticks: one per clock, in clock order, each fresh and with room in its sinks, and all
-- over one plan with its files, clocks and start (`setting`). `told` gives what a sink tells of itself.
pub record AreEngines {S : Type 0} (told : S
    → SinkTold) (ticks : ℕ) (setting : Setting) (engines : List (ClockEngine S)) : Type 0 where
  pub each : (k : ℕ) (engine : ClockEngine S) → slice_get engines k ≡ Some engine → MayRun told ticks engine
  pub in_order : (k : ℕ) (engine : ClockEngine S) → slice_get engines k ≡ Some engine → engine.parts.clock ≡ k
  pub over : (k : ℕ) (engine : ClockEngine S) → slice_get engines k ≡ Some engine → setting_of engine.parts ≡ setting

-- An engine has gone from `old` to `new` by `ticks` ticks without a fault, in a run that made these calls to buffers:
-- it took the answers of its buffers, and each output and its sink got the bytes and pieces of these ticks. It still
-- keeps where tracks begin, if it did. `told` gives what a sink tells of itself.
pub record HasRunTurns {S : Type 0} (told : S
    → SinkTold) (calls : List Call) (ticks : ℕ) (old new : ClockEngine S) : Type 0 where
  pub setting : setting_of new.parts ≡ setting_of old.parts
  pub clock : new.parts.clock ≡ old.parts.clock
  pub keeping : new.parts.cues.keeping ≡ old.parts.cues.keeping
  pub answers : ℕ → List Answer
  pub own : (buffer : ℕ) → (answers buffer ≡ answers_in buffer calls)
      ⊎ IsUnread (setting_of old.parts) (Main old.parts.clock) buffer
  pub stands : EngineStands new.parts ticks answers
  pub grew : HoldTicks (setting_of old.parts) old.parts.clock ticks answers (held_of told old) (held_of told new)
  pub pieces : GotPieces told ticks old.outs new.outs
  pub outs : length new.outs ≡ length old.outs

-- An engine has gone from `old` to `new` by at least `least` and at most `most` ticks. Each output got all bytes of the
-- first `least` ticks, and behind them some first bytes of the ticks up to `most`. `world` is the setting in which
-- buffers answer as in the run, for all further answers (`rest`); `told` gives what a sink tells.
pub record HasRunPart {S : Type 0} (told : S → SinkTold) (world : (ℕ → List Answer)
    → Setting) (least most : ℕ) (old new : ClockEngine S) : Type 0 where
  pub setting : setting_of new.parts ≡ setting_of old.parts
  pub clock : new.parts.clock ≡ old.parts.clock
  pub part : (rest : ℕ → List Answer) (sink node : ℕ)
      (output : IsOutput (setting_of old.parts) old.parts.clock sink node)
      → (bytes : List ℕ) × IsPrefix (ticks_bytes (world rest) output.wide node least) bytes
      × IsPrefix bytes (ticks_bytes (world rest) output.wide node most)
      × (held_of told new sink ≡ grown bytes (held_of told old sink))
  pub pieces : GotBetween told least most old.outs new.outs
  pub outs : length new.outs ≡ length old.outs

-- Each engine has gone from its `old` to its `new` state without a fault, engine k by `ticks k` ticks, in a run that
-- made these calls to buffers. `told` gives what a sink tells of itself.
pub record HaveRun {S : Type 0} (told : S → SinkTold) (calls : List Call) (ticks : ℕ
    → ℕ) (old new : List (ClockEngine S)) : Type 0 where
  pub size : length new ≡ length old
  pub each : (k : ℕ) (before after : ClockEngine S) → slice_get old k ≡ Some before → slice_get new k ≡ Some after
      → HasRunTurns told calls (ticks k) before after

-- Each engine has gone from its `old` to its `new` state, engine k by at least `least k` and at most `most k` ticks, as
-- where a fault ended the run. `world` is the setting in which buffers answer as in the run, for all further answers;
-- `told` gives what a sink tells of itself.
pub record HaveRunPart {S : Type 0} (told : S → SinkTold) (world : (ℕ → List Answer) → Setting) (least most : ℕ
    → ℕ) (old new : List (ClockEngine S)) : Type 0 where
  pub size : length new ≡ length old
  pub each : (k : ℕ) (before after : ClockEngine S) → slice_get old k ≡ Some before → slice_get new k ≡ Some after
      → HasRunPart told world (least k) (most k) before after

-- A failed write to an output of the clock `clock` ended the run: `end` names the output, and the count of failed
-- writes of its sink rose from the engines `old` to `new`. `told` gives what a sink tells of itself.
pub record IsWriteEnd {S : Type 0} (told : S
    → SinkTold) (clock : ℕ) (old new : List (ClockEngine S)) (end : End) : Type 0 where
  pub before : ClockEngine S
  pub after : ClockEngine S
  pub was : slice_get old clock ≡ Some before
  pub is : slice_get new clock ≡ Some after
  pub place : ℕ
  pub sink : ℕ
  pub node : ℕ
  pub there : slice_get (outputs_of (setting_of before.parts) clock) place ≡ Some (sink, node)
  pub end_is : end ≡ Write clock sink
  pub rose : RoseAt told place before.outs after.outs

-- The state of a run after so many turns (one tick of one clock each), from the engines `first` to `now`: engine k has
-- made `made k` ticks and has room in its sinks for those left of `total`. `got` says which calls the ends of the
-- buffers (taps) have answered; `told` gives what a sink tells of itself.
pub record AreGoing {S : Type 0} (told : S → SinkTold) (got : List Call → Type 0) (setting : Setting) (total : ℕ)
    (made : ℕ → ℕ) (turns : ℕ) (first now : List (ClockEngine S)) : Type 0 where
  pub calls : List Call
  pub taps : got calls
  pub turned : AreTurns setting (length first) turns calls
  pub run : HaveRun told calls made first now
  pub rooms : (k left : ℕ) (engine : ClockEngine S) → slice_get now k ≡ Some engine → made k + left ≡ total
      → HaveTicksRoom told engine.parts engine.outs left

-- A run went through without a fault, from the engines `first` to `now`: all `ticks` rounds were made, in each of which
-- every clock makes a tick. `got` says which calls the ends of the buffers (taps) have answered; `told` gives what a
-- sink tells of itself.
pub record RoundsMade {S : Type 0} (told : S → SinkTold) (got : List Call → Type 0) (setting : Setting) (ticks : ℕ)
    (first now : List (ClockEngine S)) : Type 0 where
  pub calls : List Call
  pub taps : got calls
  pub turned : AreTurns setting (length first) (ticks * length first) calls
  pub run : HaveRun told calls (λ clock. ticks) first now

-- A fault ended a run of `ticks` rounds, in the tick of clock `clock` in round `round`: the clocks below it have made
-- their tick of this round, those above it have not, and it has made at most a part. `got` says which calls the ends of
-- the buffers (taps) have answered; `told` gives what a sink tells of itself.
pub record RoundsStopped {S : Type 0} (told : S → SinkTold) (got : List Call → Type 0) (setting : Setting) (ticks : ℕ)
    (first now : List (ClockEngine S)) (end : End) : Type 0 where
  pub calls : List Call
  pub taps : got calls
  pub begun : AreTurnsBegun setting (length first) (ticks * length first) calls
  pub round : ℕ
  pub clock : ℕ
  pub below : clock < length first
  pub turn : AreTurnsUpto setting (length first) (round * length first + clock) calls
  pub part : HaveRunPart told (world setting calls) (ticks_by ticks round clock) (ticks_by ticks round (clock + 1))
      first now
  pub cause : (end ≡ NoMemory) ⊎ IsWriteEnd told clock first now end

-- none of these engines keeps a list of the places at which its tracks begin, as is needed for a cue file
pub record KeepNone {S : Type 0} (engines : List (ClockEngine S)) : Type 0 where
  pub each : (k : ℕ) (engine : ClockEngine S) → slice_get engines k ≡ Some engine → engine.parts.cues.keeping ≡ true → ⊥

-- the plan of each of these engines has so many buffers
pub record HaveBuffers {S : Type 0} (buffers : ℕ) (engines : List (ClockEngine S)) : Type 0 where
  pub each : (k : ℕ) (engine : ClockEngine S) → slice_get engines k ≡ Some engine
      → buffers ≡ length engine.parts.scene.plan.now.buffers
