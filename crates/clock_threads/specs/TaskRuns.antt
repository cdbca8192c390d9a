-- What a task does in a window.
use Rattle.std.specs.Prelude.{◌≡◌, ◌<◌, ◌≤◌, ◌+◌, Option, Some, None, List, ◌++◌, ℕ, suc, length, slice_get, true}
use Rattle.liq_base.specs.Pieces.{SinkTold}
use Rattle.frame_core.specs.Calls.{Call, Answer}
use Rattle.clock_ticks.specs.declared.engine.ClockEngine.{ClockEngine}
use Rattle.clock_ticks.specs.declared.fault.TickFault.TheVariants.{Memory as OutOfMemory, Write}
use Rattle.clock_ticks.specs.Engines.{EngineStands, EngineStopped, held_of, outputs_of, setting_of}
use Rattle.clock_ticks.specs.Ticks.{HaveTicksRoom}
use Rattle.clock_ticks.specs.Pieces.{AreKept, GotBetween, GotPieces, RoseAt}
use Rattle.clock_threads.specs.declared.task.Task.{Task}
use Rattle.clock_threads.specs.TickCalls.{TickCalls, joined_from, Agree, HasGone, HasGonePart}

-- the engine `e` made t ticks without a fault, in which its readers took these answers of their buffers, by buffer
abbrev pub stands_for : {S : Type 0} → ClockEngine S → ℕ → (ℕ → List Answer) → Type 0
stands_for e t answers = EngineStands e.parts t answers

-- The engine `e` stopped at a fault in tick t, in which the calls `made` were made. Before that tick its readers took
-- these answers, by buffer.
abbrev pub stopped_for : {S : Type 0} → ClockEngine S → ℕ → (ℕ → List Answer) → List Call → Type 0
stopped_for e t answers made = EngineStopped e.parts t answers made

-- The engine `old` has come to `new` by ticks: it is still that of its clock, plan and start. It has as many sinks, of
-- the same names, and it keeps the marks of tracks if it did. `told` is what a sink tells of itself.
pub record IsSameClock {S : Type 0} (told : S → SinkTold) (old new : ClockEngine S) : Type 0 where
  pub setting : setting_of new.parts ≡ setting_of old.parts
  pub clock : new.parts.clock ≡ old.parts.clock
  pub outs : length new.outs ≡ length old.outs
  pub kept : AreKept told old.outs new.outs
  pub keeping : new.parts.cues.keeping ≡ old.parts.cues.keeping

-- The sink with number `sink` in the plan refused bytes while the engine `old` came to `new`. It is that of an output
-- of the engine's clock, and its count of faults, as it tells it, rose.
pub record IsWriteOf {S : Type 0} (told : S → SinkTold) (sink : ℕ) (old new : ClockEngine S) : Type 0 where
  pub place : ℕ
  pub node : ℕ
  pub there : slice_get (outputs_of (setting_of old.parts) old.parts.clock) place ≡ Some (sink, node)
  pub rose : RoseAt told place old.outs new.outs

-- an engine has no fault: it stands for some number of ticks, and for the answers that its readers took in them
pub record DoesStand {S : Type 0} (e : ClockEngine S) : Type 0 where
  pub ticks : ℕ
  pub answers : ℕ → List Answer
  pub stand : EngineStands e.parts ticks answers

-- A task, an engine with its taps, may make `count` ticks more. Its engine has no fault, its taps have the plan's
-- buffers (`buffers` counts them), the ticks are at most 10^9 in all, and its sinks have room.
pub record CanRun {S T : Type 0} (told : S → SinkTold) (buffers : T → ℕ) (count : ℕ) (x : Task S T) : Type 0 where
  pub many : buffers x.taps ≡ length x.engine.parts.scene.plan.now.buffers
  pub stands : DoesStand x.engine
  pub few : x.engine.parts.ticks + count ≤ 1000000000
  pub rooms : HaveTicksRoom told x.engine.parts x.engine.outs count

-- An engine has made t ticks with the calls of `tick_calls`, and each output has grown by its bytes of them. `first`
-- has the bytes that an output held before them, by its number; `told` is what a sink tells of its bytes.
abbrev pub EngineGone : {S : Type 0} → (S → SinkTold) → (t : ℕ) → TickCalls → (ℕ → Option (List ℕ)) → ClockEngine S
    → Type 0
EngineGone told t tick_calls first e = HasGone (setting_of e.parts) stands_for (held_of told) e.parts.clock t tick_calls
    first e

-- An engine has made t ticks with the calls of `tick_calls`, and stopped in the next one. Each output has grown by its
-- bytes of them and by a part of the last tick's. `first` has the bytes that an output held before them, by its number;
-- `told` is what a sink tells of its bytes.
abbrev pub EngineGonePart : {S : Type 0} → (S → SinkTold) → (t : ℕ) → TickCalls → (ℕ → Option (List ℕ)) → ClockEngine S
    → Type 0
EngineGonePart told t tick_calls first e = HasGonePart (setting_of e.parts) stopped_for (held_of told) e.parts.clock t
    tick_calls first e

-- The task `old`, which had made t ticks with the calls of `tick_calls`, made `count` more and came to `new`. Each sink
-- got a piece of bytes for each of them. `stands taps calls` says that taps have made these calls; `first` has the
-- bytes of outputs before tick 0, and `told` what a sink tells.
pub record WentOn {S T : Type 0} (told : S → SinkTold) (stands : T → List Call
    → Type 0) (count t : ℕ) (tick_calls : TickCalls) (first : ℕ → Option (List ℕ))
    (old new : Task S T) : Type 0 where
  pub after : TickCalls
  pub agree : Agree t tick_calls after
  pub gone : EngineGone told (t + count) after first new.engine
  pub pieces : GotPieces told count old.engine.outs new.engine.outs
  pub taps : (calls : List Call) → stands old.taps calls → stands new.taps (calls ++ joined_from after.calls t count)

-- The task `old`, which had made t ticks, stopped in one of the next `count` and came to `new`. Each sink got a piece
-- for each tick before that one, and at most one in it. `stands taps calls` says that taps have made these calls;
-- `first` has the bytes of outputs before tick 0, and `told` what a sink tells.
pub record Halted {S T : Type 0} (told : S → SinkTold) (stands : T → List Call
    → Type 0) (count t : ℕ) (tick_calls : TickCalls) (first : ℕ → Option (List ℕ))
    (old new : Task S T) : Type 0 where
  pub made : ℕ
  pub fewer : made < count
  pub after : TickCalls
  pub agree : Agree t tick_calls after
  pub part : EngineGonePart told (t + made) after first new.engine
  pub pieces : GotBetween told made (suc made) old.engine.outs new.engine.outs
  pub taps : (calls : List Call) → stands old.taps calls
      → stands new.taps (calls ++ (joined_from after.calls t made ++ part.made))

-- The task `old` was run for `count` ticks and came to `new`: it made them all, or it stopped in one of them. `told` is
-- what a sink tells of its bytes, and `stands taps calls` says that taps have made these calls.
pub record RanTask {S T : Type 0} (told : S → SinkTold) (stands : T → List Call
    → Type 0) (count : ℕ) (old new : Task S T) : Type 0 where
  pub on : (t : ℕ) (tick_calls : TickCalls) (first : ℕ → Option (List ℕ))
      → EngineGone told t tick_calls first old.engine → new.engine.parts.stopped ≡ None
      → WentOn told stands count t tick_calls first old new
  pub halted : (t : ℕ) (tick_calls : TickCalls) (first : ℕ → Option (List ℕ))
      → EngineGone told t tick_calls first old.engine → (new.engine.parts.stopped ≡ None → ⊥)
      → Halted told stands count t tick_calls first old new

-- What is known of a task that was run for `count` ticks: its clock and taps stayed, it made them all or stopped in
-- one. A sink named by its fault refused bytes, and want of memory needs buffers or marks. `stands taps calls` says
-- that taps have made these calls, `buffers` counts theirs, and `same` is what stays of them.
pub record WasRun {S T : Type 0} (told : S → SinkTold) (stands : T → List Call → Type 0) (buffers : T → ℕ) (same : T → T
    → Type 0)
    (count : ℕ) (old new : Task S T) : Type 0 where
  pub clock : IsSameClock told old.engine new.engine
  pub taps : same old.taps new.taps
  pub many : buffers new.taps ≡ buffers old.taps
  pub ran : RanTask told stands count old new
  pub write : (sink : ℕ) → new.engine.parts.stopped ≡ Some (Write sink) → IsWriteOf told sink old.engine new.engine
  pub rooms : (n : ℕ) → new.engine.parts.stopped ≡ None
      → HaveTicksRoom told old.engine.parts old.engine.outs (n + count)
      → HaveTicksRoom told new.engine.parts new.engine.outs n
  pub memory : (old.engine.parts.cues.keeping ≡ true → ⊥) → new.engine.parts.stopped ≡ Some OutOfMemory
      → 0 < length old.engine.parts.scene.plan.now.buffers
