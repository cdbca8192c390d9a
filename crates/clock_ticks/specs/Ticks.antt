-- What a tick of an engine owes.
use Rattle.std.specs.Prelude.{◌≡◌, ◌<◌, ◌+◌, ◌*◌, ℕ, Some, true, List, ◌++◌, length, slice_get, ◌⊎◌}
use Rattle.clock_infer.specs.declared.clock_map.NodeClock.TheVariants.{Main}
use Rattle.clock_instants.specs.Takes.{HasReader}
use Rattle.liq_base.specs.Pieces.{HasRoom, SinkTold, TookPiece}
use Rattle.frame_core.specs.Calls.{Call, Answer}
use Rattle.stream_meaning.specs.Instants.{Setting}
use Rattle.stream_meaning.specs.Sinks.{block_length, is_wide, kind_of}
use Rattle.node_states.specs.Ticks.{HasStopped, HasTicked}
use Rattle.clock_ticks.specs.Pieces.{GotOnePiece, RoseAt}
use Rattle.clock_ticks.specs.Engines.{EngineStands, EngineStopped, feeds_of, held_in, outputs_of, setting_of}
use Rattle.clock_ticks.specs.declared.engine.EngineParts.{EngineParts}
use Rattle.clock_ticks.specs.declared.fault.TickFault.{TickFault}
use Rattle.clock_ticks.specs.declared.fault.TickFault.TheVariants.{Write}

-- An engine may need memory in a tick. This is so if a buffer's reader lies in its clock or below it, or it has a feed,
-- or it keeps marks of where tracks begin.
abbrev pub HasEnds : EngineParts → Type 0
HasEnds parts = HasReader parts.scene.plan.now parts.scene.clocks.now (Main parts.clock)
    ⊎ ((0 < length (feeds_of (setting_of parts) parts.clock)) ⊎ (parts.cues.keeping ≡ true))

-- how many bytes the piece of a tick has, of an output with this number and node
abbrev pub piece_size : Setting → (sink node : ℕ) → ℕ
piece_size setting sink node = setting.plan.frame * block_length (is_wide setting sink) (kind_of setting node)

-- Each sink of `outs`, one for each output of the engine, has room for the bytes of one tick, if it tells its room.
-- `told` is what a sink tells.
pub record HaveTickRoom {S : Type 0} (told : S → SinkTold) (parts : EngineParts) (outs : List S) : Type 0 where
  pub each : (k sink node : ℕ) (out : S) → slice_get (outputs_of (setting_of parts) parts.clock) k ≡ Some (sink, node)
      → slice_get outs k ≡ Some out
      → HasRoom (told out).room (piece_size (setting_of parts) sink node)

-- Each sink of `outs`, one for each output of the engine, has room for the bytes of so many ticks, if it tells its
-- room. `told` is what a sink tells.
pub record HaveTicksRoom {S : Type 0} (told : S
    → SinkTold) (parts : EngineParts) (outs : List S) (ticks : ℕ) : Type 0 where
  pub each : (k sink node : ℕ) (out : S) → slice_get (outputs_of (setting_of parts) parts.clock) k ≡ Some (sink, node)
      → slice_get outs k ≡ Some out
      → HasRoom (told out).room (ticks * piece_size (setting_of parts) sink node)

-- each sink of the engine's outputs, as in `old` and then as in `new`, took one piece of bytes, of the size of a
-- tick's; `told` is what a sink tells
pub record TookTick {S : Type 0} (told : S → SinkTold) (parts : EngineParts) (old new : List S) : Type 0 where
  pub each : (k : ℕ) (before after : S) → slice_get old k ≡ Some before → slice_get new k ≡ Some after
      → (sink node : ℕ) × (slice_get (outputs_of (setting_of parts) parts.clock) k ≡ Some (sink, node))
      × (piece : List ℕ) × (length piece ≡ piece_size (setting_of parts) sink node)
      × TookPiece piece (told before) (told after)

-- The fault of a tick is that the sink of an output of the engine refused bytes, so that its count of faults rose. The
-- sinks came from `old` to `new`: those up to this one took a piece of bytes each, or a part of one. `told` is what a
-- sink tells.
pub record IsWriteFault {S : Type 0} (told : S
    → SinkTold) (parts : EngineParts) (old new : List S) (fault : TickFault) : Type 0 where
  pub place : ℕ
  pub sink : ℕ
  pub node : ℕ
  pub there : slice_get (outputs_of (setting_of parts) parts.clock) place ≡ Some (sink, node)
  pub fault_is : fault ≡ Write sink
  pub rose : RoseAt told place old new
  pub once : GotOnePiece told (place + 1) old new

-- A tick that answers Ok made the calls `more` on buffers, and took the engine from `old` to `new`, its sinks from
-- `outs_old` to `outs_new`. Whatever ticks the old engine stood for, the new one stands for one more.
-- `taps_stand taps calls` says that taps have made these calls; `told` is what a sink tells.
pub record HasMade {S T : Type 0} (told : S → SinkTold) (taps_stand : T → List Call
    → Type 0) (old new : EngineParts) (outs_old outs_new : List S)
    (taps_old taps_new : T) : Type 0 where
  pub more : List Call
  pub engine : (t : ℕ) (answers : ℕ → List Answer) → EngineStands old t answers
      → HasTicked (EngineStands new) (setting_of old) old.clock t answers more
      (held_in told (outputs_of (setting_of old) old.clock) outs_old)
      (held_in told (outputs_of (setting_of new) new.clock) outs_new)
  pub taps : (calls : List Call) → taps_stand taps_old calls → taps_stand taps_new (calls ++ more)

-- A tick that answers a fault made the calls `made`, the first of the tick's, and took the engine from `old` to `new`.
-- Whatever ticks the old engine stood for, the new one stopped in the next. Each output has grown by a part of the
-- tick's bytes. `taps_stand taps calls` says that taps have made these calls; `told` is what a sink tells.
pub record HasFailed {S T : Type 0} (told : S → SinkTold) (taps_stand : T → List Call
    → Type 0) (old new : EngineParts) (outs_old outs_new : List S)
    (taps_old taps_new : T) : Type 0 where
  pub made : List Call
  pub engine : (t : ℕ) (answers : ℕ → List Answer) → EngineStands old t answers
      → HasStopped (setting_of old) old.clock t answers made
      (held_in told (outputs_of (setting_of old) old.clock) outs_old)
      (held_in told (outputs_of (setting_of new) new.clock) outs_new)
  pub halted : (t : ℕ) (answers : ℕ → List Answer) → EngineStands old t answers → EngineStopped new t answers made
  pub taps : (calls : List Call) → taps_stand taps_old calls → taps_stand taps_new (calls ++ made)
