-- What the sinks of a clock took of its pieces, sink by sink. S is the sinks' type, `told` is what they tell.
use Rattle.std.specs.Prelude.{◌≡◌, ◌<◌, ◌≤◌, ◌+◌, ℕ, Some, List, length, slice_get}
use Rattle.liq_base.specs.Pieces.{HasRoom, SinkTold, TookPiece, TookPart}
use Rattle.clock_outputs.specs.declared.port.Port.{Port}

-- Each sink of a clock has room for the bytes that its output has of the tick. `ports` are the outputs, `outs` their
-- sinks in the same order, and `told` gives what a sink tells of itself.
pub record HaveRoom {S : Type 0} (told : S → SinkTold) (ports : List Port) (outs : List S) : Type 0 where
  pub each : (k : ℕ) (port : Port) (out : S) → slice_get ports k ≡ Some port → slice_get outs k ≡ Some out
      → HasRoom (told out).room (length port.piece.bytes)

-- Each of the first `below` sinks took all the bytes that its output has of the tick, and the others are as they were.
-- `ports` are the outputs, `old` and `new` their sinks before and after, and `told` gives what a sink tells of itself.
pub record TookAll {S : Type 0} (told : S → SinkTold) (ports : List Port) (below : ℕ) (old new : List S) : Type 0 where
  pub each : (k : ℕ) (port : Port) (before after : S) → k < below → slice_get ports k ≡ Some port
      → slice_get old k ≡ Some before → slice_get new k ≡ Some after
      → TookPiece port.piece.bytes (told before) (told after)
  pub others : (k : ℕ) → below ≤ k → slice_get new k ≡ slice_get old k

-- The sink with the number `place` took only a prefix of its output's bytes of the tick, and failed. Each before it
-- took all of them, and those after it are as they were. `ports` are the outputs, `old` and `new` their sinks, and
-- `told` gives what a sink tells of itself.
pub record BrokeAt {S : Type 0} (told : S → SinkTold) (place : ℕ) (ports : List Port) (old new : List S) : Type 0 where
  pub port : Port
  pub before : S
  pub after : S
  pub at_port : slice_get ports place ≡ Some port
  pub was : slice_get old place ≡ Some before
  pub is : slice_get new place ≡ Some after
  pub part : TookPart port.piece.bytes (told before) (told after)
  pub each : (k : ℕ) (port : Port) (before after : S) → k < place → slice_get ports k ≡ Some port
      → slice_get old k ≡ Some before → slice_get new k ≡ Some after
      → TookPiece port.piece.bytes (told before) (told after)
  pub others : (k : ℕ) → place + 1 ≤ k → slice_get new k ≡ slice_get old k
