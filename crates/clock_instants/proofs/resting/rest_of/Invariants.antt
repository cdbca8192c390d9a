use Rattle.std.proofs.Common.{◌≡◌, ◌<◌, ◌≤◌, ◌-◌, ℕ, List, true, length}
use Rattle.frame_core.specs.Slots.{Slot}
use Rattle.stream_meaning.specs.Instants.{Setting, Moment}
use Rattle.clock_instants.specs.Held.{AllAsk}
use Rattle.clock_nodes.specs.Nodes.{lies_at}
use Rattle.clock_instants.specs.Stretches.{IsBehind}
use Rattle.clock_nodes.specs.Scenes.{setting_over}
use Rattle.clock_instants.proofs.Ahead.{LieAheadBelow, PassOnBelow}
use Rattle.clock_instants.proofs.Stretched.{GoOn}
use Rattle.clock_instants.proofs.resting.rest_of.Given as goal

abbrev pub invariant-loop-i : goal.invariant-loop-i
invariant-loop-i l = record {
  high : l.i ≤ length l.scene.clocks.now;
  own : l.i < length l.scene.clocks.now → lies_at l.scene.clocks.now l.fn.clock l.i ≡ true;
  within : l.rest ≤ l.most;
  later : l.rest ≤ l.fn.time.rate;
  ahead : LieAheadBelow l.scene l.fn.clock l.held l.states l.i l.rest;
  through : PassOnBelow l.scene l.fn.clock l.held l.states l.rests l.i l.rest;
  done : (other : Setting) (sub : ℕ → ℕ → List Slot) (past : List Moment) (filled : ℕ → ℕ) →
      let setting = setting_over l.scene other in
      IsBehind setting sub l.fn.clock past filled l.fn.time l.parts l.held l.states l.rests →
      GoOn setting sub l.fn.clock past l.i l.rest;
  asks : (other : Setting) (sub : ℕ → ℕ → List Slot) (past : List Moment) (filled : ℕ → ℕ) →
      let setting = setting_over l.scene other in
      IsBehind setting sub l.fn.clock past filled l.fn.time l.parts l.held l.states l.rests →
      AllAsk setting sub l.fn.clock past filled l.states l.i l.rest;
}

abbrev pub decreases-loop-i : goal.decreases-loop-i
decreases-loop-i l = length l.scene.clocks.now - l.i
