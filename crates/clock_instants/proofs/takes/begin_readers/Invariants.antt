use Rattle.std.proofs.Common.{◌≡◌, ◌<◌, ◌≤◌, ◌-◌, ℕ, true, false, length, slice_get}
use Rattle.clock_nodes.specs.Nodes.{lies_at}
use Rattle.clock_nodes.specs.States.{AllFit}
use Rattle.clock_instants.proofs.Beginning.{Beginning}
use Rattle.clock_instants.proofs.takes.begin_readers.Given as goal

abbrev pub invariant-loop-i : goal.invariant-loop-i
invariant-loop-i g l = record {
  high : l.i ≤ length l.scene.clocks.now;
  own : l.i < length l.scene.clocks.now → lies_at l.scene.clocks.now l.fn.clock l.i ≡ true;
  fit : AllFit l.scene l.states;
  others : (k : ℕ) → lies_at l.scene.clocks.now l.fn.clock k ≡ false → slice_get l.states k ≡ slice_get l.initial.states k;
  left : (k : ℕ) → l.i ≤ k → slice_get l.states k ≡ slice_get l.initial.states k;
  buffers : g.T.Taps.buffers l.taps ≡ g.T.Taps.buffers l.initial.taps;
  same : g.T.Taps.same l.initial.taps l.taps;
  beginning : Beginning g.T.Taps.stands l.scene l.fn.clock l.initial.states l.states l.initial.taps l.taps l.i;
}

abbrev pub decreases-loop-i : goal.decreases-loop-i
decreases-loop-i g l = length l.scene.clocks.now - l.i
