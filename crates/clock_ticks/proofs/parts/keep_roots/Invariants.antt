use Rattle.std.proofs.Common.{◌≡◌, ◌<◌, ◌≤◌, ℕ, false, length, get_or}
use Rattle.clock_infer.specs.declared.clock_map.NodeClock.TheVariants.{Main}
use Rattle.stream_meaning.specs.Instants.{Setting, is_root}
use Rattle.clock_nodes.specs.Scenes.{setting_over}
use Rattle.clock_ticks.proofs.parts.keep_roots.Given as goal

abbrev pub invariant-loop-i : goal.invariant-loop-i
invariant-loop-i l = record {
  size : length l.own ≡ length l.initial.own;
  done : (j : ℕ) → j < l.i → (other : Setting) → get_or l.own j false
      ≡ is_root (setting_over l.scene other) (get_or l.scene.clocks.now j (Main 0)) j;
  left : (j : ℕ) → l.i ≤ j → get_or l.own j false ≡ get_or l.initial.own j false;
}
