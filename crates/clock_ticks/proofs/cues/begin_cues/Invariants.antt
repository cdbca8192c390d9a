use Rattle.std.proofs.Common.{◌≡◌, []}
use Rattle.clock_ticks.specs.Cues.{HasMarked}
use Rattle.clock_ticks.proofs.Marking.{AreChanged}
use Rattle.clock_ticks.proofs.cues.begin_cues.Given as goal

abbrev pub invariant-loop-k : goal.invariant-loop-k
invariant-loop-k l = record {
  keeping : l.cues.keeping ≡ l.initial.cues.keeping;
  changed : AreChanged (λ k old new. HasMarked [] old new) l.k l.initial.cues.lists.items l.cues.lists.items;
}
