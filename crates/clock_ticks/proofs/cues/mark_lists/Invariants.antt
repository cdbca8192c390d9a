use Rattle.std.proofs.Common.{◌≡◌, Some, [], ◌∷◌, slice_get}
use Rattle.clock_outputs.specs.declared.port.Port.{Port}
use Rattle.stream_meaning.specs.Instants.{part_at}
use Rattle.clock_ticks.specs.Cues.{HasGrown, HasKept, marks_of}
use Rattle.clock_ticks.proofs.Marking.{AreChanged}
use Rattle.clock_ticks.proofs.cues.mark_lists.Given as goal

abbrev pub invariant-loop-k : goal.invariant-loop-k
invariant-loop-k l = record {
  grown : AreChanged (λ k old new. HasGrown old new) l.k l.initial.lists.items l.lists.items;
  kept : AreChanged (λ k old new. (port : Port) → slice_get l.ports k ≡ Some port → HasKept (marks_of l.at ((part_at l.clocks.latest.parts.items port.node).slot ∷ [])) old new) l.k
      l.initial.lists.items l.lists.items;
}
