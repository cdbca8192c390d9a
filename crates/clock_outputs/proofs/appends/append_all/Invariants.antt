use Rattle.std.proofs.Common.{◌≡◌, length}
use Rattle.clock_outputs.specs.Appends.{TookAll}
use Rattle.clock_outputs.proofs.appends.append_all.Given as goal

abbrev pub invariant-loop-k : goal.invariant-loop-k
invariant-loop-k g l = record {
  sizes : length l.outs.items ≡ length l.initial.outs.items;
  took : TookAll g.O.Sink.told l.ports l.k l.initial.outs.items l.outs.items;
}
