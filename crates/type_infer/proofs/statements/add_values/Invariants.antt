use Rattle.std.proofs.Common.{take}
use Rattle.type_infer.specs.Later.{AddsValues}
use Rattle.type_infer.proofs.statements.add_values.Given as goal

abbrev pub invariant-loop-value : goal.invariant-loop-value
invariant-loop-value l = AddsValues l.subst (take l.value-index l.values) l.fn.held l.held
