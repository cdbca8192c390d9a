use Rattle.std.proofs.Common.{take}
use Rattle.type_instances.specs.Instances.{Grows}
use Rattle.type_instances.specs.NewVariables.{AreNewKinds}
use Rattle.type_instances.proofs.instances.new_kinds.Given as goal

abbrev pub invariant-loop-parameter : goal.invariant-loop-parameter
invariant-loop-parameter l = record {
  new : AreNewKinds l.fn.subst l.subst (take l.parameter-index l.parameters) l.numbers.items;
  grows : Grows l.fn.subst l.subst;
}
