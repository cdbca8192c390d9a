use Rattle.std.proofs.Common.{map, take}
use Rattle.script_grammar.specs.View.{listed, view_inner}
use Rattle.expression_types.specs.Seen.{founds}
use Rattle.type_infer.proofs.Loops.{InnersSo}
use Rattle.type_infer.proofs.parts.type_inners.Given as goal

abbrev pub invariant-loop-inner : goal.invariant-loop-inner
invariant-loop-inner l = InnersSo l.fn.subst l.subst l.seen (listed (map view_inner (take l.inner-index l.inners))) l.fn.bindings.items l.bindings.items (founds l.fn.uses.items) (founds l.uses.items)
