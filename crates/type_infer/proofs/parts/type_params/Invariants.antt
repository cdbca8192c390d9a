use Rattle.std.proofs.Common.{map, take}
use Rattle.script_grammar.specs.View.{listed, view_param}
use Rattle.expression_types.specs.Seen.{founds}
use Rattle.type_infer.proofs.Loops.{ParamsSo}
use Rattle.type_infer.proofs.parts.type_params.Given as goal

abbrev pub invariant-loop-param : goal.invariant-loop-param
invariant-loop-param l = ParamsSo l.fn.subst l.subst l.names (listed (map view_param (take l.param-index l.params))) l.typed.items (founds l.fn.uses.items) (founds l.uses.items)
