use Rattle.std.proofs.Common.{◌≡◌, map, take}
use Rattle.script_grammar.specs.View.{listed, view_param}
use Rattle.typing_rules.specs.Scoping.{with_params}
use Rattle.name_scope.specs.Seen.{in_scope}
use Rattle.name_scope.proofs.statements.bind_params.Given as goal

abbrev pub invariant-loop-param : goal.invariant-loop-param
invariant-loop-param l = in_scope l.inner ≡ with_params (listed (map view_param (take l.param-index l.params))) (in_scope l.fn.inner)
