use Rattle.std.proofs.Common.{◌≡◌, take, map}
use Rattle.name_scope.specs.Seen.{seen_parameter}
use Rattle.name_scope.proofs.Matching.{param_seen}
use Rattle.name_scope.proofs.arguments.parameters.Given as goal

abbrev pub invariant-loop-param : goal.invariant-loop-param
invariant-loop-param l = map seen_parameter l.seen.items ≡ map param_seen (take l.param-index l.params)
