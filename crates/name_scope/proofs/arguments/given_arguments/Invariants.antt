use Rattle.std.proofs.Common.{◌≡◌, take, map}
use Rattle.name_scope.specs.Seen.{seen_given}
use Rattle.name_scope.proofs.Matching.{token_given}
use Rattle.name_scope.proofs.arguments.given_arguments.Given as goal

abbrev pub invariant-loop-arg : goal.invariant-loop-arg
invariant-loop-arg l = map seen_given l.given.items ≡ map token_given (take l.arg-index l.args)
