use Rattle.std.proofs.Common.{◌≡◌, drop}
use Rattle.typing_rules.specs.Kinds.{kinds_of}
use Rattle.eval_scope.specs.Scopes.{prefixed}
use Rattle.eval_scope.proofs.scope.kinds_of.Given as goal

abbrev pub invariant-loop-kind : goal.invariant-loop-kind
invariant-loop-kind l = prefixed l.kinds.items (kinds_of l.given (drop l.kind-index l.wanted)) ≡ kinds_of l.given l.wanted
