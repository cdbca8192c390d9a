use Rattle.std.proofs.Common.{◌≡◌, take, map, None}
use Rattle.typing_rules.specs.Arguments.{argument}
use Rattle.name_scope.specs.Seen.{seen_label}
use Rattle.type_steps.specs.Fitting.{seen_argument}
use Rattle.type_steps.proofs.arguments.take_argument.Given as goal

abbrev pub invariant-loop-index : goal.invariant-loop-index
invariant-loop-index l = (l.given.items ≡ l.fn.given.items) × (argument (seen_label l.label) (map seen_argument (take l.index l.given.items)) ≡ None)
