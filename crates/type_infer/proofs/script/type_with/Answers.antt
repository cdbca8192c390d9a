use Rattle.std.proofs.Common.{map}
use Rattle.typing_rules.specs.Scoping.{target_in}
use Rattle.name_scope.specs.Noted.{resolved}
use Rattle.type_infer.proofs.script.type_with.Goals as goal

pub type_all-requires-clause-begun : goal.type_all-requires-clause-begun
type_all-requires-clause-begun c = c.in_ok-typing.ensures.begun (target_in (map resolved c.args.front.now.all.items))
