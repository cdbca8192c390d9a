use Rattle.std.proofs.Common.{map}
use Rattle.script_grammar.specs.Tree.{none}
use Rattle.typing_rules.specs.Scoping.{target_in}
use Rattle.name_scope.specs.Noted.{resolved}
use Rattle.type_infer.proofs.After.{after_same}
use Rattle.type_infer.proofs.script.type_all.Goals as goal

pub type_each-requires-clause-begun : goal.type_each-requires-clause-begun
type_each-requires-clause-begun c = after_same (target_in (map resolved c.args.front.now.all.items)) none c.args.typing.now c.make_room.new.typing c.make_room.ensures c.requires.begun
