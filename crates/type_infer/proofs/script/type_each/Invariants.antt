use Rattle.std.proofs.Common.{map}
use Rattle.script_grammar.specs.View.{listed, view_stmt}
use Rattle.typing_rules.specs.Scoping.{target_in}
use Rattle.typing_rules.specs.Scripts.{first_of}
use Rattle.name_scope.specs.Noted.{resolved}
use Rattle.type_infer.specs.States.{IsAfter}
use Rattle.type_infer.proofs.script.type_each.Given as goal

abbrev pub invariant-loop-index : goal.invariant-loop-index
invariant-loop-index l = IsAfter (target_in (map resolved l.front.all.items)) (first_of l.index (listed (map view_stmt l.statements))) l.typing
