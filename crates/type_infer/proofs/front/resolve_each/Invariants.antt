use Rattle.std.proofs.Common.{◌≡◌, [], map, None}
use Rattle.script_grammar.specs.View.{listed, view_stmt}
use Rattle.typing_rules.specs.Scripts.{first_of}
use Rattle.name_scope.specs.Noted.{resolved}
use Rattle.name_scope.specs.Seen.{in_scope}
use Rattle.type_steps.specs.Statements.{scope_after}
use Rattle.type_infer.specs.Fronts.{AreNamesOf}
use Rattle.type_infer.proofs.front.resolve_each.Given as goal

abbrev pub invariant-loop-stmt : goal.invariant-loop-stmt
invariant-loop-stmt l = record {
  names_are : AreNamesOf (map view_stmt l.statements) l.stmt-index (map resolved l.all.items);
  clear : l.notes.fault ≡ None;
  number_is : l.number ≡ l.stmt-index;
  scope_is : in_scope l.scope ≡ scope_after [] (first_of l.stmt-index (listed (map view_stmt l.statements)));
}
