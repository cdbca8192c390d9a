use Rattle.std.proofs.Common.{◌≡◌, map, take}
use Rattle.script_grammar.specs.View.{view_param}
use Rattle.name_scope.specs.Noted.{names_each, noted, with_names}
use Rattle.name_scope.specs.Seen.{both_scopes}
use Rattle.name_scope.proofs.statements.note_defaults.Given as goal

abbrev pub invariant-loop-param : goal.invariant-loop-param
invariant-loop-param l = noted l.notes ≡ with_names (noted l.fn.notes) (names_each (both_scopes l.scopes) (map view_param (take l.param-index l.params)))
