use Rattle.std.proofs.Common.{◌≡◌, map, take}
use Rattle.script_grammar.specs.View.{view_and, view_not, view_added, view_multiplied, view_full, view_arg}
use Rattle.name_scope.specs.Noted.{names_each, noted, with_names}
use Rattle.name_scope.specs.Seen.{both_scopes}
use Rattle.name_scope.proofs.values.+value.Given as goal

abbrev pub invariant-note_ands-loop-and : goal.invariant-note_ands-loop-and
invariant-note_ands-loop-and l = noted l.notes ≡ with_names (noted l.fn.notes) (names_each (both_scopes l.scopes) (map view_and (take l.and-index l.ands)))

abbrev pub invariant-note_nots-loop-not : goal.invariant-note_nots-loop-not
invariant-note_nots-loop-not l = noted l.notes ≡ with_names (noted l.fn.notes) (names_each (both_scopes l.scopes) (map view_not (take l.not-index l.nots)))

abbrev pub invariant-note_addends-loop-added : goal.invariant-note_addends-loop-added
invariant-note_addends-loop-added l = noted l.notes ≡ with_names (noted l.fn.notes) (names_each (both_scopes l.scopes) (map view_added (take l.added-index l.addends)))

abbrev pub invariant-note_factors-loop-multiplied : goal.invariant-note_factors-loop-multiplied
invariant-note_factors-loop-multiplied l = noted l.notes ≡ with_names (noted l.fn.notes) (names_each (both_scopes l.scopes) (map view_multiplied (take l.multiplied-index l.factors)))

abbrev pub invariant-note_fulls-loop-part : goal.invariant-note_fulls-loop-part
invariant-note_fulls-loop-part l = noted l.notes ≡ with_names (noted l.fn.notes) (names_each (both_scopes l.scopes) (map view_full (take l.part-index l.parts)))

abbrev pub invariant-note_args-loop-arg : goal.invariant-note_args-loop-arg
invariant-note_args-loop-arg l = noted l.notes ≡ with_names (noted l.fn.notes) (names_each (both_scopes l.scopes) (map view_arg (take l.arg-index l.args)))
