use Rattle.std.proofs.Common.{◌∙◌}
use Rattle.script_grammar.specs.View.{view_part, view_stmt}
use Rattle.name_scope.specs.Noted.{noted}
use Rattle.name_scope.specs.Seen.{in_scope}
use Rattle.name_scope.proofs.Telling.{fault_is, names_are, part_noted}
use Rattle.name_scope.proofs.statements.note_statement.Goals as goal

pub returns-clause-fault : goal.returns-clause-fault
returns-clause-fault c = fault_is (noted c.args.notes.now) (noted c.note_part.new.notes) (in_scope c.args.scope.now) (view_stmt c.args.stmt.now) (c.in_ok-note_part.ensures.noted ∙ part_noted (noted c.args.notes.now) (in_scope c.args.scope.now) (view_part c.args.stmt.now.part) c.args.stmt.now.semicolon) c.requires.clear

pub returns-clause-names : goal.returns-clause-names
returns-clause-names c = names_are (noted c.args.notes.now) (noted c.note_part.new.notes) (in_scope c.args.scope.now) (view_stmt c.args.stmt.now) (c.in_ok-note_part.ensures.noted ∙ part_noted (noted c.args.notes.now) (in_scope c.args.scope.now) (view_part c.args.stmt.now.part) c.args.stmt.now.semicolon) c.requires.clear
