use Rattle.std.proofs.Common.{map}
use Rattle.script_grammar.specs.View.{listed, view_expr, view_inner}
use Rattle.name_scope.specs.Noted.{noted}
use Rattle.name_scope.specs.Seen.{in_scope}
use Rattle.name_scope.proofs.Bindings.{def_done}
use Rattle.name_scope.proofs.statements.note_def_in.Goals as goal

pub returns : goal.returns
returns c = record { noted = def_done c.args.def.now.at c.args.def.now.name c.args.def.now.params.items c.deref.result.now c.args.def.now.equals (listed (map view_inner c.args.def.now.inner.items)) (view_expr c.args.def.now.result) (in_scope c.args.inner.now) (in_scope c.args.outer.now) (noted c.args.notes.now) (noted c.note_defaults.new.notes) (noted c.note_body.new.notes) c.deref.ensures.value c.requires.empty c.in_ok-note_defaults.ensures.noted c.in_ok-note_body.ensures.noted }
