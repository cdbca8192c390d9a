use Rattle.std.proofs.Common.{◌++◌}
use Rattle.script_grammar.specs.View.{view_expr}
use Rattle.name_scope.specs.Noted.{noted}
use Rattle.name_scope.specs.Seen.{in_scope}
use Rattle.name_scope.proofs.Bindings.{body_done}
use Rattle.name_scope.proofs.statements.note_body.Goals as goal

pub returns : goal.returns
returns c = record { noted = body_done c.args.def.now.params.items c.deref.result.now c.args.def.now.inner.items c.deref-2.result.now (view_expr c.args.def.now.result) (in_scope c.args.inner.now) (in_scope c.bind_params.new.inner) (in_scope c.note_inners.new.inner ++ in_scope c.args.outer.now) (in_scope c.args.outer.now) (noted c.args.notes.now) (noted c.note_inners.new.notes) (noted c.note_expr.new.notes) c.deref.ensures.value c.deref-2.ensures.value c.in_ok-bind_params.ensures.bound c.in_ok-note_inners.ensures.bound c.in_ok-note_inners.ensures.noted c.in_ok-note_expr.ensures }
