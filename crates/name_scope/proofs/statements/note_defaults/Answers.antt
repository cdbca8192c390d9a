use Rattle.std.proofs.Common.{◌∙◌, ap, map}
use Rattle.std.proofs.lemmas.List.{take_all}
use Rattle.script_grammar.specs.View.{view_param}
use Rattle.name_scope.specs.Noted.{names_each, noted, with_names}
use Rattle.name_scope.specs.Seen.{both_scopes}
use Rattle.name_scope.proofs.Rows.{each_next}
use Rattle.name_scope.proofs.statements.note_defaults.Goals as goal

pub loop-param-preserved : goal.loop-param-preserved
loop-param-preserved c = each_next (both_scopes c.args.scopes) view_param c.args.params.now c.loop-param.param-index c.param-item.result _ _ _ c.loop-param-test.true c.param-item.is c.loop-param.invariant c.in_ok-note_default.ensures.noted

pub returns : goal.returns
returns c = record { noted = c.loop-param.invariant ∙ ap (λ l. with_names (noted c.args.notes.now) (names_each (both_scopes c.args.scopes) (map view_param l))) (take_all c.loop-param.param-index c.args.params.now c.loop-param-test.false) }
