use Rattle.std.proofs.Common.{◌∙◌, ◌++◌, ◌∷◌, [], ap}
use Rattle.script_grammar.specs.View.{view_full}
use Rattle.parse_base.specs.Gives.{kinds}
use Rattle.value_parse.proofs.Pushed.{pushes_argument}
use Rattle.value_parse.proofs.arguments.push_arg.Goals as goal

pub returns-clause-gives : goal.returns-clause-gives
returns-clause-gives c = λ r is. pushes_argument c.args.at c.args.label c.argument.result (view_full c.in_ok-value.value) (kinds c.in_ok-value.rest.now) r c.args.items.now.items c.push_reserved.new.self.items c.argument.ensures.made (c.push_reserved.ensures.items ∙ ap (λ l. l ++ c.argument.result ∷ []) c.in_ok-reserve.ensures.items) (rw c.in_ok-value.was at is)
