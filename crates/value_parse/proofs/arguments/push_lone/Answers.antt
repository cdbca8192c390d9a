use Rattle.std.proofs.Common.{◌∙◌, ap}
use Rattle.std.proofs.lemmas.List.Elements.{All-push}
use Rattle.script_grammar.specs.Tree.{Arg as an_argument}
use Rattle.script_grammar.specs.Whole.{IsWholeArg}
use Rattle.value_parse.proofs.arguments.push_lone.Goals as goal

pub returns-clause-pushed : goal.returns-clause-pushed
returns-clause-pushed c = (c.argument.result, c.push_reserved.ensures.items, c.argument.ensures.made ∙ ap (an_argument c.args.at c.args.label) c.lone.ensures.made)

pub returns-clause-whole : goal.returns-clause-whole
returns-clause-whole c = λ operand items. rw c.push_reserved.ensures.items (All-push IsWholeArg c.args.items.now.items c.argument.result items (c.argument.ensures.whole (c.lone.ensures.whole operand)))
