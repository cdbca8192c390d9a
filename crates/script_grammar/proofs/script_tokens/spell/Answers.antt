use Rattle.std.proofs.Common.{rules, map}
use Rattle.script_grammar.specs.View.{view_stmt}
use Rattle.script_grammar.proofs.Spelled.{each_listed}
use Rattle.script_grammar.proofs.script_tokens.spell.Goals as goal

pub returns : goal.returns
returns c = rw (each_listed (map view_stmt c.args.script.now.statements.items), ← c.deref.ensures.value) (search rules)
