use Rattle.std.proofs.lemmas.List.{map_push}
use Rattle.std.proofs.Common.{refl}
use Rattle.script_grammar.specs.View.{view_stmt}
use Rattle.statement_parse.proofs.statement.keep.Goals as goal

pub returns-clause-gives : goal.returns-clause-gives
returns-clause-gives c = rw (c.perhaps-semicolon.ensures.gives, c.push_reserved.ensures.items, map_push view_stmt c.args.items.now.items _) refl
