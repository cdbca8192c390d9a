use Rattle.std.proofs.Common.{false}
use Rattle.script_grammar.specs.ReadScript.{value}
use Rattle.parse_base.specs.Gives.{kinds, places}
use Rattle.statement_parse.proofs.Pushed.{by_value}
use Rattle.statement_parse.proofs.statement.bind_stmt_of.Goals as goal

pub returns-clause-gives : goal.returns-clause-gives
returns-clause-gives c =
    let w = kinds c.in_ok-_assign.rest.now in
    by_value c.keep_bind.result c.args.items.now.items c.keep_bind.new.items.items (places c.args.total) c.args.at c.args.name.now c.in_ok-name.name (kinds c.args.tokens.now) w c.in_ok-name.ensures.copied c.in_ok-_assign.ensures.gives
    (c.keep_bind.ensures.gives (value false (places c.args.total) w) c.value.ensures.gives)
