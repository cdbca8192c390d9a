use Rattle.std.proofs.Common.{rules}
use Rattle.script_grammar.proofs.Rows.{tuple_made}
use Rattle.script_grammar.proofs.Wholes.{tuple_whole}
use Rattle.script_grammar.proofs.make.round.Goals as goal

pub returns-in_ok-insert : goal.returns-in_ok-insert
returns-in_ok-insert c = record { made = tuple_made c.args.at c.args.first c.args.rest.items c.insert.new.self (search rules) c.in_ok-insert.ensures.items; whole = λ a h. tuple_whole c.args.at c.args.first c.args.rest.items c.insert.new.self (search rules) c.in_ok-insert.ensures.items a h }
