use Rattle.script_grammar.proofs.Rows.{por_made}
use Rattle.script_grammar.proofs.Wholes.{por_whole}
use Rattle.script_grammar.proofs.make.predicate.Goals as goal

pub returns : goal.returns
returns c = record { made = por_made c.args.first c.args.rest.items c.insert.new.self c.in_ok-insert.ensures.items; whole = λ a h. por_whole c.args.first c.args.rest.items c.insert.new.self c.in_ok-insert.ensures.items a h }
