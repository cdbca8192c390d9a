use Rattle.script_grammar.proofs.Rows.{pand_made}
use Rattle.script_grammar.proofs.Wholes.{pand_whole}
use Rattle.script_grammar.proofs.make.predicate_term.Goals as goal

pub returns : goal.returns
returns c = record { made = pand_made c.args.first c.args.rest.items c.insert.new.self c.in_ok-insert.ensures.items; whole = λ a h. pand_whole c.args.first c.args.rest.items c.insert.new.self c.in_ok-insert.ensures.items a h }
