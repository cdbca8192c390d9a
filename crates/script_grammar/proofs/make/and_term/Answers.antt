use Rattle.script_grammar.proofs.Rows.{and_made}
use Rattle.script_grammar.proofs.Wholes.{and_whole}
use Rattle.script_grammar.proofs.make.and_term.Goals as goal

pub returns : goal.returns
returns c = record { made = and_made c.args.first c.args.rest; whole = λ a h. and_whole c.args.first c.args.rest a h }
