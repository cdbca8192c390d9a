use Rattle.script_grammar.proofs.Rows.{call_made}
use Rattle.script_grammar.proofs.Wholes.{call_whole}
use Rattle.script_grammar.proofs.make.call.Goals as goal

pub returns : goal.returns
returns c = record { made = call_made c.args.at c.args.name c.args.args; whole = λ h. call_whole c.args.at c.args.name c.args.args h }
