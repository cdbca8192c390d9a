use Rattle.script_grammar.proofs.Rows.{list_made}
use Rattle.script_grammar.proofs.Wholes.{list_whole}
use Rattle.script_grammar.proofs.make.list.Goals as goal

pub returns : goal.returns
returns c = record { made = list_made c.args.at c.args.parts; whole = λ h. list_whole c.args.at c.args.parts h }
