use Rattle.script_grammar.proofs.Rows.{sum_made}
use Rattle.script_grammar.proofs.Wholes.{sum_whole}
use Rattle.script_grammar.proofs.make.sum.Goals as goal

pub returns : goal.returns
returns c = record { made = sum_made c.args.first c.args.rest; whole = λ a h. sum_whole c.args.first c.args.rest a h }
