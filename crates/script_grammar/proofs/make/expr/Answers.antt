use Rattle.script_grammar.proofs.Rows.{expr_made}
use Rattle.script_grammar.proofs.Wholes.{expr_whole}
use Rattle.script_grammar.proofs.make.expr.Goals as goal

pub returns : goal.returns
returns c = record { made = expr_made c.args.first c.args.rest; whole = λ a h. expr_whole c.args.first c.args.rest a h }
