use Rattle.script_grammar.proofs.Rows.{product_made}
use Rattle.script_grammar.proofs.Wholes.{product_whole}
use Rattle.script_grammar.proofs.make.product.Goals as goal

pub returns : goal.returns
returns c = record { made = product_made c.args.first c.args.rest; whole = λ a h. product_whole c.args.first c.args.rest a h }
