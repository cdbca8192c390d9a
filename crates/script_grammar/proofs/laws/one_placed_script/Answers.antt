use Rattle.script_grammar.proofs.Settled.{one_placed_script}
use Rattle.script_grammar.proofs.laws.one_placed_script.Goals as goal

pub returns : goal.returns
returns c = record { one = one_placed_script }
