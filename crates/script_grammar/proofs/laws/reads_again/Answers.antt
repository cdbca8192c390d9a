use Rattle.script_grammar.proofs.ScriptRead.{script_again}
use Rattle.script_grammar.proofs.laws.reads_again.Goals as goal

pub returns : goal.returns
returns c = record { again = script_again }
