use Rattle.script_grammar.proofs.ScriptRead.{one_script}
use Rattle.script_grammar.proofs.laws.one_script.Goals as goal

pub returns : goal.returns
returns c = record { one = one_script }
