use Rattle.script_grammar.proofs.SteadyScript.{faults_steady}
use Rattle.script_grammar.proofs.laws.faults_are_steady.Goals as goal

pub returns : goal.returns
returns c = record { steady = faults_steady }
