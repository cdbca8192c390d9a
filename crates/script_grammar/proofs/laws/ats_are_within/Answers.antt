use Rattle.script_grammar.proofs.Within.{within}
use Rattle.script_grammar.proofs.laws.ats_are_within.Goals as goal

pub returns : goal.returns
returns c = record { within = λ s i t p. within i t p }
