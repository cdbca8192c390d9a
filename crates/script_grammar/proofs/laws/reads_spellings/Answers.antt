use Rattle.script_grammar.proofs.SoundScript.{script_found, script_begun}
use Rattle.script_grammar.proofs.laws.reads_spellings.Goals as goal

pub returns : goal.returns
returns c = record { found = script_found; begun = script_begun }
