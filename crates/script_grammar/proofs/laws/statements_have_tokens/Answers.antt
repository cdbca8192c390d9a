use Rattle.script_grammar.proofs.Within.{some_token}
use Rattle.script_grammar.proofs.laws.statements_have_tokens.Goals as goal

pub returns : goal.returns
returns c = record { some = some_token }
