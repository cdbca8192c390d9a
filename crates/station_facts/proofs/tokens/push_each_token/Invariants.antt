use Rattle.station_facts.specs.Tokens.{token_array}
use Rattle.station_facts.proofs.Each.{Goes}
use Rattle.station_facts.proofs.tokens.push_each_token.Given as goal

abbrev pub invariant-loop-token : goal.invariant-loop-token
invariant-loop-token l = Goes token_array l.tokens l.token-index l.fn.out l.out
