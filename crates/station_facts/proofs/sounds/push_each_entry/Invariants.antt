use Rattle.std.proofs.Common.{[], ◌∷◌}
use Rattle.json.specs.Token.{string}
use Rattle.station_facts.proofs.Each.{Goes}
use Rattle.station_facts.proofs.sounds.push_each_entry.Given as goal

abbrev pub invariant-loop-name : goal.invariant-loop-name
invariant-loop-name l = Goes (λ name. string name ∷ []) l.names l.name-index l.fn.out l.out
