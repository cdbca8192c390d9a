use Rattle.std.proofs.Common.{◌≡◌, drop}
use Rattle.expression_types.proofs.Lookups.{terms_from}
use Rattle.expression_types.proofs.environment.var_in.Given as goal

abbrev pub invariant-loop-name : goal.invariant-loop-name
invariant-loop-name l = terms_from l.at (drop l.name-index l.names) ≡ terms_from l.at l.names
