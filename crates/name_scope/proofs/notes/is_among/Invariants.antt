use Rattle.std.proofs.Common.{◌≡◌, drop}
use Rattle.name_scope.proofs.Searches.{in_params}
use Rattle.name_scope.proofs.notes.is_among.Given as goal

abbrev pub invariant-loop-param : goal.invariant-loop-param
invariant-loop-param l = in_params l.name (drop l.param-index l.params) ≡ in_params l.name l.params
