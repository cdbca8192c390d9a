use Rattle.std.proofs.Common.{◌≡◌, drop, take, []}
use Rattle.name_scope.specs.Noted.{all_sooner}
use Rattle.name_scope.specs.Seen.{in_scope}
use Rattle.name_scope.proofs.Matching.{param_names, repeats_of}
use Rattle.name_scope.proofs.Repeating.{AreBound}
use Rattle.name_scope.proofs.notes.Notes.add_repeats_behind.Given as goal

abbrev pub invariant-loop-param : goal.invariant-loop-param
invariant-loop-param l = record {
  fault : all_sooner l.self.fault (repeats_of (param_names (take l.param-index l.params)) (drop l.param-index l.params)) ≡ all_sooner l.fn.self.fault (repeats_of [] l.params);
  found : l.self.found ≡ l.fn.self.found;
  bound : AreBound (in_scope l.earlier) (param_names (take l.param-index l.params));
}
