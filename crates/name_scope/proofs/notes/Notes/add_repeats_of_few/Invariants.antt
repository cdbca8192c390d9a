use Rattle.std.proofs.Common.{◌≡◌, drop, take, []}
use Rattle.name_scope.specs.Noted.{all_sooner}
use Rattle.name_scope.proofs.Matching.{param_names, repeats_of}
use Rattle.name_scope.proofs.notes.Notes.add_repeats_of_few.Given as goal

abbrev pub invariant-loop-index : goal.invariant-loop-index
invariant-loop-index l = (all_sooner l.self.fault (repeats_of (param_names (take l.index l.params)) (drop l.index l.params)) ≡ all_sooner l.fn.self.fault (repeats_of [] l.params)) × (l.self.found ≡ l.fn.self.found)
