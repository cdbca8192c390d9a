use Rattle.std.proofs.Common.{◌≡◌, drop}
use Rattle.name_scope.specs.Noted.{all_sooner}
use Rattle.name_scope.proofs.Matching.{extras}
use Rattle.name_scope.proofs.notes.Notes.add_extra.Given as goal

abbrev pub invariant-loop-one : goal.invariant-loop-one
invariant-loop-one l = (all_sooner l.self.fault (extras (drop l.one-index l.given)) ≡ all_sooner l.fn.self.fault (extras l.given)) × (l.self.found ≡ l.fn.self.found)
