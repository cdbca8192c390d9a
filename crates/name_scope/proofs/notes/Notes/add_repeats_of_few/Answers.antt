use Rattle.std.proofs.Common.{◌∙◌, sym, ap, [], take}
use Rattle.std.proofs.lemmas.List.{at_drop_all}
use Rattle.name_scope.specs.Noted.{all_sooner}
use Rattle.name_scope.proofs.Matching.{param_names, repeats_of, repeats_listed}
use Rattle.name_scope.proofs.notes.Notes.add_repeats_of_few.Goals as goal

pub returns-clause-fault : goal.returns-clause-fault
returns-clause-fault c = sym (at_drop_all (λ l. all_sooner c.loop-index.self.fault (repeats_of (param_names (take c.loop-index.index c.args.params.now)) l)) c.args.params.now c.loop-index.index c.loop-index-test.false) ∙ c.loop-index.invariant.0 ∙ ap (all_sooner c.args.self.now.fault) (repeats_listed [] c.args.params.now)
