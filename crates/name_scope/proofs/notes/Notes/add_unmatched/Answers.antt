use Rattle.std.proofs.Common.{map, refl}
use Rattle.name_scope.specs.Seen.{seen_given, seen_parameter}
use Rattle.name_scope.proofs.Matching.{mismatches_done}
use Rattle.name_scope.proofs.notes.Notes.add_unmatched.Goals as goal

pub returns-clause-fault : goal.returns-clause-fault
returns-clause-fault c = mismatches_done _ _ _ c.args.at (map seen_parameter c.args.params.now) (map seen_given c.args.given.now.items) _ _ _ _ refl c.match_arguments-missing.ensures.missing c.match_arguments-missing.ensures.left c.in_ok-add_missing.ensures.fault c.deref-2.ensures c.add_extra.ensures.fault
