use Rattle.std.proofs.Common.{map}
use Rattle.name_scope.specs.Seen.{left_of, seen_label, seen_parameter}
use Rattle.name_scope.proofs.Extras.{many_done}
use Rattle.name_scope.proofs.notes.Notes.add_by_labels.Goals as goal

pub returns-clause-fault : goal.returns-clause-fault
returns-clause-fault c =
    many_done c.args.self.now.fault c.add_missing.new.self.fault c.add_left.new.self.fault c.args.at (map seen_parameter c.args.params.now) c.args.given.now (left_of c.args.labels.now) (left_of c.match_labels.new.labels) (seen_label c.in_ok-missing.missing)
    c.requires.all c.in_ok-missing.ensures.missing c.in_ok-missing.ensures.left c.in_ok-add_missing.ensures.fault c.add_left.ensures.fault
