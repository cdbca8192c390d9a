use Rattle.std.proofs.Common.{map}
use Rattle.name_scope.specs.Seen.{seen_parameter}
use Rattle.name_scope.proofs.Filling.{call_filled}
use Rattle.name_scope.proofs.arguments.are_filled.Goals as goal

pub returns-in-Some-clause-missing : goal.returns-in-Some-clause-missing
returns-in-Some-clause-missing c none = (call_filled (map seen_parameter c.args.params.now) c.args.args.now _ c.in-Some.left c.has_label.ensures.same c.if-has_label.false c.in-Some.ensures.same none).0

pub returns-in-Some-clause-left : goal.returns-in-Some-clause-left
returns-in-Some-clause-left c none = (call_filled (map seen_parameter c.args.params.now) c.args.args.now _ c.in-Some.left c.has_label.ensures.same c.if-has_label.false c.in-Some.ensures.same none).1
