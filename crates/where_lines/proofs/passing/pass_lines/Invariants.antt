use Rattle.std.proofs.Common.{◌≡◌, None}
use Rattle.std.specs.Option.{option_map}
use Rattle.std.specs.Prelude.{IfSome}
use Rattle.where_lines.specs.Kept.{IsKept}
use Rattle.where_lines.proofs.Passed.{PassedTo}
use Rattle.where_lines.proofs.passing.pass_lines.Given as goal

abbrev pub invariant-loop : goal.invariant-loop
invariant-loop g l = record {
  room : (g.O.Sink.told l.out).room ≡ None;
  kept : IfSome (option_map (λ bytes. bytes.now) l.text) (λ script. IsKept script l.kept);
  passed : PassedTo l.file (option_map (λ bytes. bytes.now) l.text) (g.R.Read.remaining l.fn.input) (g.R.Read.remaining l.input) (g.O.Sink.told l.fn.out) (g.O.Sink.told l.out);
}
