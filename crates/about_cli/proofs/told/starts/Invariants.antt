use Rattle.std.proofs.Common.{◌≡◌, ◌++◌, drop}
use Rattle.std.specs.Prelude.{map}
use Rattle.script_places.specs.Starts.{start}
use Rattle.about_cli.proofs.told.starts.Given as goal

abbrev pub invariant-loop-number : goal.invariant-loop-number
invariant-loop-number l = l.ats.items ++ map (start l.total l.tokens) (drop l.number-index l.numbers) ≡ map (start l.total l.tokens) l.numbers
