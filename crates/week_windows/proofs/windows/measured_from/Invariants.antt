use Rattle.std.proofs.Common.{◌≡◌, drop}
use Rattle.std.specs.Prelude.{map}
use Rattle.week_windows.specs.Windows.{greatest, least, seconds_of}
use Rattle.week_windows.proofs.windows.measured_from.Given as goal

abbrev pub invariant-loop-span : goal.invariant-loop-span
invariant-loop-span l = record {
  shortest : least l.shortest (map (seconds_of l.more) (drop l.span-index l.rest)) ≡ least (seconds_of l.more l.fn.first) (map (seconds_of l.more) l.rest);
  longest : greatest l.longest (map (seconds_of l.more) (drop l.span-index l.rest)) ≡ greatest (seconds_of l.more l.fn.first) (map (seconds_of l.more) l.rest);
}
