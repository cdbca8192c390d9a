use Rattle.std.proofs.Common.{arith}
use Rattle.station_facts.specs.Hours.{hours_object}
use Rattle.week_windows.specs.Windows.{spans_in}
use Rattle.station_facts.proofs.Each.{adds_same, goes_last}
use Rattle.station_facts.proofs.Switches.{each_map}
use Rattle.station_facts.proofs.hours.push_each_case.Goals as goal

pub returns : goal.returns
returns c =
    adds_same (goes_last (λ spans. hours_object c.args.most (spans_in spans)) c.args.cases.now c.loop-spans.spans-index c.args.out.now c.loop-spans.out
    (omega (arith, c.loop-spans-test.false)) c.loop-spans.invariant) (each_map (hours_object c.args.most) spans_in c.args.cases.now)
