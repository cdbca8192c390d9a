use Rattle.std.proofs.Common.{◌∙◌, ℕ, List, ap}
use Rattle.plan_core.specs.declared.node.Node.{Node}
use Rattle.station_facts.specs.Hours.{most_spans, switches_object}
use Rattle.station_facts.proofs.Each.{adds_same}
use Rattle.station_facts.proofs.hours.push_week.Goals as goal

pub returns : goal.returns
returns c =
    adds_same c.in_ok-push_switches.ensures
    (ap (λ (m : ℕ). switches_object m c.as_slice-nodes.result.now c.args.ats.now) c.most_spans.ensures
    ∙ ap (λ (n : List Node). switches_object (most_spans n) n c.args.ats.now) c.as_slice-nodes.ensures)
