use Rattle.std.proofs.Common.{◌∙◌}
use Rattle.station_facts.specs.Hours.{week_object}
use Rattle.station_facts.proofs.Each.{alone}
use Rattle.station_facts.proofs.hours.tell_hours.Goals as goal

pub returns : goal.returns
returns c =
    alone c.into_inner.result.items c.new-out.result c.push_week.new.out (week_object c.args.plan.now c.args.ats.now)
    (c.new-out.ensures.before ∙ c.new.ensures.items) c.new-out.ensures.tokens c.in_ok-push_week.ensures c.into_inner.ensures.items
