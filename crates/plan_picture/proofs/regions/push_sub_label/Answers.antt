use Rattle.plan_picture.specs.Regions.{sub_label}
use Rattle.plan_picture.proofs.regions.push_sub_label.Goals as goal

pub returns : goal.returns
unfolding sub_label
returns c = c.push_between.ensures
