use Rattle.plan_picture.specs.Regions.{main_front}
use Rattle.plan_picture.proofs.regions.push_main_front.Goals as goal

pub returns : goal.returns
unfolding main_front
returns c = c.push_between.ensures
