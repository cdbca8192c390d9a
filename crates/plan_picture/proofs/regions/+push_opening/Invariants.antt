use Rattle.plan_picture.proofs.regions.+push_opening.Given as goal

abbrev pub decreases-push_opening : goal.decreases-push_opening
decreases-push_opening l = l.levels
