use Rattle.plan_picture.proofs.regions.+push_closing.Given as goal

abbrev pub decreases-push_closing : goal.decreases-push_closing
decreases-push_closing l = l.levels
