use Rattle.clock_ticks.proofs.cues.mark_all.Goals as goal

pub returns-clause-kept : goal.returns-clause-kept
returns-clause-kept c = rw c.if-not-cues.false c.mark_lists.ensures.kept
