use Rattle.trace_turns.proofs.find.find_live.Goals as goal
use Rattle.trace_turns.proofs.find.find_live.Goals.{in-Err, in-Ok}

pub returns-clause-fit : goal.returns-clause-fit
returns-clause-fit c = elim c.match-make_clocks.branch [
  | in-Ok w ↦ rw (w.found-is, w.taps-is) w.pass_on-found.ensures.fit
  | in-Err w ↦ rw w.found-is tt
]
