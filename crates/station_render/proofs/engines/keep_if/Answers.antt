use Rattle.rounds_run.specs.Rounds.{nothing}
use Rattle.station_render.proofs.engines.keep_if.Goals as goal

pub returns-then-wanted-clause-stands : goal.returns-then-wanted-clause-stands
returns-then-wanted-clause-stands g c = c.keep_cues.ensures.stands 0 nothing c.requires
