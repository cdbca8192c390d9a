use Rattle.std.proofs.Common.{refl}
use Rattle.station_jobs.specs.Words.{made_script}
use Rattle.station_jobs.proofs.making.script_name.Goals as goal

pub returns : goal.returns
unfolding made_script
returns c = refl
