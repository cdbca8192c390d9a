use Rattle.station_check.proofs.Ending.{loading}
use Rattle.station_check.proofs.files.check_files.Goals as goal

pub returns-in-Err-clause-fault : goal.returns-in-Err-clause-fault
returns-in-Err-clause-fault g c = rw c.halt_of.ensures (loading (g.S.Shelf.told c.args.shelf.now) (g.S.Shelf.told c.try_files.new.shelf) _ _ _ c.in-Err.ensures.fault)

pub returns-in-Ok-clause-can : goal.returns-in-Ok-clause-can
returns-in-Ok-clause-can g c = c.in-Ok.ensures.can
