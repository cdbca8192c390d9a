use Rattle.station_check.proofs.Ending.{loading}
use Rattle.station_check.proofs.files.read_files.Goals as goal

pub returns-in-Err-clause-fault : goal.returns-in-Err-clause-fault
returns-in-Err-clause-fault g c = rw c.halt_of.ensures (loading (g.S.Shelf.told c.args.shelf.now) (g.S.Shelf.told c.find_files.new.shelf) _ _ _ c.in-Err.ensures.fault)

pub returns-in-Ok-clause-loaded : goal.returns-in-Ok-clause-loaded
returns-in-Ok-clause-loaded g c = c.in-Ok.ensures.loaded
