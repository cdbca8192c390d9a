use Rattle.std.proofs.lemmas.Result.{err_from_is_err_and}
use Rattle.station_check.proofs.Ending.{load_ends, rest_fails, rest_fits}
use Rattle.station_check.proofs.check.check_clocks.Goals as goal

pub returns-in_err-check_files-clause-fault : goal.returns-in_err-check_files-clause-fault
returns-in_err-check_files-clause-fault g c =
    let p = err_from_is_err_and c.from_residual.result c.from_residual.ensures.1 in rw (p.1, p.2)
    (load_ends (g.S.Shelf.told c.args.shelf.now) (g.S.Shelf.told c.check_files.new.shelf) _ c.args.ticks _ c.in_err-check_files.ensures.fault)

pub returns-clause-found : goal.returns-clause-found
returns-clause-found g c = rest_fits _ _ _ _ c.in_ok-check_files.ensures.can c.check_rest.ensures.found

pub returns-clause-fault : goal.returns-clause-fault
returns-clause-fault g c = rest_fails (g.S.Shelf.told c.args.shelf.now) (g.S.Shelf.told c.check_files.new.shelf) _ _ _ c.in_ok-check_files.ensures.can c.check_rest.ensures.fault
