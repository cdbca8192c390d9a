use Rattle.std.proofs.Common.{◌≡◌, sym, subst}
use Rattle.std.proofs.lemmas.Result.{err_from_is_err_and}
use Rattle.frame_core.specs.Library.{Sounds}
use Rattle.stations.specs.Findings.{Fits, IsFit, IsFound}
use Rattle.station_check.proofs.Ending.{load_ends, rest_ends}
use Rattle.station_check.proofs.check.check_plan.Goals as goal

pub returns-in_err-files-clause-fault : goal.returns-in_err-files-clause-fault
returns-in_err-files-clause-fault g c =
    let p = err_from_is_err_and c.from_residual.result c.from_residual.ensures.1 in rw (p.1, p.2)
    (load_ends (g.S.Shelf.told c.args.shelf.now) (g.S.Shelf.told c.read_files.new.shelf) _ c.args.ticks _ c.in_err-files.ensures.fault)

pub returns-in_err-clocks-clause-fault : goal.returns-in_err-clocks-clause-fault
returns-in_err-clocks-clause-fault g c =
    let p = err_from_is_err_and c.from_residual-in_err-clocks.result c.from_residual-in_err-clocks.ensures.1 in rw (p.1, p.2)
    (rest_ends (g.S.Shelf.told c.args.shelf.now) (g.S.Shelf.told c.read_files.new.shelf) c.args.plan.now c.args.ticks c.in_ok-files.files _ c.in_ok-files.ensures.loaded.loaded c.in_err-clocks.ensures.fault)

pub returns-clause-found : goal.returns-clause-found
returns-clause-found g c = λ files told.
    let same : c.in_ok-library.library ≡ c.in_ok-files.files = c.in_ok-library.ensures.library in
    subst (λ (l : Sounds). IsFound files c.args.plan.now c.args.ticks (Fits l c.in_ok-clocks.clocks)) (sym same)
    (c.in_ok-clocks.ensures.found files c.in_ok-files.files (c.in_ok-files.ensures.loaded.loaded files told) c.in_ok-files.ensures.loaded.sounds)

pub returns-clause-fit : goal.returns-clause-fit
returns-clause-fit g c =
    let same : c.in_ok-library.library ≡ c.in_ok-files.files = c.in_ok-library.ensures.library in
    subst (λ (l : Sounds). IsFit c.args.plan.now l c.in_ok-clocks.clocks c.args.ticks) (sym same) (record {
      plan_is = c.requires.plan;
      sounds = c.in_ok-files.ensures.loaded.sounds;
      leaves = c.in_ok-files.ensures.loaded.leaves;
      singles = c.in_ok-files.ensures.loaded.singles;
      map = c.in_ok-clocks.ensures.map.map;
      few = c.requires.few;
      none = c.in_ok-clocks.ensures.short;
    })
