use Rattle.std.proofs.lemmas.Result.{err_from_is_err_and}
use Rattle.station_check.proofs.Ending.{clocks_end, gap_ends, length_ends}
use Rattle.station_check.proofs.Findings.{found_fits}
use Rattle.station_check.proofs.check.check_rest.Goals as goal

pub returns-in_err-check_gaps-clause-fault : goal.returns-in_err-check_gaps-clause-fault
returns-in_err-check_gaps-clause-fault c =
    let p = err_from_is_err_and c.from_residual.result c.from_residual.ensures.1 in rw (p.1, p.2)
    (gap_ends c.args.plan.now c.args.ticks _ c.requires.plan c.in_err-check_gaps.ensures.fault)

pub returns-in_err-clocks-clause-fault : goal.returns-in_err-clocks-clause-fault
returns-in_err-clocks-clause-fault c =
    let p = err_from_is_err_and c.from_residual-in_err-clocks.result c.from_residual-in_err-clocks.ensures.1 in rw (p.1, p.2)
    (clocks_end c.args.plan.now c.args.ticks _ c.requires.plan c.in_ok-check_gaps.ensures.safe c.in_err-clocks.ensures.fault)

pub returns-in_err-check_lengths-clause-fault : goal.returns-in_err-check_lengths-clause-fault
returns-in_err-check_lengths-clause-fault c =
    let p = err_from_is_err_and c.from_residual-in_err-check_lengths.result c.from_residual-in_err-check_lengths.ensures.1 in rw (p.1, p.2)
    (length_ends c.args.plan.now c.args.ticks c.in_ok-clocks.clocks _ c.requires.plan c.in_ok-check_gaps.ensures.safe c.in_ok-clocks.ensures.map c.in_err-check_lengths.ensures.fault)

pub returns-clause-found : goal.returns-clause-found
returns-clause-found c = λ files library loaded sounds.
    found_fits files c.args.plan.now c.args.ticks library c.in_ok-clocks.clocks c.requires.plan c.in_ok-check_gaps.ensures.safe c.in_ok-clocks.ensures.map
    c.in_ok-check_lengths.ensures.short loaded sounds
