use Rattle.station_jobs.proofs.Clashing.{found_taken}
use Rattle.station_jobs.proofs.clash.find_trace_clash.Goals as goal

pub returns : goal.returns
returns c =
    rw c.in-Some.is (found_taken c.in_ok-from_str.field-0 c.in-Some.name.now c.is_taken.result _ c.if-not-is_taken.false c.is_taken.ensures c.in_ok-from_str.ensures.copied)
