use Rattle.std.proofs.Common.{◌≡◌, ◌+◌, ◌-◌, arith}
use Rattle.liq_base.specs.Entries.{given_entries}
use Rattle.workload_gen.specs.Files.{workload}
use Rattle.station_jobs.specs.Verdicts.{files_made}
use Rattle.station_jobs.proofs.Workloads.{made_of}
use Rattle.station_jobs.proofs.making.workload_shelf.Goals as goal

pub returns : goal.returns
unfolding files_made
returns c =
    let size = c.args.size.files in
    let more : size ≡ size - 1 + 1 = omega (arith, c.args.size.some) in
    made_of (given_entries c.in_ok-files.files.items) (workload c.args.seed (size - 1)) c.new.result c.new.ensures.files (c.in_ok-files.ensures (size - 1) more)
