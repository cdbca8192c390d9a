use Rattle.station_render.proofs.Gathering.{threads_all, threads_some}
use Rattle.station_render.proofs.Staging.{ready_by_threads}
use Rattle.station_render.proofs.ticks.tick_by_threads.Goals as goal

pub run_threads-requires-clause-engines : goal.run_threads-requires-clause-engines
run_threads-requires-clause-engines g c =
    λ κs lives. record { setting = _; are = ready_by_threads c.requires.fit c.requires.ready c.args.job.now.start.in_week }

pub returns : goal.returns
returns g c =
    let are = ready_by_threads c.requires.fit c.requires.ready c.args.job.now.start.in_week in
    record {
      ticked = record {
        all = λ done. threads_all c.requires.ready.at (c.run_threads.ensures.done done _ are);
        some = threads_some c.requires.ready.at (c.run_threads.ensures.part _ are);
      };
    }
