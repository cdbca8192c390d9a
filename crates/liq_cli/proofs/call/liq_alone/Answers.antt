use Rattle.std.proofs.Common.{refl}
use Rattle.std.specs.Prelude.{None}
use Rattle.station_jobs.specs.Read.{rendering_read}
use Rattle.station_jobs.specs.Words.{Check, Render, Replay, texts}
use Rattle.liq_cli.proofs.Asking.{asks_one}
use Rattle.liq_cli.proofs.Complete.{completes}
use Rattle.liq_cli.proofs.Ended.{finished, unformed}
use Rattle.liq_cli.proofs.Threading.{read_takes, unread}
use Rattle.liq_cli.proofs.call.liq_alone.Goals as goal
use Rattle.liq_cli.proofs.call.liq_alone.Goals.{in-Check, in-Alone, in-Replay}

pub returns-clause-none : goal.returns-clause-none
returns-clause-none g c = (
  λ at. absurd (cc),
  λ needs.
      let takes = read_takes (texts c.args.words.now) c.in-Some.form c.in-Some.ensures.only needs in
      absurd (elim c.match-form.branch [
        | in-Check w ↦ (rw w.in-Check.is at takes)
        | in-Alone w ↦ (rw w.in-Alone.is at takes)
        | in-Replay w ↦ (rw w.in-Replay.is at takes)
      ]),
)

pub returns-in_default-clause-ends : goal.returns-in_default-clause-ends
returns-in_default-clause-ends g c = unformed (texts c.args.words.now) _ _ c.tell.result (unread (texts c.args.words.now) c.in_default.ensures.only) refl refl c.tell.ensures

pub returns-in_default-clause-complete : goal.returns-in_default-clause-complete
returns-in_default-clause-complete g c = completes _ _ _ _ (returns-in_default-clause-ends g c)

pub returns-clause-ends : goal.returns-clause-ends
returns-clause-ends g c =
    let asks = asks_one _ c.in-Some.form c.in-Some.ensures.found c.in-Some.ensures.only in
    elim c.match-form.branch [
      | in-Check w ↦ rw w.shelf-is (finished (texts c.args.words.now) _ _ (Check w.in-Check.file.now) (rw w.in-Check.is at asks)
          w.check_job-job.result c.finish.result w.check_job-job.ensures (rw w.job-is at c.finish.ensures))
      | in-Alone w ↦ rw w.shelf-is (finished (texts c.args.words.now) _ _ (Render (rendering_read w.in-Alone.asked) None) (rw w.in-Alone.is at asks)
          w.alone_job-job.result c.finish.result w.alone_job-job.ensures (rw w.job-is at c.finish.ensures))
      | in-Replay w ↦ rw w.shelf-is (finished (texts c.args.words.now) _ _ (Replay w.in-Replay.file.now w.in-Replay.start.second w.in-Replay.ticks.count w.in-Replay.trace.now) (rw w.in-Replay.is at asks)
          w.replay_job-job.result c.finish.result w.replay_job-job.ensures (rw w.job-is at c.finish.ensures))
    ]

pub returns-clause-complete : goal.returns-clause-complete
returns-clause-complete g c = completes _ _ _ _ (returns-clause-ends g c)
