use Rattle.std.proofs.Common.{refl}
use Rattle.std.specs.Prelude.{None, Some}
use Rattle.liq_base.specs.Files.{Files}
use Rattle.liq_cli.specs.Call.{over, outside_of, sure_of}
use Rattle.station_jobs.specs.Read.{asked_of, rendering_read}
use Rattle.station_jobs.specs.Words.{Check, Make, Render, Replay, texts}
use Rattle.liq_cli.proofs.Asking.{asks_one}
use Rattle.liq_cli.proofs.Complete.{completes}
use Rattle.liq_cli.proofs.Ended.{finished, unformed}
use Rattle.liq_cli.proofs.Threading.{read_makes, unread}
use Rattle.liq_cli.proofs.call.liq.Goals as goal
use Rattle.liq_cli.proofs.call.liq.Goals.{in-Check, in-Alone, in-Threads, in-Make, in-Replay}

pub returns-in_default-clause-ends : goal.returns-in_default-clause-ends
returns-in_default-clause-ends g c = unformed (texts c.args.words.now) _ _ c.tell.result (unread (texts c.args.words.now) c.in_default.ensures.only) refl refl c.tell.ensures

pub returns-in_default-clause-complete : goal.returns-in_default-clause-complete
returns-in_default-clause-complete g c = completes _ _ _ _ (returns-in_default-clause-ends g c)

pub returns-in_default-clause-made : goal.returns-in_default-clause-made
returns-in_default-clause-made g c = λ asks. absurd (unread (texts c.args.words.now) c.in_default.ensures.only (Make asks.seed asks.size) asks.is_asked)

pub returns-clause-ends : goal.returns-clause-ends
returns-clause-ends g c =
    let asks = asks_one _ c.in-Some.form c.in-Some.ensures.found c.in-Some.ensures.only in
    elim c.match-form.branch [
      | in-Check w ↦ rw w.shelf-is (finished (texts c.args.words.now) _ _ (Check w.in-Check.file.now) (rw w.in-Check.is at asks)
          w.check_job-job.result c.finish.result w.check_job-job.ensures (rw w.job-is at c.finish.ensures))
      | in-Alone w ↦ rw w.shelf-is (finished (texts c.args.words.now) _ _ (Render (rendering_read w.in-Alone.asked) None) (rw w.in-Alone.is at asks)
          w.alone_job-job.result c.finish.result w.alone_job-job.ensures (rw w.job-is at c.finish.ensures))
      | in-Threads w ↦ rw w.shelf-is (finished (texts c.args.words.now) _ _ (Render (rendering_read w.in-Threads.asked) (Some w.in-Threads.window.ticks)) (rw w.in-Threads.is at asks)
          w.threads_job-job.result c.finish.result w.threads_job-job.ensures (rw w.job-is at c.finish.ensures))
      | in-Make w ↦ rw w.shelf-is (finished (texts c.args.words.now) _ _ (Make w.in-Make.seed w.in-Make.size.files) (rw w.in-Make.is at asks)
          w.make_job-job.result c.finish.result (w.make_job-job.ensures (g.S.Shelf.told c.args.shelf.now)) (rw w.job-is at c.finish.ensures))
      | in-Replay w ↦ rw w.shelf-is (finished (texts c.args.words.now) _ _ (Replay w.in-Replay.file.now w.in-Replay.start.second w.in-Replay.ticks.count w.in-Replay.trace.now) (rw w.in-Replay.is at asks)
          w.replay_job-job.result c.finish.result w.replay_job-job.ensures (rw w.job-is at c.finish.ensures))
    ]

pub returns-clause-complete : goal.returns-clause-complete
returns-clause-complete g c = completes _ _ _ _ (returns-clause-ends g c)

pub returns-clause-made : goal.returns-clause-made
returns-clause-made g c = λ asks_to.
    let asks = asks_one _ c.in-Some.form c.in-Some.ensures.found c.in-Some.ensures.only in
    let makes = read_makes (texts c.args.words.now) (asked_of c.in-Some.form) asks asks_to in
    let told = g.S.Shelf.told c.args.shelf.now in
    elim c.match-form.branch [
      | in-Check w ↦ absurd (rw w.in-Check.is at makes)
      | in-Alone w ↦ absurd (rw w.in-Alone.is at makes)
      | in-Threads w ↦ absurd (rw w.in-Threads.is at makes)
      | in-Make w ↦ rw w.shelf-is (
          let ends = λ (files : Files).
          finished (texts c.args.words.now) (over files (outside_of told (g.O.Sink.told c.args.out.now) (g.E.Sink.told c.args.err.now)))
          (over files (outside_of told (g.O.Sink.told c.finish.new.out) (g.E.Sink.told c.finish.new.err)))
          (Make w.in-Make.seed w.in-Make.size.files) (rw w.in-Make.is at asks) w.make_job-job.result c.finish.result
          (w.make_job-job.ensures (sure_of files told)) (rw w.job-is at c.finish.ensures) in
          record { ends = ends; complete = λ files. completes _ _ _ _ (ends files) })
      | in-Replay w ↦ absurd (rw w.in-Replay.is at makes)
    ]

pub returns-clause-untouched : goal.returns-clause-untouched
returns-clause-untouched g c = λ asks_to.
    let asks = asks_one _ c.in-Some.form c.in-Some.ensures.found c.in-Some.ensures.only in
    let makes = read_makes (texts c.args.words.now) (asked_of c.in-Some.form) asks asks_to in
    elim c.match-form.branch [
      | in-Check w ↦ absurd (rw w.in-Check.is at makes)
      | in-Alone w ↦ absurd (rw w.in-Alone.is at makes)
      | in-Threads w ↦ absurd (rw w.in-Threads.is at makes)
      | in-Make w ↦ w.shelf-is
      | in-Replay w ↦ absurd (rw w.in-Replay.is at makes)
    ]
