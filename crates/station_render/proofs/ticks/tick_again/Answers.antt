use Rattle.std.proofs.Common.{◌≡◌, ◌∙◌, length, ap, subst, sym, vec_len}
use Rattle.clock_infer.proofs.Merging.{written_back}
use Rattle.rounds_run.specs.Rounds.{AreEngines}
use Rattle.trace_records.specs.Traces.{IsAccepted}
use Rattle.station_render.specs.Runs.{setting_by}
use Rattle.station_render.proofs.Gathering.{replay_all, replay_some}
use Rattle.station_render.proofs.Returning.{is_setting}
use Rattle.station_render.proofs.Staging.{ready_at, ticked_at}
use Rattle.station_render.proofs.ticks.tick_again.Goals as goal

pub replay-run-requires-clause-setting : goal.replay-run-requires-clause-setting
replay-run-requires-clause-setting g c = is_setting c.requires.fit c.args.job.now.start.in_week

pub replay-run-requires-clause-accepted : goal.replay-run-requires-clause-accepted
replay-run-requires-clause-accepted g c =
    subst (λ n. IsAccepted (setting_by c.args.job.now) c.args.job.now.ready.clocks.running n c.args.trace.now) (sym c.requires.accepted.ticks) c.requires.accepted

pub replay-run-requires-clause-engines : goal.replay-run-requires-clause-engines
replay-run-requires-clause-engines g c =
    let ready = ready_at c.deref_mut.ensures.value c.requires.ready in
    subst (λ n. AreEngines g.O.Sink.told n (setting_by c.args.job.now) c.deref_mut.result.now) (sym c.requires.accepted.ticks) ready.over.are

pub replay-run-requires-clause-all : goal.replay-run-requires-clause-all
replay-run-requires-clause-all g c = (ready_at c.deref_mut.ensures.value c.requires.ready).all

pub returns : goal.returns
returns g c =
    let some = replay_some c.args.trace.now c.requires.accepted.ticks c.replay-run.ensures.part in
    let len : vec_len c.args.engines ≡ length c.replay-run.new.engines = c.args.engines.ok.0 ∙ ap length (sym c.deref_mut.ensures.value) ∙ sym some.part.size in
    record {
      ticked = ticked_at c.deref_mut.ensures.value (written_back _ c.replay-run.new.engines _ len) (record {
        all = λ done. replay_all c.args.trace.now c.requires.accepted.ticks (c.replay-run.ensures.done done);
        some = some;
      });
    }
