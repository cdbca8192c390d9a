use Rattle.std.proofs.Common.{◌≡◌, ◌∙◌, length, ap, sym, vec_len}
use Rattle.clock_infer.proofs.Merging.{written_back}
use Rattle.station_render.proofs.Gathering.{rounds_all, rounds_some}
use Rattle.station_render.proofs.Staging.{ready_at, ticked_at}
use Rattle.station_render.proofs.ticks.tick_in_rounds.Goals as goal

pub run_rounds-run-requires-clause-engines : goal.run_rounds-run-requires-clause-engines
run_rounds-run-requires-clause-engines g c = (_, (ready_at c.deref_mut.ensures.value c.requires.ready).over)

pub returns : goal.returns
returns g c =
    let ready = ready_at c.deref_mut.ensures.value c.requires.ready in
    let some = rounds_some ready.all (c.run_rounds-run.ensures.part _ ready.over) in
    let len : vec_len c.args.engines ≡ length c.run_rounds-run.new.engines = c.args.engines.ok.0 ∙ ap length (sym c.deref_mut.ensures.value) ∙ sym some.part.size in
    record {
      ticked = ticked_at c.deref_mut.ensures.value (written_back _ c.run_rounds-run.new.engines _ len) (record {
        all = λ done. rounds_all ready.all (c.run_rounds-run.ensures.done done _ ready.over);
        some = some;
      });
    }
