use Rattle.std.proofs.Common.{◌<◌, ◌∙◌, ap, length, rules, sym}
use Rattle.std.proofs.lemmas.List.{get_or_default}
use Rattle.buffer_ends.specs.declared.thread_taps.ThreadTaps.{ThreadTaps}
use Rattle.clock_threads.specs.declared.task.Task.{Task}
use Rattle.clock_threads.specs.WindowRuns.{end_by}
use Rattle.clock_threads.proofs.windows.stopped_in.Goals as goal

pub returns-in-Some-clause-some : goal.returns-in-Some-clause-some
returns-in-Some-clause-some g c =
    let within : c.loop-k.k < length c.args.tasks.now = search rules in
    record {
      place = c.loop-k.k;
      within = within;
      fault = c.in-Some.fault;
      stopped = λ d. ap (λ (t : Task g.row.O.Denot (ThreadTaps g.row.R.Denot)). t.engine.parts.stopped) (get_or_default c.args.tasks.now c.loop-k.k d _ within) ∙ sym c.stopped.ensures ∙ c.in-Some.is;
      lowest = c.loop-k.invariant;
      end_is = λ d. c.end_of.ensures ∙ ap (λ n. end_by n c.in-Some.fault) c.clock.ensures
          ∙ ap (λ (t : Task g.row.O.Denot (ThreadTaps g.row.R.Denot)). end_by t.engine.parts.clock c.in-Some.fault) (get_or_default c.args.tasks.now c.loop-k.k _ d within);
    }
