use Rattle.std.proofs.Common.{◌<◌, ◌∙◌, ap, arith, length, rules, sym}
use Rattle.std.proofs.lemmas.List.{get_or_default}
use Rattle.std.specs.Prelude.{⊤}
use Rattle.buffer_ends.specs.declared.thread_taps.ThreadTaps.{ThreadTaps}
use Rattle.clock_ticks.specs.declared.engine.ClockEngine.{ClockEngine}
use Rattle.clock_threads.specs.declared.task.Task.{Task}
use Rattle.clock_threads.specs.WindowRuns.{end_by}
use Rattle.clock_threads.proofs.UnbufferedEngines.{unbuffered_at, unbuffered_long}
use Rattle.clock_threads.proofs.unbuffered_windows.stopped_among.Goals as goal

pub returns-in-Some-clause-some : goal.returns-in-Some-clause-some
returns-in-Some-clause-some g c =
    let engines = c.args.engines.now in
    let within : c.loop-k.k < length engines = search rules in
    record {
      place = c.loop-k.k;
      within = (let n = unbuffered_long engines in omega (arith, within, n));
      fault = c.in-Some.fault;
      stopped = λ d. ap (λ (t : Task g.row.O.Denot (ThreadTaps ⊤)). t.engine.parts.stopped) (unbuffered_at engines c.loop-k.k d within)
          ∙ ap (λ (e : ClockEngine g.row.O.Denot). e.parts.stopped) (get_or_default engines c.loop-k.k d.engine c.index-engines-k.result within ∙ sym c.index-engines-k.is) ∙ sym c.stopped.ensures ∙ c.in-Some.is;
      lowest = λ k d low. ap (λ (t : Task g.row.O.Denot (ThreadTaps ⊤)). t.engine.parts.stopped) (unbuffered_at engines k d (omega (arith, low, within))) ∙ c.loop-k.invariant k d.engine low;
      end_is = λ d. c.end_of.ensures ∙ ap (λ n. end_by n c.in-Some.fault) c.clock.ensures
          ∙ ap (λ (e : ClockEngine g.row.O.Denot). end_by e.parts.clock c.in-Some.fault) (c.index-engines-k-in-Some.is ∙ get_or_default engines c.loop-k.k c.index-engines-k-in-Some.result d.engine within)
          ∙ ap (λ (t : Task g.row.O.Denot (ThreadTaps ⊤)). end_by t.engine.parts.clock c.in-Some.fault) (sym (unbuffered_at engines c.loop-k.k d within));
    }
