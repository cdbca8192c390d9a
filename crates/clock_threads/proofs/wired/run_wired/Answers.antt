use Rattle.std.proofs.Common.{◌≡◌, ◌∙◌, List, ap, arith, length, map, sym, subst}
use Rattle.std.proofs.lemmas.List.{with_items_is}
use Rattle.buffer_ends.specs.Local.{Answers}
use Rattle.buffer_ends.specs.declared.thread_taps.ThreadTaps.{ThreadTaps}
use Rattle.clock_threads.specs.declared.task.Task.{Task}
use Rattle.clock_threads.specs.Logs.{AreCollected, counts_in}
use Rattle.clock_threads.specs.EngineTasks.{engine_of}
use Rattle.clock_ticks.specs.declared.engine.ClockEngine.{ClockEngine}
use Rattle.clock_threads.specs.ThreadRuns.{HasRunAll, HasRunSome}
use Rattle.clock_threads.specs.WiredRuns.{AreFresh}
use Rattle.clock_threads.proofs.Idling.{memory_no_write, none_made, some_told}
use Rattle.clock_threads.proofs.Telling.{run_told, written_is}
use Rattle.clock_threads.proofs.wired.run_wired.Goals as goal

pub returns-in_default-clause-part : goal.returns-in_default-clause-part
returns-in_default-clause-part g c = λ setting clocks fresh.
    none_made g.O.Sink.told c.args.plan.now setting clocks c.args.window c.args.ticks c.args.engines.now.items _
    (λ clock sink e. memory_no_write clock sink (sym c.ended.ensures.end ∙ e)) fresh.engines_are

pub returns-in_default-make_queues-clause-part : goal.returns-in_default-make_queues-clause-part
returns-in_default-make_queues-clause-part g c = λ setting clocks fresh.
    none_made g.O.Sink.told c.args.plan.now setting clocks c.args.window c.args.ticks c.args.engines.now.items _
    (λ clock sink e. memory_no_write clock sink (sym c.ended-in_default-make_queues.ensures.end ∙ e)) fresh.engines_are

pub returns-in_default-tasks_of-clause-part : goal.returns-in_default-tasks_of-clause-part
returns-in_default-tasks_of-clause-part g c = λ setting clocks fresh.
    subst (λ (new : List (ClockEngine g.row.O.Denot)). HasRunSome g.O.Sink.told setting clocks c.args.window c.args.ticks c.args.engines.now.items new c.ended-in_default-tasks_of.result.end) (sym c.in_default-tasks_of.ensures.kept)
    (none_made g.O.Sink.told c.args.plan.now setting clocks c.args.window c.args.ticks c.args.engines.now.items c.ended-in_default-tasks_of.result.end
    (λ clock sink e. memory_no_write clock sink (sym c.ended-in_default-tasks_of.ensures.end ∙ e)) fresh.engines_are)

pub returns-clause-done : goal.returns-clause-done
returns-clause-done g c = λ e setting clocks fresh.
    let t = c.told.ensures.done e in
    let old = c.args.engines.now.items in
    let same : map (engine_of {S = g.row.O.Denot} {R = g.row.R.Denot}) c.as_mut_slice.result.now ≡ old = ap (map engine_of) c.as_mut_slice.ensures.value ∙ c.in-Ok-tasks_of.ensures.tasks.engines_are in
    let tasks = c.run_tasks-end.new.tasks in let logs = c.run_tasks-end.new.logs in let after = c.engines_of.new.logs in
    let tasks_long : length tasks ≡ c.in-Ok-tasks_of.tasks.len = (let n = c.as_mut_slice.ensures.len in let m = c.run_tasks-end.ensures.many in omega (arith, n, m)) in
    let tasks_are = with_items_is c.in-Ok-tasks_of.tasks tasks tasks_long in
    let logs_long : length logs ≡ c.in-Ok.logs.len = (let n = c.as_mut_slice-2.ensures.len in let m = c.run_tasks-end.auto.logs in omega (arith, n, m)) in
    let logs_are : c.as_mut_slice-3.result.now ≡ logs = c.as_mut_slice-3.ensures.value ∙ with_items_is c.in-Ok.logs logs logs_long in
    let after_long : length after ≡ c.in-Ok.logs.len = (let n = c.as_mut_slice-3.ensures.len in let m = c.engines_of.auto.logs in omega (arith, n, m)) in
    let collected : AreCollected c.args.wires.now tasks logs after =
    subst (λ (z : List (Task g.row.O.Denot (ThreadTaps g.row.R.Denot)) × List (List Answers)). AreCollected c.args.wires.now z.0 z.1 after) (λ i. (tasks_are i, logs_are i)) c.engines_of.ensures.logs in
    let run = c.run_tasks-end.ensures.done t.0 setting clocks (subst (AreFresh g.O.Sink.told c.args.plan.now c.args.wires.now c.args.ticks setting clocks) (sym same) fresh) in
    subst (HasRunAll g.O.Sink.told setting clocks c.args.window c.args.ticks old c.engines_of.new.engines.items c.told.result.counts.items)
    (sym (t.1 ∙ written_is _ after _ after_long))
    (run_told g.O.Sink.told c.args.wires.now setting clocks c.args.window c.args.ticks old (map engine_of c.as_mut_slice.result.now) c.engines_of.new.engines.items
    tasks logs after c.told.result.counts.items run same collected (c.engines_of.ensures.engines ∙ ap (map engine_of) tasks_are) (t.2 ∙ ap (map counts_in) (written_is _ after _ after_long)))

pub returns-clause-part : goal.returns-clause-part
returns-clause-part g c = λ setting clocks fresh.
    let old = c.args.engines.now.items in
    let same : map (engine_of {S = g.row.O.Denot} {R = g.row.R.Denot}) c.as_mut_slice.result.now ≡ old = ap (map engine_of) c.as_mut_slice.ensures.value ∙ c.in-Ok-tasks_of.ensures.tasks.engines_are in
    let tasks = c.run_tasks-end.new.tasks in
    let tasks_long : length tasks ≡ c.in-Ok-tasks_of.tasks.len = (let n = c.as_mut_slice.ensures.len in let m = c.run_tasks-end.ensures.many in omega (arith, n, m)) in
    let engines : c.engines_of.new.engines.items ≡ map (engine_of {S = g.row.O.Denot} {R = g.row.R.Denot}) tasks =
    c.engines_of.ensures.engines ∙ ap (map engine_of) (with_items_is c.in-Ok-tasks_of.tasks tasks tasks_long) in
    let run = c.run_tasks-end.ensures.part setting clocks (subst (AreFresh g.O.Sink.told c.args.plan.now c.args.wires.now c.args.ticks setting clocks) (sym same) fresh) in
    some_told g.O.Sink.told setting clocks c.args.window c.args.ticks old c.engines_of.new.engines.items c.run_tasks-end.result c.told.result.end c.told.ensures.write
    (subst (λ (z : List (ClockEngine g.row.O.Denot) × List (ClockEngine g.row.O.Denot)). HasRunSome g.O.Sink.told setting clocks c.args.window c.args.ticks z.0 z.1 c.run_tasks-end.result)
    (λ i. (same i, sym engines i)) run)
