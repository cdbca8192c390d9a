use Rattle.std.proofs.Common.{◌≡◌, ◌<◌, ◌≤◌, ◌++◌, ◌∷◌, [], List, rules, refl, arith, length, length-set, subst, ◌∙◌}
use Rattle.std.proofs.lemmas.List.{get_or_default}
use Rattle.buffer_ends.specs.Local.{Answers}
use Rattle.clock_threads.specs.Wires.{wire_at}
use Rattle.clock_threads.proofs.Closing.{closing_none, closing_skip, closing_more, ends_there, log_is}
use Rattle.clock_threads.proofs.Logging.{logging_none, logging_skip, logging_more, all_closed, all_shut, closing_engines, on_well, well_then}
use Rattle.clock_threads.proofs.borders.close_joins.Goals as goal

pub loop-b-init : goal.loop-b-init
loop-b-init g c = record { tasks = closing_none c.args.wires.now c.args.tasks.now; many = refl; logs = logging_none c.args.wires.now c.args.tasks.now c.args.logs.now }

pub close_join-window-requires-clause-ends : goal.close_join-window-requires-clause-ends
close_join-window-requires-clause-ends g c =
    let less : c.loop-b.b < length c.args.wires.now = search rules in
    let r = c.requires.may.ran c.loop-b.b less (search rules) in
    ends_there (wire_at c.args.wires.now c.loop-b.b) c.loop-b.b r.0 r.1 c.loop-b.tasks (c.loop-b.invariant.tasks.todo c.loop-b.b r.0 r.1 (omega arith) r.2)

pub loop-b-preserved-then-wire : goal.loop-b-preserved-then-wire
loop-b-preserved-then-wire g c = record {
  tasks = closing_skip c.args.wires.now c.loop-b.b c.args.tasks.now c.loop-b.tasks (search rules) c.loop-b.invariant.tasks;
  many = c.loop-b.invariant.many;
  logs = on_well c.loop-b.kept c.loop-b.invariant.logs (logging_skip c.args.wires.now c.loop-b.b c.args.tasks.now c.args.logs.now c.loop-b.logs (search rules));
}

pub loop-b-preserved : goal.loop-b-preserved
loop-b-preserved g c =
    let less : c.loop-b.b < length c.args.wires.now = search rules in
    let many = c.loop-b.invariant.tasks.tasks.many in let p = c.requires.may.places c.loop-b.b less in
    let wire = wire_at c.args.wires.now c.loop-b.b in
    let in_logs : c.loop-b.b < length c.args.logs.now = (let n = c.requires.logs in omega (arith, less, n)) in
    let here : c.loop-b.b < length c.loop-b.logs = (let n = c.loop-b.invariant.many in omega (arith, in_logs, n)) in
    record {
      tasks = closing_more c.args.wires.now c.loop-b.b c.args.tasks.now c.loop-b.tasks c.close_join-window.new.tasks c.close_join-window.result (omega (arith, p.0, many)) (omega (arith, p.1, many)) (search rules)
          c.loop-b.invariant.tasks c.close_join-window.ensures;
      many = length-set c.loop-b.logs c.loop-b.b c.add_window-kept.new.log ∙ c.loop-b.invariant.many;
      logs = well_then c.add_window-kept.result c.loop-b.kept c.add_window-kept.ensures c.loop-b.invariant.logs (λ added before.
          logging_more c.args.wires.now c.loop-b.b c.args.tasks.now c.args.logs.now c.loop-b.logs c.add_window-kept.new.log c.close_join-window.result in_logs
          (λ put take r. log_is wire.from wire.to c.loop-b.b c.loop-b.tasks c.close_join-window.new.tasks c.close_join-window.result (omega (arith, p.0, many)) (omega (arith, p.1, many)) (search rules) c.close_join-window.ensures
          wire put take refl refl (c.loop-b.invariant.tasks.todo c.loop-b.b put take (omega arith) r))
          (λ d. subst (λ (x : List Answers). c.add_window-kept.new.log ≡ x ++ c.close_join-window.result ∷ []) (get_or_default c.loop-b.logs c.loop-b.b c.index-logs-b.result d here) added)
          before);
    }

pub returns-clause-shut : goal.returns-clause-shut
returns-clause-shut g c =
    let high : length c.args.wires.now ≤ c.loop-b.b = search rules in
    all_shut c.args.wires.now c.loop-b.b c.args.tasks.now c.loop-b.tasks high c.loop-b.invariant.tasks

pub returns-clause-closed : goal.returns-clause-closed
returns-clause-closed g c =
    let high : length c.args.wires.now ≤ c.loop-b.b = search rules in
    on_well c.loop-b.kept c.loop-b.invariant.logs (all_closed c.args.wires.now c.loop-b.b c.args.tasks.now c.loop-b.tasks c.args.logs.now c.loop-b.logs high c.loop-b.invariant.tasks)

pub returns-clause-engines : goal.returns-clause-engines
returns-clause-engines g c = closing_engines c.args.wires.now c.loop-b.b c.args.tasks.now c.loop-b.tasks c.loop-b.invariant.tasks
