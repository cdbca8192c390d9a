use Rattle.std.proofs.Common.{◌≡◌, ◌<◌, rules, subst, length, arith}
use Rattle.std.proofs.lemmas.List.{get_or_default}
use Rattle.clock_threads.specs.declared.task.Task.{Task}
use Rattle.buffer_ends.specs.Local.{empty_buffer}
use Rattle.buffer_ends.specs.declared.thread_taps.ThreadTaps.{ThreadTaps}
use Rattle.clock_threads.specs.Wires.{wire_at}
use Rattle.clock_threads.specs.Records.{ListClosed}
use Rattle.clock_threads.proofs.Ended.{ended_none, ended_skip, ended_more, ended_engines, ended_all, ended_same}
use Rattle.clock_threads.proofs.borders.close_lists.Goals as goal

pub loop-b-init : goal.loop-b-init
loop-b-init g c = ended_none c.args.wires.now c.args.tasks.now

pub loop-b-preserved : goal.loop-b-preserved
loop-b-preserved g c =
    let wires = c.args.wires.now in let b = c.loop-b.b in let k = (wire_at wires b).from in let u = c.loop-b.invariant in
    let less : b < length wires = search rules in
    let own : k ≡ (wire_at wires b).to = search rules in
    let in_first : k < length c.args.tasks.now = c.requires.places b less in
    let inside : k < length c.loop-b.tasks = (let m = u.many in omega (arith, in_first, m)) in
    ended_more wires b c.args.tasks.now c.loop-b.tasks c.close_list.new.task u own inside
    (λ d. let m = (u.each k d in_first).many in let n = c.requires.lists k d in_first in omega (arith, less, m, n))
    (λ d. subst (λ (x : Task g.row.O.Denot (ThreadTaps g.row.R.Denot)). ListClosed b x c.close_list.new.task) (get_or_default c.loop-b.tasks k c.index-tasks-wire.result d inside) c.in_ok-close_list.ensures.closed)
    (empty_buffer 0)

pub returns-in_err-close_list-clause-engines : goal.returns-in_err-close_list-clause-engines
returns-in_err-close_list-clause-engines g c =
    let wires = c.args.wires.now in let b = c.loop-b.b in let k = (wire_at wires b).from in let u = c.loop-b.invariant in
    let less : b < length wires = search rules in
    let own : k ≡ (wire_at wires b).to = search rules in
    let inside : k < length c.loop-b.tasks = (let p = c.requires.places b less in let m = u.many in omega (arith, p, m)) in
    ended_engines wires b c.args.tasks.now c.loop-b.tasks c.close_list.new.task u own inside
    (λ d. subst (λ (x : Task g.row.O.Denot (ThreadTaps g.row.R.Denot)). c.close_list.new.task.engine ≡ x.engine) (get_or_default c.loop-b.tasks k c.index-tasks-wire.result d inside) c.close_list.ensures.engine)

pub loop-b-preserved-then-wire : goal.loop-b-preserved-then-wire
loop-b-preserved-then-wire g c = ended_skip c.args.wires.now c.loop-b.b c.args.tasks.now c.loop-b.tasks (search rules) c.loop-b.invariant

pub returns-clause-ended : goal.returns-clause-ended
returns-clause-ended g c = ended_all c.args.wires.now c.loop-b.b c.args.tasks.now c.loop-b.tasks (search rules) c.loop-b.invariant

pub returns-clause-engines : goal.returns-clause-engines
returns-clause-engines g c = ended_same c.args.wires.now c.loop-b.b c.args.tasks.now c.loop-b.tasks c.loop-b.invariant
