use Rattle.std.proofs.Common.{refl, subst, set, length, ◌<◌, arith, length-set}
use Rattle.std.proofs.lemmas.List.{get_or_default}
use Rattle.clock_threads.specs.declared.task.Task.{Task}
use Rattle.buffer_ends.specs.declared.thread_taps.ThreadTaps.{ThreadTaps}
use Rattle.clock_threads.specs.Ends.{WasLent, WasPutBack, GiverClosed}
use Rattle.clock_threads.proofs.Closing.{join_closed}
use Rattle.clock_threads.proofs.borders.close_join.Goals as goal

pub returns : goal.returns
returns g c =
    let tasks = c.args.tasks.now in let lender = c.lent-takes.new.task in let giver = c.close_giver-log.new.task in let back = c.put_back.new.task in
    let takes = c.lent-takes.result.items in let takes' = c.close_giver-log.new.takes.items in
    let one = set tasks c.args.to lender in let two = set one c.args.from giver in
    let in_one : c.args.from < length one = (let p = c.requires.places.0 in omega (arith, p, length-set tasks c.args.to lender)) in
    let in_two : c.args.to < length two = (let p = c.requires.places.1 in omega (arith, p, length-set tasks c.args.to lender, length-set one c.args.from giver)) in
    join_closed tasks (set two c.args.to back) c.args.from c.args.to c.args.buffer c.close_giver-log.result lender giver back takes takes' c.requires.places.0 c.requires.places.1 c.requires.places.2 refl
    (λ d. subst (λ (x : Task g.row.O.Denot (ThreadTaps g.row.R.Denot)). WasLent x lender takes) (get_or_default tasks c.args.to c.index-tasks-to.result d c.requires.places.1) c.lent-takes.ensures)
    (λ d. subst (λ (x : Task g.row.O.Denot (ThreadTaps g.row.R.Denot)). GiverClosed c.args.buffer x giver takes takes' c.close_giver-log.result) (get_or_default one c.args.from c.index-tasks-from.result d in_one) c.close_giver-log.ensures)
    (λ d. subst (λ (x : Task g.row.O.Denot (ThreadTaps g.row.R.Denot)). WasPutBack x back takes') (get_or_default two c.args.to c.index-tasks-to-2.result d in_two) c.put_back.ensures)
