use Rattle.std.proofs.Common.{◌≡◌, ◌<◌, subst, set, length, length-set, arith}
use Rattle.std.proofs.lemmas.List.{get_or_default}
use Rattle.clock_threads.specs.declared.task.Task.{Task}
use Rattle.buffer_ends.specs.declared.thread_taps.ThreadTaps.{ThreadTaps}
use Rattle.clock_threads.specs.Starts.{PutAdded, TakeAdded}
use Rattle.clock_threads.proofs.Joining.{both_added, engines_set, engines_then}
use Rattle.clock_threads.proofs.joins.join_one.Goals as goal

pub returns-clause-added : goal.returns-clause-added
returns-clause-added g c =
    let now = c.args.tasks.now in let x = c.add_put.new.task in let y = c.add_take.new.task in let one = set now c.args.from x in
    let in_one : c.args.to < length one = (let p = c.requires.places.1 in omega (arith, p, length-set now c.args.from x)) in
    both_added now c.args.from c.args.to x y c.args.put c.args.take c.requires.places.0 c.requires.places.1 c.requires.places.2
    (λ d. subst (λ (t : Task g.row.O.Denot (ThreadTaps g.row.R.Denot)). PutAdded t x c.args.put) (get_or_default now c.args.from c.index-tasks-from.result d c.requires.places.0) c.in_ok-add_put.ensures.added)
    (λ d. subst (λ (t : Task g.row.O.Denot (ThreadTaps g.row.R.Denot)). TakeAdded t y c.args.take) (get_or_default one c.args.to c.index-tasks-to.result d in_one) c.in_ok-add_take.ensures.added)

pub returns-clause-engines : goal.returns-clause-engines
returns-clause-engines g c =
    let now = c.args.tasks.now in let x = c.add_put.new.task in let y = c.add_take.new.task in let one = set now c.args.from x in
    let in_one : c.args.to < length one = (let p = c.requires.places.1 in omega (arith, p, length-set now c.args.from x)) in
    engines_then now one (set one c.args.to y)
    (engines_set now c.args.from x c.requires.places.0 (λ d. subst (λ (t : Task g.row.O.Denot (ThreadTaps g.row.R.Denot)). x.engine ≡ t.engine) (get_or_default now c.args.from c.index-tasks-from.result d c.requires.places.0) c.add_put.ensures.engine))
    (engines_set one c.args.to y in_one (λ d. subst (λ (t : Task g.row.O.Denot (ThreadTaps g.row.R.Denot)). y.engine ≡ t.engine) (get_or_default one c.args.to c.index-tasks-to.result d in_one) c.add_take.ensures.engine))

pub returns-in_err-add_take-clause-engines : goal.returns-in_err-add_take-clause-engines
returns-in_err-add_take-clause-engines g c =
    let now = c.args.tasks.now in let x = c.add_put.new.task in let y = c.add_take.new.task in let one = set now c.args.from x in
    let in_one : c.args.to < length one = (let p = c.requires.places.1 in omega (arith, p, length-set now c.args.from x)) in
    engines_then now one (set one c.args.to y)
    (engines_set now c.args.from x c.requires.places.0 (λ d. subst (λ (t : Task g.row.O.Denot (ThreadTaps g.row.R.Denot)). x.engine ≡ t.engine) (get_or_default now c.args.from c.index-tasks-from.result d c.requires.places.0) c.add_put.ensures.engine))
    (engines_set one c.args.to y in_one (λ d. subst (λ (t : Task g.row.O.Denot (ThreadTaps g.row.R.Denot)). y.engine ≡ t.engine) (get_or_default one c.args.to c.index-tasks-to.result d in_one) c.add_take.ensures.engine))
