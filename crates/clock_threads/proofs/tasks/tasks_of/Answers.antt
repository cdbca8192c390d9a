use Rattle.std.proofs.Common.{◌≡◌, ◌∙◌, refl, arith, rules, vec_capacity}
use Rattle.clock_threads.proofs.Making.{making_more, making_all}
use Rattle.clock_threads.proofs.tasks.tasks_of.Goals as goal

pub loop-preserved : goal.loop-preserved
loop-preserved g c =
    making_more c.args.plan.now c.len-count.result c.loop.counter c.args.engines.now.items c.loop.engines.items c.remove-engine.new.self.items (vec_capacity c.loop.engines) (vec_capacity c.remove-engine.new.self)
    c.loop.tasks.items c.push_reserved.new.self.items (vec_capacity c.loop.tasks) (vec_capacity c.push_reserved.new.self) c.loop.locals.items c.remove-local.new.self.items
    c.remove-engine.result c.remove-local.result (record { engine = c.remove-engine.result; taps = c.new-in-loop-2.result }) c.loop.invariant c.loop-test.true
    c.remove-engine.ensures.value c.remove-engine.ensures.by_index.2 c.remove-engine.ensures.capacity c.remove-local.ensures.value c.remove-local.ensures.by_index.2
    c.push_reserved.ensures.items c.push_reserved.ensures.capacity refl
    ((λ i. (c.new-in-loop-2.ensures.parts.1 i).items) ∙ c.new.ensures.items) ((λ i. (c.new-in-loop-2.ensures.parts.2 i).items) ∙ c.new-in-loop.ensures.items) c.new-in-loop-2.ensures.parts.0

pub returns-clause-tasks : goal.returns-clause-tasks
returns-clause-tasks g c =
    let is : c.loop.counter ≡ c.len-count.result = search rules in
    (making_all c.args.plan.now c.len-count.result c.loop.counter c.args.engines.now.items c.loop.engines.items (vec_capacity c.loop.engines) c.loop.tasks.items (vec_capacity c.loop.tasks) c.loop.locals.items c.loop.invariant is).1

pub returns-clause-room : goal.returns-clause-room
returns-clause-room g c =
    let is : c.loop.counter ≡ c.len-count.result = search rules in
    let all = c.loop.invariant.all in let room = c.loop.invariant.rooms in
    ((making_all c.args.plan.now c.len-count.result c.loop.counter c.args.engines.now.items c.loop.engines.items (vec_capacity c.loop.engines) c.loop.tasks.items (vec_capacity c.loop.tasks) c.loop.locals.items c.loop.invariant is).0, omega (arith, all, room))
