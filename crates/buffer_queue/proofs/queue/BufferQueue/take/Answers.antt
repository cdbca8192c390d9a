use Rattle.std.proofs.Common.{true, false, [], ◌∷◌, ◌++◌, ap, ◌∙◌}
use Rattle.crossbeam_queue.specs.Passes.{view}
use Rattle.buffer_queue.proofs.Keeps.{takes, drains}
use Rattle.buffer_queue.proofs.Ends.{take_yes, take_no, take_moves, take_stops, empty_there}
use Rattle.buffer_queue.proofs.queue.BufferQueue.take.Goals as goal

pub pop_as-requires-clause-rule : goal.pop_as-requires-clause-rule
pop_as-requires-clause-rule g c =
    let i = c.pass.invariant in
    (takes _ _ i.1 i.2, drains _ _ i.1)

pub invariant_of-pass-in-Some : goal.invariant_of-pass-in-Some
invariant_of-pass-in-Some g c =
    let i = c.pass.invariant in let e = c.in-Some.ensures in
    let k = take_yes c.pass.inside.pass.table_id c.pop_as.new.pass.table_id (view c.pass.inside.pass) (view c.pop_as.new.pass) c.in-Some.chunk c.pass.inside.answers.items c.push_reserved.new.self.items
    e.queue.0 e.rule (c.push_reserved.ensures.items ∙ ap (λ l. l ++ true ∷ []) c.reserve.ensures.items) (i.1, i.2, i.3, i.4) in
    (e.queue.2 ∙ i.0, k.0, k.1, k.2, k.3)

pub invariant_of-pass-in-None : goal.invariant_of-pass-in-None
invariant_of-pass-in-None g c =
    let i = c.pass.invariant in let e = c.in-None.ensures in
    let k = take_no c.pass.inside.pass.table_id c.pop_as.new.pass.table_id (view c.pass.inside.pass) (view c.pop_as.new.pass) c.pass.inside.answers.items c.push_reserved-in-None.new.self.items
    e.queue.0 e.rule.0 (c.push_reserved-in-None.ensures.items ∙ ap (λ l. l ++ false ∷ []) c.reserve.ensures.items)
    ((empty_there (view c.pass.inside.pass) e.rule.1).0) (i.1, i.2, i.3, i.4) in
    (e.queue.2 ∙ i.0, k.0, k.1, k.2, k.3)

pub returns-in-Some-clause-answer : goal.returns-in-Some-clause-answer
returns-in-Some-clause-answer g c =
    let i = c.pass.invariant in let e = c.in-Some.ensures in
    take_moves c.pass.inside.pass.table_id c.pop_as.new.pass.table_id (view c.pass.inside.pass) (view c.pop_as.new.pass) c.in-Some.chunk c.pass.inside.answers.items c.push_reserved.new.self.items c.args.pass.now
    c.pass.view_is e.queue.0 e.rule (c.push_reserved.ensures.items ∙ ap (λ l. l ++ true ∷ []) c.reserve.ensures.items) (i.1, i.2, i.3, i.4)

pub returns-in-None-clause-answer : goal.returns-in-None-clause-answer
returns-in-None-clause-answer g c =
    let i = c.pass.invariant in let e = c.in-None.ensures in
    take_stops c.pass.inside.pass.table_id c.pop_as.new.pass.table_id (view c.pass.inside.pass) (view c.pop_as.new.pass) c.pass.inside.answers.items c.push_reserved-in-None.new.self.items c.args.pass.now
    c.pass.view_is e.queue.0 e.rule.0 (c.push_reserved-in-None.ensures.items ∙ ap (λ l. l ++ false ∷ []) c.reserve.ensures.items)
    (empty_there (view c.pass.inside.pass) e.rule.1) (i.1, i.2, i.3, i.4)
