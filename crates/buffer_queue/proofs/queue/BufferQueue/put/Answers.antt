use Rattle.std.proofs.Common.{◌≡◌, true, false, [], ◌∷◌, ◌++◌, ap, sym, ◌∙◌}
use Rattle.crossbeam_queue.specs.Passes.{view, ruled_capacity}
use Rattle.buffer_queue.specs.Window.{Window}
use Rattle.buffer_queue.proofs.Keeps.{puts, fills}
use Rattle.buffer_queue.proofs.Ends.{put_yes, put_no, put_moves, put_stops, full_there}
use Rattle.buffer_queue.proofs.queue.BufferQueue.put.Goals as goal

pub push_as-requires-clause-rule : goal.push_as-requires-clause-rule
push_as-requires-clause-rule g c =
    let i = c.pass.invariant in
    let id = ap (λ (w : Window). w.queue) c.pass.view_is ∙ c.requires ∙ sym c.self.view_is in
    let cap : (view c.pass.inside.pass).capacity ≡ ruled_capacity c.self.inside.queue = i.3 ∙ ap (λ t. t.slots) id ∙ c.self.inside.queue.sized.1 in
    (puts _ _ _ _ i.1 cap i.2, fills _ _ i.1)

pub invariant_of-pass-in-Ok : goal.invariant_of-pass-in-Ok
invariant_of-pass-in-Ok g c =
    let i = c.pass.invariant in let e = c.in-Ok.ensures in
    let k = put_yes c.pass.inside.pass.table_id c.push_as.new.pass.table_id (view c.pass.inside.pass) (view c.push_as.new.pass) c.args.chunk c.pass.inside.answers.items c.push_reserved.new.self.items
    e.queue.0 e.rule (c.push_reserved.ensures.items ∙ ap (λ l. l ++ true ∷ []) c.reserve.ensures.items) (i.1, i.2, i.3, i.4) in
    (e.queue.2 ∙ i.0, k.0, k.1, k.2, k.3)

pub invariant_of-pass-in-Err : goal.invariant_of-pass-in-Err
invariant_of-pass-in-Err g c =
    let i = c.pass.invariant in let e = c.in-Err.ensures in
    let id = ap (λ (w : Window). w.queue) c.pass.view_is ∙ c.requires ∙ sym c.self.view_is in
    let k = put_no c.pass.inside.pass.table_id c.push_as.new.pass.table_id (view c.pass.inside.pass) (view c.push_as.new.pass) c.pass.inside.answers.items c.push_reserved-in-Err.new.self.items
    e.queue.0 e.rule.1 (c.push_reserved-in-Err.ensures.items ∙ ap (λ l. l ++ false ∷ []) c.reserve.ensures.items)
    ((full_there (ruled_capacity c.self.inside.queue) c.pass.inside.pass.table_id (view c.pass.inside.pass) (sym (ap (λ t. t.slots) id ∙ c.self.inside.queue.sized.1)) i.3 e.rule.2).0) (i.1, i.2, i.3, i.4) in
    (e.queue.2 ∙ i.0, k.0, k.1, k.2, k.3)

pub returns-in-Ok-clause-answer : goal.returns-in-Ok-clause-answer
returns-in-Ok-clause-answer g c =
    let i = c.pass.invariant in let e = c.in-Ok.ensures in
    put_moves c.pass.inside.pass.table_id c.push_as.new.pass.table_id (view c.pass.inside.pass) (view c.push_as.new.pass) c.args.chunk c.pass.inside.answers.items c.push_reserved.new.self.items c.args.pass.now
    c.pass.view_is e.queue.0 e.rule (c.push_reserved.ensures.items ∙ ap (λ l. l ++ true ∷ []) c.reserve.ensures.items) (i.1, i.2, i.3, i.4)

pub returns-in-Err-clause-answer : goal.returns-in-Err-clause-answer
returns-in-Err-clause-answer g c =
    let i = c.pass.invariant in let e = c.in-Err.ensures in
    let id = ap (λ (w : Window). w.queue) c.pass.view_is ∙ c.requires ∙ sym c.self.view_is in
    let h = put_stops c.pass.inside.pass.table_id c.push_as.new.pass.table_id (view c.pass.inside.pass) (view c.push_as.new.pass) c.pass.inside.answers.items c.push_reserved-in-Err.new.self.items c.args.pass.now
    c.pass.view_is e.queue.0 e.rule.1 (c.push_reserved-in-Err.ensures.items ∙ ap (λ l. l ++ false ∷ []) c.reserve.ensures.items)
    (full_there (ruled_capacity c.self.inside.queue) c.pass.inside.pass.table_id (view c.pass.inside.pass) (sym (ap (λ t. t.slots) id ∙ c.self.inside.queue.sized.1)) i.3 e.rule.2) (i.1, i.2, i.3, i.4) in
    (e.rule.0, h.0, h.1)
