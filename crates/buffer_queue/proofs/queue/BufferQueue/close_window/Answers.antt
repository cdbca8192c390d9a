use Rattle.std.proofs.Common.{ap, sym, map, ◌∙◌}
use Rattle.crossbeam_queue.specs.Passes.{view}
use Rattle.buffer_queue.specs.Window.{Window, is_chunk}
use Rattle.buffer_queue.proofs.Ends.{closes_at, answers_alone}
use Rattle.buffer_queue.proofs.queue.BufferQueue.close_window.Goals as goal

pub returns-clause-closes : goal.returns-clause-closes
returns-clause-closes c =
    let p = c.put.invariant in let t = c.take.invariant in
    closes_at c.args.self.now c.put.inside.pass.table_id c.take.inside.pass.table_id c.turn.new.put.table_id c.turn.new.take.table_id
    (view c.put.inside.pass) (view c.take.inside.pass) (view c.turn.new.put) (view c.turn.new.take)
    c.put.inside.answers.items c.take.inside.answers.items c.replace-puts.new.dest.items c.replace-takes.new.dest.items
    c.args.put.now c.args.take.now c.put.view_is c.take.view_is c.requires.put c.requires.take
    (c.turn.ensures.queue.0.0 ∙ c.self.view_is) (c.turn.ensures.queue.1.0 ∙ c.self.view_is)
    (ap (λ v. v.items) c.replace-puts.ensures.after ∙ c.new.ensures.items) (ap (λ v. v.items) c.replace-takes.ensures.after ∙ c.new-2.ensures.items)
    (p.1, p.2, p.3, p.4) (t.1, t.2, t.3, t.4) c.turn.ensures.whole c.turn.ensures.views.0 c.turn.ensures.views.1

pub returns-clause-puts : goal.returns-clause-puts
returns-clause-puts c =
    let p = c.put.invariant in
    ap (λ v. v.items) c.replace-puts.ensures.value ∙ sym (answers_alone _ _ _ _ p.4) ∙ ap (λ (w : Window). map is_chunk w.answers) c.put.view_is

pub returns-clause-takes : goal.returns-clause-takes
returns-clause-takes c =
    let t = c.take.invariant in
    ap (λ v. v.items) c.replace-takes.ensures.value ∙ sym (answers_alone _ _ _ _ t.4) ∙ ap (λ (w : Window). map is_chunk w.answers) c.take.view_is
