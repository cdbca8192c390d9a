use Rattle.std.proofs.Common.{◌≡◌, ap, ◌∙◌, subst, arith}
use Rattle.crossbeam_queue.specs.Passes.{view}
use Rattle.buffer_queue.specs.declared.rule.View.{View}
use Rattle.buffer_queue.specs.Rule.{both, Whole, contents_of}
use Rattle.buffer_queue.proofs.Keeps.{spares, merges, whole, opens, known}
use Rattle.buffer_queue.proofs.queue.turn.Goals as goal

pub another-spare-requires-clause-rule : goal.another-spare-requires-clause-rule
another-spare-requires-clause-rule c = spares _ _

pub absorb-requires-clause-rule : goal.absorb-requires-clause-rule
absorb-requires-clause-rule c =
    merges _ _ _ _ (ap (λ (v : View). v.puts) c.another-spare.ensures.rule.0 ∙ c.requires.roles.0) ((λ i. (view (c.replace-other.ensures.value i)).takes) ∙ c.requires.roles.1)

pub learn_as-requires-clause-rule : goal.learn_as-requires-clause-rule
learn_as-requires-clause-rule c = whole _ _ (ap (λ (v : View). v.puts) c.absorb.ensures.rule) (ap (λ (v : View). v.takes) c.absorb.ensures.rule)

pub another-requires-clause-rule : goal.another-requires-clause-rule
another-requires-clause-rule c =
    opens _ _ _ (ap (λ (v : View). v.puts) (c.learn_as.ensures.queue.1 ∙ c.absorb.ensures.rule)) (ap (λ (v : View). v.takes) (c.learn_as.ensures.queue.1 ∙ c.absorb.ensures.rule)) (omega arith)

pub returns-clause-whole : goal.returns-clause-whole
returns-clause-whole c =
    let is : view c.absorb.new.pass ≡ both (view c.args.put.now) (view c.args.take.now) =
    c.absorb.ensures.rule ∙ (λ i. both (c.another-spare.ensures.rule.0 i) (view (c.replace-other.ensures.value i))) in
    subst (λ (v : View). Whole v (contents_of v)) is (known (view c.absorb.new.pass) c.learn_as.ensures.rule)
