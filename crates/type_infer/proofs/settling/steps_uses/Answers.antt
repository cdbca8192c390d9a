use Rattle.std.proofs.Common.{◌≡◌, ◌∙◌, ◌∷◌, ◌++◌, subst}
use Rattle.std.specs.Vec.Iter.{into_iter_items}
use Rattle.type_infer.specs.Settling.{AreDefaultOf, AreDonesOver}
use Rattle.type_infer.specs.Steps.{dones_in}
use Rattle.type_infer.proofs.Overs.{step_over_next}
use Rattle.type_infer.proofs.Settled.{steps_more}
use Rattle.type_infer.proofs.Taken.{all_taken, next_taken}
use Rattle.type_infer.proofs.settling.steps_uses.Goals as goal

pub add_step-requires : goal.add_step-requires
add_step-requires c =
    let at = c.loop-step in
    let all : c.args.steps.items ≡ at.yielded ++ c.in-Some.step ∷ into_iter_items c.next.new.self = next_taken c.args.steps.items at.yielded c.in-Some.step _ _ c.next.new.self c.into_iter-step-iterator.ensures.into_iter_gives.0 at.yielded_by c.in-Some.ensures.steps.0 in
    let over = subst (λ l. AreDonesOver c.args.subst.now (dones_in c.args.defs.now l)) all c.requires.over in
    record { over = step_over_next c.args.subst.now c.args.defs.now at.yielded c.in-Some.step (into_iter_items c.next.new.self) over }

pub loop-step-preserved : goal.loop-step-preserved
loop-step-preserved c = steps_more c.args.subst.now c.args.defs.now c.loop-step.yielded c.in-Some.step c.loop-step.uses.items c.add_step.new.uses.items c.loop-step.invariant c.in_ok-add_step.ensures

pub returns : goal.returns
returns c =
    let all = all_taken c.args.steps.items c.loop-step.yielded _ c.loop-step.step-iterator c.next.new.self c.into_iter-step-iterator.ensures.into_iter_gives.0 (c.into_iter-step-iterator.ensures.into_iter_gives.1 ∙ c.args.steps.ok.0) c.loop-step.yielded_by c.in-None.ensures.steps in
    subst (λ l. AreDefaultOf c.args.subst.now (dones_in c.args.defs.now l) c.loop-step.uses.items) all c.loop-step.invariant
