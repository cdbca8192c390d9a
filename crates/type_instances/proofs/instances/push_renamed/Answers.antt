use Rattle.std.proofs.Common.{◌∙◌, ap, map, take_all}
use Rattle.type_terms.specs.Naming.{instance}
use Rattle.type_terms.specs.Term.{term_of}
use Rattle.type_terms.proofs.Renaming.{next_renamed}
use Rattle.type_instances.proofs.instances.push_renamed.Goals as goal

pub loop-ty-preserved : goal.loop-ty-preserved
loop-ty-preserved c =
    next_renamed (instance c.args.types.now c.args.kinds.now) _ _ _ _ _ _ c.loop-ty-test.true c.ty-item.is c.in_ok-push.ensures.items c.loop-ty.invariant c.in_ok-next.ensures.instance

pub returns : goal.returns
returns c = c.loop-ty.invariant ∙ ap (λ ps. map (instance c.args.types.now c.args.kinds.now) (map term_of ps)) (take_all _ _ c.loop-ty-test.false)
