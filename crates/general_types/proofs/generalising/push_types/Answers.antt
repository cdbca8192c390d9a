use Rattle.std.proofs.Common.{◌∙◌, ap, ℕ, List, map, take_all}
use Rattle.general_types.specs.Numbering.{type_parameter}
use Rattle.general_types.proofs.KindLists.{pushed_next}
use Rattle.general_types.proofs.generalising.push_types.Goals as goal

pub loop-number-init : goal.loop-number-init
loop-number-init c = c.requires

pub loop-number-preserved : goal.loop-number-preserved
loop-number-preserved c = pushed_next (type_parameter c.args.subst.now c.args.held.now) c.loop-number.parameters.items _ c.args.numbers.now c.loop-number.number-index _ _ c.loop-number-test.true c.type_parameter_of.ensures c.in_ok-push.ensures.items c.loop-number.invariant

pub returns : goal.returns
returns c = c.loop-number.invariant ∙ ap (λ (ns : List ℕ). map (type_parameter c.args.subst.now c.args.held.now) ns) (take_all _ _ c.loop-number-test.false)
