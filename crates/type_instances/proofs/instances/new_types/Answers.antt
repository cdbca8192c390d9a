use Rattle.std.proofs.lemmas.Option.{slice_get-get_or}
use Rattle.type_instances.proofs.NewTypes.{outer_at, new_types_next, new_types_all}
use Rattle.type_instances.proofs.NewTypes.{grows_both}
use Rattle.type_instances.proofs.instances.new_types.Goals as goal

pub new_type-requires : goal.new_type-requires
new_type-requires c = outer_at c.args.subst.now c.loop-parameter.subst c.args.parameters.now c.loop-parameter.parameter-index _ (slice_get-get_or _ _ _ c.loop-parameter-test.true) c.requires c.loop-parameter.invariant.grows.follows

pub loop-parameter-preserved : goal.loop-parameter-preserved
loop-parameter-preserved c = record {
  new = new_types_next c.args.subst.now c.loop-parameter.subst _ c.args.parameters.now c.loop-parameter.parameter-index _ c.loop-parameter.numbers.items _ _ c.loop-parameter-test.true c.requires c.loop-parameter.invariant.new c.in_ok-next.ensures.new c.in_ok-push.ensures.items;
  grows = grows_both c.args.subst.now c.loop-parameter.subst _ c.loop-parameter.invariant.grows c.new_type.ensures.grows;
}

pub returns : goal.returns
returns c = record {
  new = new_types_all c.args.subst.now c.loop-parameter.subst c.args.parameters.now c.loop-parameter.parameter-index _ c.loop-parameter-test.false c.loop-parameter.invariant.new;
  grows = c.loop-parameter.invariant.grows;
}

pub returns-in_err-next-clause-grows : goal.returns-in_err-next-clause-grows
returns-in_err-next-clause-grows c = grows_both c.args.subst.now c.loop-parameter.subst _ c.loop-parameter.invariant.grows c.new_type.ensures.grows

pub returns-in_err-push-clause-grows : goal.returns-in_err-push-clause-grows
returns-in_err-push-clause-grows c = grows_both c.args.subst.now c.loop-parameter.subst _ c.loop-parameter.invariant.grows c.new_type.ensures.grows
