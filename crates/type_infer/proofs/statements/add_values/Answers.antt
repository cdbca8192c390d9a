use Rattle.type_infer.proofs.Later.{all_added, next_added, value_there}
use Rattle.type_infer.proofs.statements.add_values.Goals as goal

pub add-requires : goal.add-requires
add-requires c = record { over = value_there c.args.subst.now c.args.values.now c.loop-value.value-index c.loop-value-test.true c.requires.there }

pub loop-value-init : goal.loop-value-init
loop-value-init c = λ types holds. holds

pub loop-value-preserved : goal.loop-value-preserved
loop-value-preserved c = next_added c.args.subst.now c.args.values.now c.loop-value.value-index c.args.held.now c.loop-value.held c.add.new.self c.loop-value-test.true c.loop-value.invariant c.in_ok-add.ensures.held

pub returns : goal.returns
returns c = all_added c.args.subst.now c.args.values.now c.loop-value.value-index c.args.held.now c.loop-value.held c.loop-value-test.false c.loop-value.invariant
