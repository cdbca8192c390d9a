use Rattle.std.proofs.Common.{◌≡◌, ◌<◌, ◌-◌, ◌∙◌, suc, List, Some, length, drop, get_or, slice_get, arith, refl, ap, sym, subst}
use Rattle.std.proofs.lemmas.List.{with_items_is}
use Rattle.std.proofs.lemmas.Option.{slice_get_read}
use Rattle.plan_core.specs.declared.sink.SinkPlan.{SinkPlan}
use Rattle.buffer_sides.specs.Sides.{AreFeeders}
use Rattle.buffer_sides.proofs.Behind.{item_and_behind}
use Rattle.buffer_sides.proofs.sides.feeders.Goals as goal

pub put_feeder-requires : goal.put_feeder-requires
put_feeder-requires c buffer node is =
    let k = c.loop-i.i - 1 in
    let within : k < length c.args.plan.now.sinks = omega (arith, c.loop-i.invariant.within, c.loop-i-test.true) in
    let at : slice_get c.args.plan.now.sinks k ≡ Some c.index-sinks-i.result =
    slice_get_read _ _ _ _ refl within (c.index-sinks-i.is ∙ ap (λ xs. get_or xs k c.index-sinks-i.result) c.as_slice-sinks.ensures) in
    let there = c.requires.fed buffer k (node, at ∙ ap Some is) in
    omega (arith, there, c.loop-i.invariant.size, ap length c.deref_mut.ensures.value)

pub loop-i-preserved : goal.loop-i-preserved
loop-i-preserved c =
    let sinks = c.args.plan.now.sinks in
    let k = c.loop-i.i - 1 in
    let within : k < length sinks = omega (arith, c.loop-i.invariant.within, c.loop-i-test.true) in
    let at : slice_get sinks k ≡ Some c.index-sinks-i.result =
    slice_get_read _ _ _ _ refl within (c.index-sinks-i.is ∙ ap (λ xs. get_or xs k c.index-sinks-i.result) c.as_slice-sinks.ensures) in
    let next : c.loop-i.i ≡ suc k = omega (arith, c.loop-i-test.true) in
    let long : length c.put_feeder.new.found ≡ c.loop-i.found.len = omega (arith, c.deref_mut.ensures.len, c.put_feeder.ensures.size) in
    let same = with_items_is c.loop-i.found c.put_feeder.new.found long in
    let behind : AreFeeders (drop c.loop-i.i sinks) c.deref_mut.result.now = subst (AreFeeders (drop c.loop-i.i sinks)) (sym c.deref_mut.ensures.value) c.loop-i.invariant.fed in
    record {
      within = omega (arith, c.loop-i.invariant.within);
      size = ap length same ∙ c.put_feeder.ensures.size ∙ ap length c.deref_mut.ensures.value ∙ c.loop-i.invariant.size;
      fed = subst (AreFeeders (drop k sinks)) (sym same)
          (subst (λ (front : List SinkPlan). AreFeeders front c.put_feeder.new.found) (item_and_behind sinks k c.loop-i.i c.index-sinks-i.result at next) (c.put_feeder.ensures.fed (drop c.loop-i.i sinks) behind));
    }
