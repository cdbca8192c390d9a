use Rattle.std.proofs.Common.{◌≡◌, ◌<◌, ◌-◌, ◌∙◌, ℕ, suc, List, Some, length, drop, get_or, slice_get, arith, refl, ap, sym, subst}
use Rattle.std.proofs.lemmas.List.{with_items_is}
use Rattle.std.proofs.lemmas.Option.{slice_get_read}
use Rattle.plan_core.specs.declared.node.Node.{Node}
use Rattle.buffer_sides.specs.Sides.{AreReaders}
use Rattle.buffer_sides.proofs.Behind.{item_and_behind}
use Rattle.buffer_sides.proofs.sides.readers.Goals as goal

pub put_reader-requires : goal.put_reader-requires
put_reader-requires c buffer is =
    let k = c.loop-i.i - 1 in
    let within : k < length c.args.plan.now.nodes = omega (arith, c.loop-i.invariant.within, c.loop-i-test.true) in
    let at : slice_get c.args.plan.now.nodes k ≡ Some c.index-nodes-i.result =
    slice_get_read _ _ _ _ refl within (c.index-nodes-i.is ∙ ap (λ xs. get_or xs k c.index-nodes-i.result) c.as_slice-nodes.ensures) in
    let there = c.requires.read buffer k (c.index-nodes-i.result, at, is) in
    omega (arith, there, c.loop-i.invariant.size, ap length c.deref_mut.ensures.value)

pub loop-i-preserved : goal.loop-i-preserved
loop-i-preserved c =
    let plan = c.args.plan.now in
    let k = c.loop-i.i - 1 in
    let within : k < length plan.nodes = omega (arith, c.loop-i.invariant.within, c.loop-i-test.true) in
    let at : slice_get plan.nodes k ≡ Some c.index-nodes-i.result =
    slice_get_read _ _ _ _ refl within (c.index-nodes-i.is ∙ ap (λ xs. get_or xs k c.index-nodes-i.result) c.as_slice-nodes.ensures) in
    let next : c.loop-i.i ≡ suc k = omega (arith, c.loop-i-test.true) in
    let long : length c.put_reader.new.found ≡ c.loop-i.found.len = omega (arith, c.deref_mut.ensures.len, c.put_reader.ensures.size) in
    let same = with_items_is c.loop-i.found c.put_reader.new.found long in
    let behind : AreReaders plan (suc k) (drop c.loop-i.i plan.nodes) c.deref_mut.result.now =
    subst (λ (n : ℕ). AreReaders plan n (drop c.loop-i.i plan.nodes) c.deref_mut.result.now) next
    (subst (AreReaders plan c.loop-i.i (drop c.loop-i.i plan.nodes)) (sym c.deref_mut.ensures.value) c.loop-i.invariant.read) in
    record {
      within = omega (arith, c.loop-i.invariant.within);
      size = ap length same ∙ c.put_reader.ensures.size ∙ ap length c.deref_mut.ensures.value ∙ c.loop-i.invariant.size;
      read = subst (AreReaders plan k (drop k plan.nodes)) (sym same)
          (subst (λ (front : List Node). AreReaders plan k front c.put_reader.new.found) (item_and_behind plan.nodes k c.loop-i.i c.index-nodes-i.result at next)
          (c.put_reader.ensures.read plan (drop c.loop-i.i plan.nodes) behind));
    }
