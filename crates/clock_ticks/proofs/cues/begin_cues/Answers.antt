use Rattle.std.proofs.Common.{◌<◌, [], length, add-one, arith, refl}
use Rattle.std.proofs.lemmas.Option.{slice_get_read}
use Rattle.clock_ticks.specs.Cues.{HasMarked}
use Rattle.clock_ticks.proofs.Marking.{all_changed, none_changed, one_changed}
use Rattle.clock_ticks.proofs.cues.begin_cues.Goals as goal

pub loop-k-init : goal.loop-k-init
loop-k-init c = record { keeping = refl; changed = none_changed (λ k old new. HasMarked [] old new) c.args.cues.now.lists.items }

pub loop-k-preserved : goal.loop-k-preserved
loop-k-preserved c = record {
  keeping = c.loop-k.invariant.keeping;
  changed = (
      let within : c.loop-k.k < length c.loop-k.cues.lists.items = (let sizes = c.loop-k.invariant.changed.size in omega (arith, sizes, c.loop-k-test.true)) in
      one_changed (λ k old new. HasMarked [] old new) c.loop-k.k _ c.args.cues.now.lists.items c.loop-k.cues.lists.items c.index_mut.result.now _ (add-one c.loop-k.k)
      (slice_get_read _ _ _ _ refl within c.index_mut.ensures.value) c.begin_list.ensures c.loop-k.invariant.changed);
}

pub returns-clause-marked : goal.returns-clause-marked
returns-clause-marked c k old new at_old at_new =
    all_changed (λ j a b. HasMarked [] a b) c.loop-k.k c.args.cues.now.lists.items c.loop-k.cues.lists.items (omega (arith, c.loop-k-test.false)) c.loop-k.invariant.changed k old new at_old at_new

pub returns-clause-size : goal.returns-clause-size
returns-clause-size c = c.loop-k.invariant.changed.size
