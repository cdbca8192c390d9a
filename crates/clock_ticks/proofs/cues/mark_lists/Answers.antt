use Rattle.std.proofs.Common.{◌≡◌, ◌<◌, ◌∙◌, Some, [], ◌∷◌, length, add-one, arith, refl, ap, sym, subst}
use Rattle.std.proofs.lemmas.Option.{slice_get_read}
use Rattle.std.proofs.Math.ListN.{length-set}
use Rattle.clock_outputs.specs.declared.port.Port.{Port}
use Rattle.stream_meaning.specs.Instants.{part_at}
use Rattle.clock_ticks.specs.Cues.{HasGrown, HasKept, marks_of}
use Rattle.clock_ticks.proofs.Marking.{all_changed, grown_upto, none_changed, one_changed}
use Rattle.clock_ticks.proofs.cues.mark_lists.Goals as goal

pub loop-k-init : goal.loop-k-init
loop-k-init c = record { grown = none_changed _ c.args.lists.now.items; kept = none_changed _ c.args.lists.now.items }

pub index_mut-requires : goal.index_mut-requires
index_mut-requires c = let sizes = c.loop-k.invariant.grown.size in omega (arith, sizes, c.requires.sizes, c.loop-k-test.true)

pub returns-in_err-mark_list-clause-size : goal.returns-in_err-mark_list-clause-size
returns-in_err-mark_list-clause-size c = length-set _ _ _ ∙ c.loop-k.invariant.grown.size

pub returns-in_err-mark_list-clause-grown : goal.returns-in_err-mark_list-clause-grown
returns-in_err-mark_list-clause-grown c =
    let sizes = c.loop-k.invariant.grown.size in
    let within : c.loop-k.k < length c.loop-k.lists.items = omega (arith, sizes, c.requires.sizes, c.loop-k-test.true) in
    grown_upto c.loop-k.k c.args.lists.now.items c.loop-k.lists.items c.index_mut.result.now c.mark_list.new.list (slice_get_read _ _ _ _ refl within c.index_mut.ensures.value)
    (record { more = []; kept = c.in_err-mark_list.ensures.refused }) c.loop-k.invariant.grown

pub loop-k-preserved : goal.loop-k-preserved
loop-k-preserved c =
    let sizes = c.loop-k.invariant.grown.size in
    let within : c.loop-k.k < length c.loop-k.lists.items = omega (arith, sizes, c.requires.sizes, c.loop-k-test.true) in
    let at = slice_get_read _ _ _ _ refl within c.index_mut.ensures.value in
    record {
      grown = one_changed (λ j a b. HasGrown a b) c.loop-k.k _ c.args.lists.now.items c.loop-k.lists.items c.index_mut.result.now c.mark_list.new.list (add-one c.loop-k.k) at
          (record { more = _; kept = c.in_ok-mark_list.ensures.kept }) c.loop-k.invariant.grown;
      kept = one_changed _ c.loop-k.k _ c.args.lists.now.items c.loop-k.lists.items c.index_mut.result.now c.mark_list.new.list (add-one c.loop-k.k) at
          (λ port there.
          let here : Some c.index-ports-k.result ≡ Some port = sym (slice_get_read _ _ _ _ refl c.loop-k-test.true c.index-ports-k.is) ∙ there in
          let is : c.index-ports-k.result ≡ port = cc in
          let slot = c.slot_of.ensures ∙ ap (λ (p : Port). (part_at c.deref.result.now p.node).slot) (sym c.index-ports-k.is ∙ is) ∙ ap (λ ps. (part_at ps port.node).slot) c.deref.ensures.value in
          subst (λ s. HasKept (marks_of c.args.at (s ∷ [])) c.index_mut.result.now c.mark_list.new.list) slot c.in_ok-mark_list.ensures.kept) c.loop-k.invariant.kept;
    }

pub returns-clause-size : goal.returns-clause-size
returns-clause-size c = c.loop-k.invariant.grown.size

pub returns-clause-grown : goal.returns-clause-grown
returns-clause-grown c k old new at_old at_new =
    all_changed (λ j a b. HasGrown a b) c.loop-k.k c.args.lists.now.items c.loop-k.lists.items (omega (arith, c.requires.sizes, c.loop-k-test.false)) c.loop-k.invariant.grown k old new at_old at_new

pub returns-clause-kept : goal.returns-clause-kept
returns-clause-kept c k port old new at_port at_old at_new =
    all_changed _ c.loop-k.k c.args.lists.now.items c.loop-k.lists.items (omega (arith, c.requires.sizes, c.loop-k-test.false)) c.loop-k.invariant.kept k old new at_old at_new port at_port
