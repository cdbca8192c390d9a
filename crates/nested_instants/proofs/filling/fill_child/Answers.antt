use Rattle.std.proofs.Common.{◌≡◌, ◌<◌, ◌++◌, ◌∷◌, ◌∙◌, suc, [], Some, set, length, slice_get, arith, ap, sym, refl, subst, inl, inr}
use Rattle.std.specs.Option.{option_map_or}
use Rattle.std.proofs.lemmas.Option.{slice_get_read}
use Rattle.std.proofs.Math.ListN.{length-set}
use Rattle.stream_meaning.specs.Instants.{crossfaded, part_at}
use Rattle.node_states.specs.States.{StateStands, left}
use Rattle.node_states.specs.Times.{TimeStands}
use Rattle.clock_nodes.proofs.Going.{fit_set}
use Rattle.clock_nodes.proofs.Places.{same_or_other, slice_get-set_other, slice_get-set_same}
use Rattle.nested_instants.specs.Clocks.{clock_at}
use Rattle.nested_instants.proofs.Equal.{not_same}
use Rattle.nested_instants.proofs.Restful.{resting_own}
use Rattle.nested_instants.proofs.filling.fill_child.Goals as goal

pub returns-clause-clocks : goal.returns-clause-clocks
returns-clause-clocks c =
    let in_states : c.args.k < length c.args.clocks.now.states.items = omega (arith, c.requires.clocks.fit.size, c.requires.within) in
    let in_times : c.args.k < length c.args.clocks.now.times.items = omega (arith, c.requires.clocks.in_times, c.requires.within) in
    let at : slice_get c.args.clocks.now.states.items c.args.k ≡ Some c.index_mut.result.now = slice_get_read _ _ _ _ refl in_states c.index_mut.ensures.value in
    let was : slice_get c.args.clocks.now.times.items c.args.k ≡ Some c.index.result.now = slice_get_read _ _ _ _ refl in_times c.index.ensures in
    record {
      fit = fit_set _ _ _ _ in_states
          (λ node found. c.feed.ensures.fits _ _ (c.requires.clocks.fit.each c.args.k node c.index_mut.result.now found at)) c.requires.clocks.fit;
      in_times = length-set _ _ _ ∙ c.requires.clocks.in_times;
      chains = c.requires.clocks.chains;
      latest = c.requires.clocks.latest;
      room = c.requires.clocks.room;
      stretch_room = c.requires.clocks.stretch_room;
      resting = resting_own c.args.scene.now c.args.clocks.now _ c.requires.clocks.resting (clock_at c.args.scene.now.clocks.now c.args.k) c.requires.idle
          (λ i. refl)
          (λ i outside. slice_get-set_other c.args.clocks.now.states.items c.args.k i c.feed.new.self
          (λ e. not_same (clock_at c.args.scene.now.clocks.now i) (clock_at c.args.scene.now.clocks.now c.args.k) outside (ap (clock_at c.args.scene.now.clocks.now) (sym e))))
          (λ i outside. refl);
      rates = λ j time stored. elim (same_or_other c.args.k j) [
        | inl same ↦ (let put : Some c.next.result ≡ Some time = sym (slice_get-set_same c.args.clocks.now.times.items c.args.k c.next.result in_times)
            ∙ ap (slice_get (set c.args.clocks.now.times.items c.args.k c.next.result)) same ∙ stored in
            let is : c.next.result ≡ time = cc in
            ap (λ t. t.rate) (sym is) ∙ c.next.ensures.rate ∙ c.requires.clocks.rates c.args.k c.index.result.now was)
        | inr other ↦ c.requires.clocks.rates j time (sym (slice_get-set_other c.args.clocks.now.times.items c.args.k j c.next.result other) ∙ stored)
      ];
      frames = λ j time stored. elim (same_or_other c.args.k j) [
        | inl same ↦ (let put : Some c.next.result ≡ Some time = sym (slice_get-set_same c.args.clocks.now.times.items c.args.k c.next.result in_times)
            ∙ ap (slice_get (set c.args.clocks.now.times.items c.args.k c.next.result)) same ∙ stored in
            let is : c.next.result ≡ time = cc in
            ap (λ t. t.frame) (sym is) ∙ c.next.ensures.frame ∙ c.requires.clocks.frames c.args.k c.index.result.now was)
        | inr other ↦ c.requires.clocks.frames j time (sym (slice_get-set_other c.args.clocks.now.times.items c.args.k j c.next.result other) ∙ stored)
      ];
    }

pub returns-clause-states : goal.returns-clause-states
returns-clause-states c i other = slice_get-set_other _ c.args.k i _ (λ e. other (sym e))

pub returns-clause-times : goal.returns-clause-times
returns-clause-times c i other = slice_get-set_other _ c.args.k i _ (λ e. other (sym e))

pub returns-clause-less : goal.returns-clause-less
returns-clause-less c =
    let in_states : c.args.k < length c.args.clocks.now.states.items = omega (arith, c.requires.clocks.fit.size, c.requires.within) in
    let at : slice_get c.args.clocks.now.states.items c.args.k ≡ Some c.index_mut.result.now = slice_get_read _ _ _ _ refl in_states c.index_mut.ensures.value in
    let before = ap (λ s. option_map_or left s 0) at in
    let after = ap (λ s. option_map_or left s 0) (slice_get-set_same c.args.clocks.now.states.items c.args.k c.feed.new.self in_states) in
    omega (arith, before, after, c.feed.ensures.less)

pub returns-clause-filled : goal.returns-clause-filled
returns-clause-filled c setting sub past filled work before after was is stands grows =
    let in_states : c.args.k < length c.args.clocks.now.states.items = omega (arith, c.requires.clocks.fit.size, c.requires.within) in
    let at : slice_get c.args.clocks.now.states.items c.args.k ≡ Some c.index_mut.result.now = slice_get_read _ _ _ _ refl in_states c.index_mut.ensures.value in
    let one : Some c.index_mut.result.now ≡ Some before = sym at ∙ was in
    let old : c.index_mut.result.now ≡ before = cc in
    let two : Some c.feed.new.self ≡ Some after = sym (slice_get-set_same c.args.clocks.now.states.items c.args.k c.feed.new.self in_states) ∙ is in
    let new : c.feed.new.self ≡ after = cc in
    let slot = c.slot_of-slot.ensures ∙ ap (λ ps. (part_at ps c.child_of-child.result).slot) c.deref.ensures.value
    ∙ ap (λ n. (part_at c.args.clocks.now.latest.parts.items n).slot) (c.child_of-child.ensures ∙ ap (λ ns. crossfaded ns c.args.k) c.as_slice.ensures) in
    subst (λ s. StateStands setting sub past (suc filled) c.args.k work s) new
    (c.feed.ensures.filled setting sub past filled c.args.k work (subst (λ s. StateStands setting sub past filled c.args.k work s) (sym old) stands)
    (grows ∙ ap (λ x. sub c.args.k filled ++ x ∷ []) (sym slot)))

pub returns-clause-time : goal.returns-clause-time
returns-clause-time c start n before after was is stands =
    let in_times : c.args.k < length c.args.clocks.now.times.items = omega (arith, c.requires.clocks.in_times, c.requires.within) in
    let at : slice_get c.args.clocks.now.times.items c.args.k ≡ Some c.index.result.now = slice_get_read _ _ _ _ refl in_times c.index.ensures in
    let one : Some c.index.result.now ≡ Some before = sym at ∙ was in
    let old : c.index.result.now ≡ before = cc in
    let two : Some c.next.result ≡ Some after = sym (slice_get-set_same c.args.clocks.now.times.items c.args.k c.next.result in_times) ∙ is in
    let new : c.next.result ≡ after = cc in
    subst (λ t. TimeStands start (suc n) t) new (c.next.ensures.stands start n (subst (λ t. TimeStands start n t) (sym old) stands))
