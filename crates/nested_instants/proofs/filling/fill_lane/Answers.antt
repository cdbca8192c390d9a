use Rattle.std.proofs.Common.{◌≡◌, ◌<◌, ◌+◌, ◌∙◌, ℕ, Some, set, length, slice_get, arith, ap, sym, refl, subst, inl, inr}
use Rattle.std.specs.Option.{option_map_or}
use Rattle.std.proofs.lemmas.Option.{slice_get_read}
use Rattle.std.proofs.Math.ListN.{length-set}
use Rattle.op_leaf.specs.Lanes.{IsLane}
use Rattle.frame_core.specs.Slots.{title_of}
use Rattle.stream_meaning.specs.Instants.{crossfaded, part_at}
use Rattle.op_mix.specs.Stretches.{samples_of}
use Rattle.node_states.specs.States.{StateStands, left, room}
use Rattle.node_states.specs.Times.{TimeStands}
use Rattle.clock_nodes.proofs.Going.{fit_set}
use Rattle.clock_nodes.proofs.Places.{same_or_other, slice_get-set_other, slice_get-set_same}
use Rattle.nested_instants.specs.Clocks.{clock_at}
use Rattle.nested_instants.proofs.Equal.{not_same}
use Rattle.nested_instants.proofs.Restful.{resting_own}
use Rattle.nested_instants.proofs.filling.fill_lane.Goals as goal

pub fill_samples-requires-clause-room : goal.fill_samples-requires-clause-room
fill_samples-requires-clause-room c =
    let in_states : c.args.k < length c.args.clocks.now.states.items = omega (arith, c.requires.ready.clocks.fit.size, c.requires.within) in
    let at : slice_get c.args.clocks.now.states.items c.args.k ≡ Some c.index_mut.result.now = slice_get_read _ _ _ _ refl in_states c.index_mut.ensures.value in
    let same = ap (λ s. option_map_or room s 0) at in
    omega (arith, same, c.requires.room)

pub later-requires : goal.later-requires
later-requires c =
    let in_times : c.args.k < length c.args.clocks.now.times.items = omega (arith, c.requires.ready.clocks.in_times, c.requires.within) in
    let was : slice_get c.args.clocks.now.times.items c.args.k ≡ Some c.index.result.now = slice_get_read _ _ _ _ refl in_times c.index.ensures in
    let rate = c.requires.ready.clocks.rates c.args.k c.index.result.now was in
    omega (arith, rate, c.requires.ready.later)

pub returns-clause-clocks : goal.returns-clause-clocks
returns-clause-clocks c =
    let in_states : c.args.k < length c.args.clocks.now.states.items = omega (arith, c.requires.ready.clocks.fit.size, c.requires.within) in
    let in_times : c.args.k < length c.args.clocks.now.times.items = omega (arith, c.requires.ready.clocks.in_times, c.requires.within) in
    let at : slice_get c.args.clocks.now.states.items c.args.k ≡ Some c.index_mut.result.now = slice_get_read _ _ _ _ refl in_states c.index_mut.ensures.value in
    let was : slice_get c.args.clocks.now.times.items c.args.k ≡ Some c.index.result.now = slice_get_read _ _ _ _ refl in_times c.index.ensures in
    record {
      fit = fit_set _ _ _ _ in_states
          (λ node found. c.fill_samples.ensures.fits _ _ (c.requires.ready.clocks.fit.each c.args.k node c.index_mut.result.now found at)) c.requires.ready.clocks.fit;
      in_times = length-set _ _ _ ∙ c.requires.ready.clocks.in_times;
      chains = c.requires.ready.clocks.chains;
      latest = c.requires.ready.clocks.latest;
      room = c.requires.ready.clocks.room;
      stretch_room = c.requires.ready.clocks.stretch_room;
      resting = resting_own c.args.scene.now c.args.clocks.now _ c.requires.ready.clocks.resting (clock_at c.args.scene.now.clocks.now c.args.k) c.requires.ready.idle
          (λ i. refl)
          (λ i outside. slice_get-set_other c.args.clocks.now.states.items c.args.k i c.fill_samples.new.state
          (λ e. not_same (clock_at c.args.scene.now.clocks.now i) (clock_at c.args.scene.now.clocks.now c.args.k) outside (ap (clock_at c.args.scene.now.clocks.now) (sym e))))
          (λ i outside. refl);
      rates = λ j time stored. elim (same_or_other c.args.k j) [
        | inl same ↦ (let put : Some c.later.result ≡ Some time = sym (slice_get-set_same c.args.clocks.now.times.items c.args.k c.later.result in_times)
            ∙ ap (slice_get (set c.args.clocks.now.times.items c.args.k c.later.result)) same ∙ stored in
            let is : c.later.result ≡ time = cc in
            ap (λ t. t.rate) (sym is) ∙ c.later.ensures.rate ∙ c.requires.ready.clocks.rates c.args.k c.index.result.now was)
        | inr other ↦ c.requires.ready.clocks.rates j time (sym (slice_get-set_other c.args.clocks.now.times.items c.args.k j c.later.result other) ∙ stored)
      ];
      frames = λ j time stored. elim (same_or_other c.args.k j) [
        | inl same ↦ (let put : Some c.later.result ≡ Some time = sym (slice_get-set_same c.args.clocks.now.times.items c.args.k c.later.result in_times)
            ∙ ap (slice_get (set c.args.clocks.now.times.items c.args.k c.later.result)) same ∙ stored in
            let is : c.later.result ≡ time = cc in
            ap (λ t. t.frame) (sym is) ∙ c.later.ensures.frame ∙ c.requires.ready.clocks.frames c.args.k c.index.result.now was)
        | inr other ↦ c.requires.ready.clocks.frames j time (sym (slice_get-set_other c.args.clocks.now.times.items c.args.k j c.later.result other) ∙ stored)
      ];
    }

pub returns-clause-states : goal.returns-clause-states
returns-clause-states c i other = slice_get-set_other _ c.args.k i _ (λ e. other (sym e))

pub returns-clause-times : goal.returns-clause-times
returns-clause-times c i other = slice_get-set_other _ c.args.k i _ (λ e. other (sym e))

pub returns-clause-no_more : goal.returns-clause-no_more
returns-clause-no_more c =
    let in_states : c.args.k < length c.args.clocks.now.states.items = omega (arith, c.requires.ready.clocks.fit.size, c.requires.within) in
    let at : slice_get c.args.clocks.now.states.items c.args.k ≡ Some c.index_mut.result.now = slice_get_read _ _ _ _ refl in_states c.index_mut.ensures.value in
    let before = ap (λ s. option_map_or left s 0) at in
    let after = ap (λ s. option_map_or left s 0) (slice_get-set_same c.args.clocks.now.states.items c.args.k c.fill_samples.new.state in_states) in
    omega (arith, before, after, c.fill_samples.ensures.less)

pub returns-clause-filled : goal.returns-clause-filled
returns-clause-filled c setting sub past filled work slots before after was is stands lane titled grows =
    let in_states : c.args.k < length c.args.clocks.now.states.items = omega (arith, c.requires.ready.clocks.fit.size, c.requires.within) in
    let at : slice_get c.args.clocks.now.states.items c.args.k ≡ Some c.index_mut.result.now = slice_get_read _ _ _ _ refl in_states c.index_mut.ensures.value in
    let one : Some c.index_mut.result.now ≡ Some before = sym at ∙ was in
    let old : c.index_mut.result.now ≡ before = cc in
    let two : Some c.fill_samples.new.state ≡ Some after = sym (slice_get-set_same c.args.clocks.now.states.items c.args.k c.fill_samples.new.state in_states) ∙ is in
    let new : c.fill_samples.new.state ≡ after = cc in
    let child : crossfaded c.args.scene.now.plan.now.nodes c.args.k ≡ c.child_of-child.result = sym (c.child_of-child.ensures ∙ ap (λ ns. crossfaded ns c.args.k) c.as_slice.ensures) in
    let title : title_of (part_at c.args.clocks.now.latest.parts.items (crossfaded c.args.scene.now.plan.now.nodes c.args.k)).slot ≡ c.title_of-title.result =
    ap (λ (i : ℕ). title_of (part_at c.args.clocks.now.latest.parts.items i).slot) child ∙ sym (c.title_of-title.ensures ∙ ap title_of (c.slot_of.ensures ∙ ap (λ ps. (part_at ps c.child_of-child.result).slot) c.deref.ensures.value)) in
    subst (λ s. StateStands setting sub past (filled + c.args.many) c.args.k work s) new
    (c.fill_samples.ensures.filled setting sub past filled c.args.k work slots (subst (λ s. StateStands setting sub past filled c.args.k work s) (sym old) stands)
    (subst (λ (n : ℕ). IsLane slots c.args.many (samples_of c.args.clocks.now.room.left.items n c.args.many) (samples_of c.args.clocks.now.room.right.items n c.args.many)) child
    lane)
    (λ j low. titled j low ∙ title)
    grows)

pub returns-clause-time : goal.returns-clause-time
returns-clause-time c start n before after was is stands =
    let in_times : c.args.k < length c.args.clocks.now.times.items = omega (arith, c.requires.ready.clocks.in_times, c.requires.within) in
    let at : slice_get c.args.clocks.now.times.items c.args.k ≡ Some c.index.result.now = slice_get_read _ _ _ _ refl in_times c.index.ensures in
    let one : Some c.index.result.now ≡ Some before = sym at ∙ was in
    let old : c.index.result.now ≡ before = cc in
    let two : Some c.later.result ≡ Some after = sym (slice_get-set_same c.args.clocks.now.times.items c.args.k c.later.result in_times) ∙ is in
    let new : c.later.result ≡ after = cc in
    subst (λ t. TimeStands start (n + c.args.many) t) new (c.later.ensures.stands start n (subst (λ t. TimeStands start n t) (sym old) stands))
