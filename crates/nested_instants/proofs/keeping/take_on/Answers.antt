use Rattle.std.proofs.Common.{◌≡◌, ◌<◌, ◌+◌, ◌∙◌, Some, set, length, slice_get, arith, ap, sym, refl, subst, inl, inr}
use Rattle.std.proofs.lemmas.Option.{slice_get_read}
use Rattle.std.proofs.Math.ListN.{length-set}
use Rattle.node_states.specs.Times.{TimeStands}
use Rattle.clock_nodes.proofs.Places.{same_or_other, slice_get-set_other, slice_get-set_same}
use Rattle.nested_instants.proofs.keeping.take_on.Goals as goal

pub later-requires : goal.later-requires
later-requires c =
    let in_times : c.args.k < length c.args.clocks.now.times.items = omega (arith, c.requires.clocks.in_times, c.requires.within) in
    let was : slice_get c.args.clocks.now.times.items c.args.k ≡ Some c.index.result.now = slice_get_read _ _ _ _ refl in_times c.index.ensures in
    let rate = c.requires.clocks.rates c.args.k c.index.result.now was in
    omega (arith, rate, c.requires.later)

pub returns-clause-clocks : goal.returns-clause-clocks
returns-clause-clocks c =
    let in_times : c.args.k < length c.args.clocks.now.times.items = omega (arith, c.requires.clocks.in_times, c.requires.within) in
    let was : slice_get c.args.clocks.now.times.items c.args.k ≡ Some c.index.result.now = slice_get_read _ _ _ _ refl in_times c.index.ensures in
    record {
      fit = c.requires.clocks.fit;
      in_times = length-set _ _ _ ∙ c.requires.clocks.in_times;
      chains = c.requires.clocks.chains;
      latest = c.requires.clocks.latest;
      room = c.requires.clocks.room;
      stretch_room = c.requires.clocks.stretch_room;
      resting = record { ahead = c.requires.clocks.resting.ahead; through = c.requires.clocks.resting.through };
      rates = λ j time stored. elim (same_or_other c.args.k j) [
        | inl same ↦ (let put : Some c.later.result ≡ Some time = sym (slice_get-set_same c.args.clocks.now.times.items c.args.k c.later.result in_times)
            ∙ ap (slice_get (set c.args.clocks.now.times.items c.args.k c.later.result)) same ∙ stored in
            let is : c.later.result ≡ time = cc in
            ap (λ t. t.rate) (sym is) ∙ c.later.ensures.rate ∙ c.requires.clocks.rates c.args.k c.index.result.now was)
        | inr other ↦ c.requires.clocks.rates j time (sym (slice_get-set_other c.args.clocks.now.times.items c.args.k j c.later.result other) ∙ stored)
      ];
      frames = λ j time stored. elim (same_or_other c.args.k j) [
        | inl same ↦ (let put : Some c.later.result ≡ Some time = sym (slice_get-set_same c.args.clocks.now.times.items c.args.k c.later.result in_times)
            ∙ ap (slice_get (set c.args.clocks.now.times.items c.args.k c.later.result)) same ∙ stored in
            let is : c.later.result ≡ time = cc in
            ap (λ t. t.frame) (sym is) ∙ c.later.ensures.frame ∙ c.requires.clocks.frames c.args.k c.index.result.now was)
        | inr other ↦ c.requires.clocks.frames j time (sym (slice_get-set_other c.args.clocks.now.times.items c.args.k j c.later.result other) ∙ stored)
      ];
    }

pub returns-clause-times : goal.returns-clause-times
returns-clause-times c i other = slice_get-set_other _ c.args.k i _ (λ e. other (sym e))

pub returns-clause-time : goal.returns-clause-time
returns-clause-time c start n before after was is stands =
    let in_times : c.args.k < length c.args.clocks.now.times.items = omega (arith, c.requires.clocks.in_times, c.requires.within) in
    let at : slice_get c.args.clocks.now.times.items c.args.k ≡ Some c.index.result.now = slice_get_read _ _ _ _ refl in_times c.index.ensures in
    let one : Some c.index.result.now ≡ Some before = sym at ∙ was in
    let old : c.index.result.now ≡ before = cc in
    let two : Some c.later.result ≡ Some after = sym (slice_get-set_same c.args.clocks.now.times.items c.args.k c.later.result in_times) ∙ is in
    let new : c.later.result ≡ after = cc in
    subst (λ t. TimeStands start (n + c.args.many) t) new (c.later.ensures.stands start n (subst (λ t. TimeStands start n t) (sym old) stands))
