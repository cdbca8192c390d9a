use Rattle.std.proofs.Common.{◌≡◌, ◌<◌, ◌+◌, ◌∙◌, ◌++◌, ◌∷◌, [], ℕ, true, false, get_or, length, take, arith, rules, ap, sym, subst}
use Rattle.std.proofs.lemmas.List.{length-take, take_more}
use Rattle.op_mix.specs.Stretches.{offers_in, samples_of}
use Rattle.op_mix.proofs.Summing.{Added, many_few, one_added, passed_over, room_for}
use Rattle.op_mix.proofs.lane.add_all.Goals as goal

pub loop-child-preserved-then-not-offers : goal.loop-child-preserved-then-not-offers
loop-child-preserved-then-not-offers c =
    let child : ℕ = get_or c.args.children.now c.loop-child.child-index 0 in
    let more : take (c.loop-child.child-index + 1) c.args.children.now ≡ take c.loop-child.child-index c.args.children.now ++ child ∷ [] =
    take_more c.args.children.now c.loop-child.child-index 0 c.loop-child-test.true in
    let quiet : c.offers.result ≡ false = search rules in
    let silent : offers_in c.args.parts.now child ≡ false = sym c.offers.ensures ∙ quiet in
    record {
      long = c.loop-child.invariant.long;
      added = subst (λ xs. Added (offers_in c.args.parts.now) (λ child. samples_of c.args.lanes.now child (length c.args.sums.now)) (length c.args.sums.now) xs c.loop-child.count c.loop-child.sums) (sym more)
          (passed_over (offers_in c.args.parts.now) (λ child. samples_of c.args.lanes.now child (length c.args.sums.now)) (length c.args.sums.now)
          (take c.loop-child.child-index c.args.children.now) child c.loop-child.count c.loop-child.sums c.loop-child.invariant.added silent);
    }

pub overflow_add-count : goal.overflow_add-count
overflow_add-count c =
    let is = c.loop-child.invariant.added.count_is in
    let few = many_few (offers_in c.args.parts.now) (take c.loop-child.child-index c.args.children.now) in
    let taken = length-take c.loop-child.child-index c.args.children.now in
    omega (arith, is, few, taken, c.loop-child-test.true, c.requires.few)

pub loop-child-preserved : goal.loop-child-preserved
loop-child-preserved c =
    let child : ℕ = get_or c.args.children.now c.loop-child.child-index 0 in
    let within : c.loop-child.child-index < length c.args.children.now = c.loop-child-test.true in
    let more : take (c.loop-child.child-index + 1) c.args.children.now ≡ take c.loop-child.child-index c.args.children.now ++ child ∷ [] =
    take_more c.args.children.now c.loop-child.child-index 0 within in
    let loud : c.offers.result ≡ true = search rules in
    let heard : offers_in c.args.parts.now child ≡ true = sym c.offers.ensures ∙ loud in
    let lane_is : c.samples_of-lane.result.now ≡ samples_of c.args.lanes.now child (length c.args.sums.now) =
    c.samples_of-lane.ensures.is ∙ ap (samples_of c.args.lanes.now child) c.loop-child.invariant.long in
    let long : length c.add_into.new.sum ≡ length c.loop-child.sums = omega arith in
    record {
      long = long ∙ c.loop-child.invariant.long;
      added = subst (λ xs. Added (offers_in c.args.parts.now) (λ child. samples_of c.args.lanes.now child (length c.args.sums.now)) (length c.args.sums.now) xs (c.loop-child.count + 1) c.add_into.new.sum) (sym more)
          (one_added (offers_in c.args.parts.now) (λ child. samples_of c.args.lanes.now child (length c.args.sums.now)) (length c.args.sums.now)
          (take c.loop-child.child-index c.args.children.now) child c.loop-child.count c.loop-child.sums c.samples_of-lane.result.now c.add_into.new.sum
          c.loop-child.invariant.added heard lane_is c.add_into.ensures.added (c.add_into.ensures.counted c.loop-child.count c.loop-child.invariant.added.fit));
    }

pub add_into-requires-clause-same : goal.add_into-requires-clause-same
add_into-requires-clause-same c = c.samples_of-lane.ensures.long

pub add_into-requires-clause-room : goal.add_into-requires-clause-room
add_into-requires-clause-room c =
    let is = c.loop-child.invariant.added.count_is in
    let few = many_few (offers_in c.args.parts.now) (take c.loop-child.child-index c.args.children.now) in
    let taken = length-take c.loop-child.child-index c.args.children.now in
    room_for c.loop-child.count c.loop-child.sums (omega (arith, is, few, taken, c.loop-child-test.true, c.requires.few)) c.loop-child.invariant.added.fit
