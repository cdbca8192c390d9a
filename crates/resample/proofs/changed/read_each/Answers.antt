use Rattle.std.proofs.Common.{◌≡◌, ◌<◌, ◌+◌, ◌*◌, ◌∙◌, ◌∷◌, [], ◌++◌, ℕ, length, map, to_z, of_z, w16, FitsSigned, arith, refl, ap, sym, rules}
use Rattle.std.specs.List.{range_with_len}
use Rattle.std.proofs.lemmas.List.{length-set, take_more_set}
use Rattle.std.proofs.lemmas.List.FromFn.{map-range_with_len_more}
use Rattle.std.proofs.lemmas.Int.{to_z-of_z}
use Rattle.resample.specs.Changes.{samples_in}
use Rattle.resample.specs.Places.{reached}
use Rattle.resample.specs.Resampled.{resampled_sample}
use Rattle.resample.proofs.Changing.{between_is, place_there, room_there}
use Rattle.resample.proofs.Moves.{next_place}
use Rattle.resample.proofs.changed.read_each.Goals as goal

pub place_of-place-requires-clause-room : goal.place_of-place-requires-clause-room
place_of-place-requires-clause-room c =
    room_there c.args.source c.args.way.now c.args.at (length c.args.into.now) c.requires.source c.requires.way c.requires.within

pub sample_between-requires-clause-block : goal.sample_between-requires-clause-block
sample_between-requires-clause-block c =
    let now = c.loop-k.invariant in
    let less = c.loop-k-test.true in
    place_there c.args.source c.args.way.now (c.args.at + c.loop-k.k) c.loop-k.place c.requires.source c.requires.way (omega (arith, less, now.long, c.requires.within)) now.whole

pub moved-place-requires-clause-room : goal.moved-place-requires-clause-room
moved-place-requires-clause-room c =
    let now = c.loop-k.invariant in
    let less = c.loop-k-test.true in
    let there = place_there c.args.source c.args.way.now (c.args.at + c.loop-k.k) c.loop-k.place c.requires.source c.requires.way (omega (arith, less, now.long, c.requires.within)) now.whole in
    let most = c.requires.source.file.most in
    let step = c.requires.way.block in
    let few = c.requires.way.few in
    omega (arith, there, most, step, few)

pub loop-k-preserved : goal.loop-k-preserved
loop-k-preserved c =
    let k = c.loop-k.k in
    let at = c.args.at in
    let way = c.args.way.now in
    let now = c.loop-k.invariant in
    let f = λ (j : ℕ). resampled_sample way.from way.to c.args.source.kind (samples_in c.args.source) j c.args.side in
    let one = c.sample_between.result in
    let fit : FitsSigned w16 c.sample_between.result = search rules in
    let room : k < length c.loop-k.into = omega (arith, c.loop-k-test.true, now.long) in
    let is = to_z-of_z w16 one fit ∙ c.sample_between.ensures ∙ between_is c.args.source way (at + k) c.args.side c.loop-k.place now.part now.whole in
    let next : (at + k) + 1 ≡ at + (k + 1) = omega arith in
    record {
      long = length-set c.loop-k.into k (to_z w16 (of_z w16 one)) ∙ now.long;
      into = take_more_set c.loop-k.into k (to_z w16 (of_z w16 one)) room ∙ ap (λ l. l ++ to_z w16 (of_z w16 one) ∷ []) now.into
          ∙ ap (λ x. map f (range_with_len at k) ++ x ∷ []) is
          ∙ sym (map-range_with_len_more f at k (at + k) refl);
      part = c.moved-place.ensures.part;
      whole = c.moved-place.ensures.whole
          ∙ next_place way.from way.to (at + k) (reached way.to c.loop-k.place) (reached way.to way.step) now.whole c.requires.way.whole
          ∙ ap (λ n. n * way.from) next;
    }
