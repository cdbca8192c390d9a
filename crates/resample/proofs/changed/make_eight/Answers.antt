use Rattle.std.proofs.Common.{◌≡◌, ◌<◌, ◌≤◌, ◌+◌, ◌*◌, ◌∙◌, ◌∷◌, [], ◌++◌, ℕ, length, map, take, to_z, of_z, w16, FitsSigned, arith, refl, ap, sym, rules}
use Rattle.std.specs.List.{range_with_len}
use Rattle.std.specs.Simd.Lanes.{put_chunk}
use Rattle.std.proofs.lemmas.List.{length-set, take_more_set}
use Rattle.std.proofs.lemmas.List.FromFn.{map-range_with_len_more}
use Rattle.std.proofs.lemmas.Int.{to_z-of_z}
use Rattle.sample_kernels.proofs.Fadings.{taken_all}
use Rattle.resample.specs.Changes.{samples_in}
use Rattle.resample.specs.Places.{reached}
use Rattle.resample.specs.Resampled.{parts_behind, sample_before, sample_behind}
use Rattle.resample.proofs.Eights.{before_is, behind_is, block_inside, eight_made, part_is}
use Rattle.resample.proofs.Moves.{next_place}
use Rattle.resample.proofs.changed.make_eight.Goals as goal

pub loop-k-preserved : goal.loop-k-preserved
loop-k-preserved c =
    let k = c.loop-k.k in
    let first = c.args.first in
    let way = c.args.way.now in
    let source = c.args.source in
    let now = c.loop-k.invariant in
    let place = c.loop-k.place in
    let f = λ (j : ℕ). sample_before way.from way.to source.kind (samples_in source) j c.args.side in
    let g = λ (j : ℕ). sample_behind way.from way.to source.kind (samples_in source) j c.args.side in
    let h = parts_behind way.from way.to in
    let x = c.sample_of.result in
    let y = c.sample_of-in-loop-k.result in
    let fit_x : FitsSigned w16 c.sample_of.result = search rules in
    let fit_y : FitsSigned w16 c.sample_of-in-loop-k.result = search rules in
    let less : k < 8 = c.loop-k-test.true in
    let inside = block_inside source way (first + k) (first + 8) place c.requires.way now.whole (omega (arith, less)) c.requires.inside in
    let is_x = to_z-of_z w16 x fit_x ∙ c.sample_of.ensures ∙ before_is source way (first + k) c.args.side place now.part now.whole in
    let is_y = to_z-of_z w16 y fit_y ∙ c.sample_of-in-loop-k.ensures ∙ behind_is source way (first + k) c.args.side place now.part now.whole c.requires.source inside in
    let is_part = part_is source way (first + k) c.args.side place now.part now.whole in
    let next : (first + k) + 1 ≡ first + (k + 1) = omega arith in
    record {
      long_before = length-set c.loop-k.before k (to_z w16 (of_z w16 x)) ∙ now.long_before;
      long_behind = length-set c.loop-k.behind k (to_z w16 (of_z w16 y)) ∙ now.long_behind;
      long_parts = length-set c.loop-k.parts k place.part ∙ now.long_parts;
      before = take_more_set c.loop-k.before k (to_z w16 (of_z w16 x)) (omega (arith, less, now.long_before)) ∙ ap (λ l. l ++ to_z w16 (of_z w16 x) ∷ []) now.before
          ∙ ap (λ z. map f (range_with_len first k) ++ z ∷ []) is_x
          ∙ sym (map-range_with_len_more f first k (first + k) refl);
      behind = take_more_set c.loop-k.behind k (to_z w16 (of_z w16 y)) (omega (arith, less, now.long_behind)) ∙ ap (λ l. l ++ to_z w16 (of_z w16 y) ∷ []) now.behind
          ∙ ap (λ z. map g (range_with_len first k) ++ z ∷ []) is_y
          ∙ sym (map-range_with_len_more g first k (first + k) refl);
      parts = take_more_set c.loop-k.parts k place.part (omega (arith, less, now.long_parts)) ∙ ap (λ l. l ++ place.part ∷ []) now.parts
          ∙ ap (λ z. map h (range_with_len first k) ++ z ∷ []) is_part
          ∙ sym (map-range_with_len_more h first k (first + k) refl);
      part = c.moved-place.ensures.part;
      whole = c.moved-place.ensures.whole
          ∙ next_place way.from way.to (first + k) (reached way.to place) (reached way.to way.step) now.whole c.requires.way.whole
          ∙ ap (λ n. n * way.from) next;
    }

pub returns-clause-made : goal.returns-clause-made
returns-clause-made c =
    let first = c.args.first in
    let way = c.args.way.now in
    let source = c.args.source in
    let now = c.loop-k.invariant in
    let f = λ (j : ℕ). sample_before way.from way.to source.kind (samples_in source) j c.args.side in
    let g = λ (j : ℕ). sample_behind way.from way.to source.kind (samples_in source) j c.args.side in
    let h = parts_behind way.from way.to in
    let end : c.loop-k.k ≡ 8 = omega (arith, c.loop-k-test.false, c.loop-k.auto.k-end) in
    let before = sym (taken_all 8 c.loop-k.before now.long_before) ∙ sym (ap (λ n. take n c.loop-k.before) end) ∙ now.before ∙ ap (λ n. map f (range_with_len first n)) end in
    let behind = sym (taken_all 8 c.loop-k.behind now.long_behind) ∙ sym (ap (λ n. take n c.loop-k.behind) end) ∙ now.behind ∙ ap (λ n. map g (range_with_len first n)) end in
    let parts = sym (taken_all 8 c.loop-k.parts now.long_parts) ∙ sym (ap (λ n. take n c.loop-k.parts) end) ∙ now.parts ∙ ap (λ n. map h (range_with_len first n)) end in
    c.fade_eight.ensures
    ∙ ap (put_chunk c.args.at c.args.into.now) (eight_made source way c.args.side first c.loop-k.before c.loop-k.behind c.loop-k.parts before behind parts)
