use Rattle.std.proofs.Common.{◌<◌, ◌+◌, ◌*◌, ◌+ℤ◌, ◌∙◌, pos, int_div, ◌∷◌, [], ◌++◌, length, to_z, of_z, w16, FitsSigned, arith, refl, ap, sym, rules}
use Rattle.std.proofs.lemmas.List.{length-set, take_more_set}
use Rattle.std.proofs.lemmas.List.FromFn.{map-range_with_len_more}
use Rattle.std.proofs.lemmas.Int.{to_z-of_z}
use Rattle.liq_base.specs.declared.memory.Kind.TheVariants.{Mono, Stereo}
use Rattle.frame_core.specs.Bytes.{samples_from}
use Rattle.frame_core.specs.Sounds.{left_at, lefts_from, sample_at}
use Rattle.frame_core.proofs.track.read_halves.Goals as goal

pub loop-j-preserved : goal.loop-j-preserved
loop-j-preserved c =
    let j = c.loop-j.j in
    let at = c.args.at in
    let samples = samples_from c.args.bytes.now in
    let now = c.loop-j.invariant in
    let half = c.half_sum.result in
    let left = c.number_at.result in
    let right = c.number_at-in-loop-j.result in
    let fit_left : FitsSigned w16 c.number_at.result = search rules in
    let fit_right : FitsSigned w16 c.number_at-in-loop-j.result = search rules in
    let half_is = c.half_sum.ensures ∙ ap (λ x. int_div (x +ℤ to_z w16 (of_z w16 right)) (pos 2)) (to_z-of_z w16 left fit_left ∙ c.number_at.ensures)
    ∙ ap (λ y. int_div (sample_at samples (2 * (at + j)) +ℤ y) (pos 2)) (to_z-of_z w16 right fit_right ∙ c.number_at-in-loop-j.ensures) in
    let fit : FitsSigned w16 c.half_sum.result = search rules in
    let room : j < length c.loop-j.halves = omega (arith, c.loop-j-test.true, now.long) in
    record {
      long = length-set c.loop-j.halves j (to_z w16 (of_z w16 half)) ∙ now.long;
      halves = take_more_set c.loop-j.halves j (to_z w16 (of_z w16 half)) room ∙ ap (λ l. l ++ to_z w16 (of_z w16 half) ∷ []) now.halves
          ∙ ap (λ x. lefts_from (record { kind = Stereo; samples = samples }) Mono at j ++ x ∷ []) (to_z-of_z w16 half fit ∙ half_is)
          ∙ sym (map-range_with_len_more (left_at Stereo samples Mono) at j (at + j) refl);
    }
