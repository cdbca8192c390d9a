use Rattle.std.proofs.Common.{◌<◌, ◌+◌, ◌∙◌, ◌∷◌, [], ◌++◌, length, to_z, of_z, w16, FitsSigned, arith, refl, ap, sym, rules}
use Rattle.std.proofs.lemmas.List.{length-set, take_more_set}
use Rattle.std.proofs.lemmas.List.FromFn.{map-range_with_len_more}
use Rattle.std.proofs.lemmas.Int.{to_z-of_z}
use Rattle.liq_base.specs.declared.memory.Kind.TheVariants.{Stereo}
use Rattle.frame_core.specs.Bytes.{samples_from}
use Rattle.frame_core.specs.Sounds.{left_at, lefts_from, right_at, rights_from}
use Rattle.frame_core.proofs.track.read_pairs.Goals as goal

pub loop-j-preserved : goal.loop-j-preserved
loop-j-preserved c =
    let j = c.loop-j.j in
    let at = c.args.at in
    let samples = samples_from c.args.bytes.now in
    let now = c.loop-j.invariant in
    let left = c.number_at.result in
    let right = c.number_at-in-loop-j.result in
    let fit_left : FitsSigned w16 c.number_at.result = search rules in
    let fit_right : FitsSigned w16 c.number_at-in-loop-j.result = search rules in
    let room : j < length c.loop-j.left = omega (arith, c.loop-j-test.true, now.left_long) in
    let room_right : j < length c.loop-j.right = omega (arith, c.loop-j-test.true, now.right_long) in
    record {
      left_long = length-set c.loop-j.left j (to_z w16 (of_z w16 left)) ∙ now.left_long;
      right_long = length-set c.loop-j.right j (to_z w16 (of_z w16 right)) ∙ now.right_long;
      left = take_more_set c.loop-j.left j (to_z w16 (of_z w16 left)) room ∙ ap (λ l. l ++ to_z w16 (of_z w16 left) ∷ []) now.left
          ∙ ap (λ x. lefts_from (record { kind = Stereo; samples = samples }) Stereo at j ++ x ∷ []) (to_z-of_z w16 left fit_left ∙ c.number_at.ensures)
          ∙ sym (map-range_with_len_more (left_at Stereo samples Stereo) at j (at + j) refl);
      right = take_more_set c.loop-j.right j (to_z w16 (of_z w16 right)) room_right ∙ ap (λ l. l ++ to_z w16 (of_z w16 right) ∷ []) now.right
          ∙ ap (λ x. rights_from (record { kind = Stereo; samples = samples }) Stereo at j ++ x ∷ []) (to_z-of_z w16 right fit_right ∙ c.number_at-in-loop-j.ensures)
          ∙ sym (map-range_with_len_more (right_at Stereo samples Stereo) at j (at + j) refl);
    }
