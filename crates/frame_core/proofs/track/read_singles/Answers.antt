use Rattle.std.proofs.Common.{◌<◌, ◌+◌, ◌∙◌, ◌∷◌, [], ◌++◌, length, map, to_z, of_z, w16, FitsSigned, arith, refl, ap, sym, rules}
use Rattle.std.specs.List.{range_with_len}
use Rattle.std.proofs.lemmas.List.{length-set, take_more_set}
use Rattle.std.proofs.lemmas.List.FromFn.{map-range_with_len_more}
use Rattle.std.proofs.lemmas.Int.{to_z-of_z}
use Rattle.frame_core.specs.Bytes.{samples_from}
use Rattle.frame_core.specs.Sounds.{sample_at}
use Rattle.frame_core.proofs.track.read_singles.Goals as goal

pub loop-j-preserved : goal.loop-j-preserved
loop-j-preserved c =
    let j = c.loop-j.j in
    let at = c.args.at in
    let samples = samples_from c.args.bytes.now in
    let now = c.loop-j.invariant in
    let one = c.number_at.result in
    let fit : FitsSigned w16 c.number_at.result = search rules in
    let room : j < length c.loop-j.into = omega (arith, c.loop-j-test.true, now.long) in
    record {
      long = length-set c.loop-j.into j (to_z w16 (of_z w16 one)) ∙ now.long;
      into = take_more_set c.loop-j.into j (to_z w16 (of_z w16 one)) room ∙ ap (λ l. l ++ to_z w16 (of_z w16 one) ∷ []) now.into
          ∙ ap (λ x. map (sample_at samples) (range_with_len at j) ++ x ∷ []) (to_z-of_z w16 one fit ∙ c.number_at.ensures)
          ∙ sym (map-range_with_len_more (sample_at samples) at j (at + j) refl);
    }
