use Rattle.std.proofs.Common.{◌≡◌, ◌+◌, ◌*◌, ◌∙◌, ◌++◌, [], ◌∷◌, length, take, get_or, w16, to_z, of_z, FitsSigned, arith, rules, ap, sym, take_all}
use Rattle.std.specs.Simd.Lanes.{chunk}
use Rattle.std.proofs.Math.Seq.{take-add}
use Rattle.std.proofs.lemmas.Simd.{length-put_chunk, length-chunk, take_more_put_chunk}
use Rattle.std.proofs.lemmas.Int.{to_z-of_z}
use Rattle.std.proofs.lemmas.List.{length-set, length-take, take_more_set}
use Rattle.sample_bytes.specs.Wide.{wide_samples_in}
use Rattle.sample_bytes.proofs.Threes.{wide-append, wide_three_more}
use Rattle.sample_bytes.proofs.Shuffles.{length-wide_samples}
use Rattle.sample_bytes.proofs.wide.decode_wide.Goals as goal

pub loop-into-preserved : goal.loop-into-preserved
loop-into-preserved c =
    let at = c.loop-into.done in
    let into = c.loop-into.into in
    let bytes = c.args.bytes.now in
    let long = c.loop-into.invariant.0 in
    let room = c.requires.room in
    let ys = wide_samples_in (chunk (3 * at) 24 bytes) in
    let long_bytes = length-chunk (3 * at) 24 bytes (omega (arith, long, room)) in
    let long_ys = length-wide_samples 8 (chunk (3 * at) 24 bytes) (omega (arith, long_bytes)) in
    let front = length-take (3 * at) bytes in
    let n : 3 * (at + 8) ≡ 3 * at + 24 = omega arith in
    let long_new : length c.decode_wide_eight.new.into ≡ length into = ap length c.decode_wide_eight.ensures ∙ length-put_chunk at into ys in (
      long_new ∙ long,
      omega (arith, long_new),
      ap (take (at + 8)) c.decode_wide_eight.ensures
          ∙ take_more_put_chunk at into ys (at + 8) (omega (arith, long_ys)) (omega arith)
          ∙ ap (λ l. l ++ ys) c.loop-into.invariant.2
          ∙ sym (wide-append at (take (3 * at) bytes) (chunk (3 * at) 24 bytes) (omega (arith, front, long, room)))
          ∙ ap wide_samples_in (sym (take-add (3 * at) 24 bytes))
          ∙ ap (λ m. wide_samples_in (take m bytes)) (sym n),
    )

pub loop-at-preserved : goal.loop-at-preserved
loop-at-preserved c =
    let at = c.loop-at.at in
    let into = c.loop-at.into in
    let bytes = c.args.bytes.now in
    let long = c.loop-at.invariant.0 in
    let room = c.requires.room in
    let low = get_or bytes (3 * at + 1) 0 in
    let high = get_or bytes (3 * at + 2) 0 in
    let fits : FitsSigned w16 c.from_le_bytes.result = search rules in
    let sample = to_z w16 (of_z w16 c.from_le_bytes.result) in
    let bits : low + high * 256 ≡ low + 256 * high = omega arith in (
      length-set into at sample ∙ long,
      take_more_set into at sample (omega (arith, long))
          ∙ ap (λ l. l ++ sample ∷ []) c.loop-at.invariant.1
          ∙ ap (λ z. wide_samples_in (take (3 * at) bytes) ++ z ∷ []) (to_z-of_z w16 c.from_le_bytes.result fits ∙ c.from_le_bytes.ensures)
          ∙ ap (λ n. wide_samples_in (take (3 * at) bytes) ++ to_z w16 n ∷ []) bits
          ∙ sym (wide_three_more bytes at (omega (arith, long, room))),
    )

pub returns : goal.returns
returns c =
    let long = c.loop-at.invariant.0 in
    sym (take_all c.loop-at.at c.loop-at.into (omega (arith, long)))
    ∙ c.loop-at.invariant.1
    ∙ ap wide_samples_in (take_all (3 * c.loop-at.at) c.args.bytes.now (omega (arith, long, c.requires.room)))
