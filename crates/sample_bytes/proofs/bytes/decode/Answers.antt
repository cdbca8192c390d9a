use Rattle.std.proofs.Common.{◌≡◌, ◌+◌, ◌*◌, ◌∙◌, ◌++◌, [], ◌∷◌, length, take, get_or, w16, to_z, of_z, FitsSigned, arith, rules, ap, sym, append_assoc, take_all}
use Rattle.std.specs.Simd.Lanes.{chunk}
use Rattle.std.proofs.Math.Seq.{take-add}
use Rattle.std.proofs.lemmas.Int.{to_z-of_z}
use Rattle.std.proofs.lemmas.List.{length-set, length-take, take_more, take_more_set}
use Rattle.std.proofs.lemmas.Simd.{length-put_chunk, length-chunk, take_more_put_chunk}
use Rattle.frame_core.specs.Bytes.{sample_in, samples_from}
use Rattle.sample_bytes.proofs.Woven.{samples-append, length-samples}
use Rattle.sample_bytes.proofs.bytes.decode.Goals as goal

pub loop-into-preserved : goal.loop-into-preserved
loop-into-preserved c =
    let at = c.loop-into.done in
    let into = c.loop-into.into in
    let bytes = c.args.bytes.now in
    let long = c.loop-into.invariant.0 in
    let room = c.requires.room in
    let ys = samples_from (chunk (2 * at) 16 bytes) in
    let long_bytes = length-chunk (2 * at) 16 bytes (omega (arith, long, room)) in
    let long_ys = length-samples 8 (chunk (2 * at) 16 bytes) (omega (arith, long_bytes)) in
    let front = length-take (2 * at) bytes in
    let n : 2 * (at + 8) ≡ 2 * at + 16 = omega arith in
    let long_new : length c.decode_eight.new.into ≡ length into = ap length c.decode_eight.ensures ∙ length-put_chunk at into ys in (
      long_new ∙ long,
      omega (arith, long_new),
      ap (take (at + 8)) c.decode_eight.ensures
          ∙ take_more_put_chunk at into ys (at + 8) (omega (arith, long_ys)) (omega arith)
          ∙ ap (λ l. l ++ ys) c.loop-into.invariant.2
          ∙ sym (samples-append at (take (2 * at) bytes) (chunk (2 * at) 16 bytes) (omega (arith, front, long, room)))
          ∙ ap samples_from (sym (take-add (2 * at) 16 bytes))
          ∙ ap (λ m. samples_from (take m bytes)) (sym n),
    )

pub loop-at-preserved : goal.loop-at-preserved
loop-at-preserved c =
    let at = c.loop-at.at in
    let into = c.loop-at.into in
    let bytes = c.args.bytes.now in
    let long = c.loop-at.invariant.0 in
    let room = c.requires.room in
    let low = get_or bytes (2 * at) 0 in
    let high = get_or bytes (2 * at + 1) 0 in
    let fits : FitsSigned w16 c.from_le_bytes.result = search rules in
    let sample = to_z w16 (of_z w16 c.from_le_bytes.result) in
    let front = length-take (2 * at) bytes in
    let bits : low + high * 256 ≡ low + 256 * high = omega arith in
    let n : 2 * (at + 1) ≡ 2 * at + 1 + 1 = omega arith in
    let is : samples_from (take (2 * (at + 1)) bytes) ≡ samples_from (take (2 * at) bytes) ++ sample_in low high ∷ [] =
    ap (λ m. samples_from (take m bytes)) n
    ∙ ap samples_from (take_more bytes (2 * at + 1) 0 (omega (arith, long, room)))
    ∙ ap (λ l. samples_from (l ++ high ∷ [])) (take_more bytes (2 * at) 0 (omega (arith, long, room)))
    ∙ ap samples_from (append_assoc (take (2 * at) bytes) (low ∷ []) (high ∷ []))
    ∙ samples-append at (take (2 * at) bytes) (low ∷ high ∷ []) (omega (arith, front, long, room)) in (
      length-set into at sample ∙ long,
      take_more_set into at sample (omega (arith, long))
          ∙ ap (λ l. l ++ sample ∷ []) c.loop-at.invariant.1
          ∙ ap (λ z. samples_from (take (2 * at) bytes) ++ z ∷ []) (to_z-of_z w16 c.from_le_bytes.result fits ∙ c.from_le_bytes.ensures)
          ∙ ap (λ n. samples_from (take (2 * at) bytes) ++ to_z w16 n ∷ []) bits
          ∙ sym is,
    )

pub returns : goal.returns
returns c =
    let long = c.loop-at.invariant.0 in
    sym (take_all c.loop-at.at c.loop-at.into (omega (arith, long)))
    ∙ c.loop-at.invariant.1
    ∙ ap samples_from (take_all (2 * c.loop-at.at) c.args.bytes.now (omega (arith, long, c.requires.room)))
