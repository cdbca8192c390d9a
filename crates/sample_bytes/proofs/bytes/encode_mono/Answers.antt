use Rattle.std.proofs.Common.{◌≡◌, ◌∙◌, ◌+◌, ◌*◌, ◌++◌, pos, map, take, length, get_or, arith, ap, sym, subst, w16, to_z, of_z, FitsSigned, rules}
use Rattle.std.specs.List.{flat_map}
use Rattle.std.specs.Simd.Lanes.{chunk, put_chunk, Each1}
use Rattle.std.proofs.Math.Seq.{take-add}
use Rattle.std.proofs.lemmas.Int.{to_z-of_z}
use Rattle.std.proofs.lemmas.List.Concat.{flat_map-append}
use Rattle.std.proofs.lemmas.Simd.{take_more_put_chunk, length-put_chunk, length-chunk}
use Rattle.frame_core.specs.Bytes.{sample_bytes}
use Rattle.sample_bytes.proofs.Blocks.{samples_more}
use Rattle.sample_kernels.proofs.Lanes.{back}
use Rattle.sample_bytes.proofs.Woven.{length-encoded}
use Rattle.sample_bytes.proofs.bytes.encode_mono.Goals as goal

pub lay_eight-requires-clause-long : goal.lay_eight-requires-clause-long
lay_eight-requires-clause-long c =
    let at = c.loop-done.done in
    let samples = c.args.samples.now in
    let eight_is : map (to_z w16) (map (of_z w16) c.load_samples-eight.result) ≡ chunk at 8 samples =
    rw c.load_samples-eight.ensures.lanes (back w16 (chunk at 8 samples) c.load_samples-eight.ensures.fit) in
    let long_eight = length-chunk at 8 samples (omega arith) in
    ap length eight_is ∙ long_eight

pub lay_eight-requires-clause-fit : goal.lay_eight-requires-clause-fit
lay_eight-requires-clause-fit c =
    let at = c.loop-done.done in
    let samples = c.args.samples.now in
    let eight_is : map (to_z w16) (map (of_z w16) c.load_samples-eight.result) ≡ chunk at 8 samples =
    rw c.load_samples-eight.ensures.lanes (back w16 (chunk at 8 samples) c.load_samples-eight.ensures.fit) in
    let long_eight = length-chunk at 8 samples (omega arith) in
    subst (Each1 (FitsSigned w16)) (sym eight_is) c.load_samples-eight.ensures.fit

pub loop-done-preserved : goal.loop-done-preserved
loop-done-preserved c =
    let at = c.loop-done.done in
    let samples = c.args.samples.now in
    let eight_is : map (to_z w16) (map (of_z w16) c.load_samples-eight.result) ≡ chunk at 8 samples =
    rw c.load_samples-eight.ensures.lanes (back w16 (chunk at 8 samples) c.load_samples-eight.ensures.fit) in
    let long_eight = length-chunk at 8 samples (omega arith) in
    let into = c.loop-done.into in
    let ys = flat_map sample_bytes (chunk at 8 samples) in
    let is : c.lay_eight.new.into ≡ put_chunk (2 * at) into ys = c.lay_eight.ensures ∙ ap (λ l. put_chunk (2 * at) into (flat_map sample_bytes l)) eight_is in
    let long_ys = length-encoded (chunk at 8 samples) in
    let long_new : length c.lay_eight.new.into ≡ length into = ap length is ∙ length-put_chunk (2 * at) into ys in (
      long_new ∙ c.loop-done.invariant.0,
      omega arith,
      ap (take (2 * (at + 8))) is
          ∙ take_more_put_chunk (2 * at) into ys (2 * (at + 8)) (omega (arith, long_ys, long_eight)) (omega arith)
          ∙ ap (λ l. l ++ ys) c.loop-done.invariant.2
          ∙ sym (flat_map-append sample_bytes (take at samples) (chunk at 8 samples))
          ∙ ap (flat_map sample_bytes) (sym (take-add at 8 samples)),
    )

pub loop-at-preserved : goal.loop-at-preserved
loop-at-preserved c =
    let at = c.loop-at.at in
    let sample = get_or c.args.samples.now at (pos 0) in
    let fits : FitsSigned w16 sample = search rules in
    let is : c.lay_sample.new.into ≡ put_chunk (2 * at) c.loop-at.into (sample_bytes sample) =
    c.lay_sample.ensures ∙ ap (λ s. put_chunk (2 * at) c.loop-at.into (sample_bytes s)) (to_z-of_z w16 sample fits) in
    let long : length c.lay_sample.new.into ≡ 2 * length c.args.samples.now =
    ap length is ∙ length-put_chunk (2 * at) c.loop-at.into (sample_bytes sample) ∙ c.loop-at.invariant.0 in (
      long,
      ap (take (2 * (at + 1))) is
          ∙ take_more_put_chunk (2 * at) c.loop-at.into (sample_bytes sample) (2 * (at + 1)) (omega arith) (omega arith)
          ∙ ap (λ l. l ++ sample_bytes sample) c.loop-at.invariant.1
          ∙ sym (samples_more c.args.samples.now at (pos 0) (omega arith)),
    )
