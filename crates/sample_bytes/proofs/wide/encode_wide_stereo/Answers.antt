use Rattle.std.proofs.Common.{◌≡◌, ◌∙◌, ◌+◌, ◌*◌, ◌++◌, pos, take, length, get_or, arith, ap, sym, w16, FitsSigned, rules, append_assoc}
use Rattle.std.proofs.lemmas.Int.{to_z-of_z}
use Rattle.std.specs.Simd.Lanes.{chunk, put_chunk}
use Rattle.std.proofs.lemmas.Simd.{take_more_put_chunk, length-put_chunk, length-chunk}
use Rattle.liq_base.specs.declared.memory.Kind.TheVariants.{Stereo}
use Rattle.sample_bytes.specs.Wide.{wide_bytes, encoded_wide}
use Rattle.sample_bytes.proofs.Shuffles.{more_wide, length-encoded_wide}
use Rattle.sample_bytes.proofs.Threes.{wide_more}
use Rattle.sample_bytes.proofs.wide.encode_wide_stereo.Goals as goal

pub loop-done-preserved : goal.loop-done-preserved
loop-done-preserved c =
    let at = c.loop-done.done in
    let left = c.args.left.now in
    let right = c.args.right.now in
    let into = c.loop-done.into in
    let ys = encoded_wide Stereo (chunk at 8 left) (chunk at 8 right) in
    let is : c.encode_wide_eight.new.into ≡ put_chunk (6 * at) into ys = c.encode_wide_eight.ensures in
    let long_left = length-chunk at 8 left (omega arith) in
    let long_right = length-chunk at 8 right (omega (arith, c.requires.same)) in
    let long_ys = length-encoded_wide (chunk at 8 left) (chunk at 8 right) (long_right ∙ sym long_left) in
    let long_new : length c.encode_wide_eight.new.into ≡ length into = ap length is ∙ length-put_chunk (6 * at) into ys in (
      long_new ∙ c.loop-done.invariant.0,
      omega arith,
      ap (take (6 * (at + 8))) is
          ∙ take_more_put_chunk (6 * at) into ys (6 * (at + 8)) (omega (arith, long_ys, long_left)) (omega arith)
          ∙ ap (λ l. l ++ ys) c.loop-done.invariant.2
          ∙ sym (more_wide left right at 8 c.requires.same),
    )

pub loop-at-preserved : goal.loop-at-preserved
loop-at-preserved c =
    let at = c.loop-at.at in
    let l = get_or c.args.left.now at (pos 0) in
    let r = get_or c.args.right.now at (pos 0) in
    let into = c.loop-at.into in
    let between = c.lay_wide.new.into in
    let behind = c.lay_wide-in-loop-at.new.into in
    let fits_left : FitsSigned w16 l = search rules in
    let fits_right : FitsSigned w16 r = search rules in
    let first : between ≡ put_chunk (6 * at) into (wide_bytes l) =
    c.lay_wide.ensures ∙ ap (λ s. put_chunk (6 * at) into (wide_bytes s)) (to_z-of_z w16 l fits_left) in
    let second : behind ≡ put_chunk (6 * at + 3) between (wide_bytes r) =
    c.lay_wide-in-loop-at.ensures ∙ ap (λ s. put_chunk (6 * at + 3) between (wide_bytes s)) (to_z-of_z w16 r fits_right) in
    let long_between : length between ≡ 6 * length c.args.left.now =
    ap length first ∙ length-put_chunk (6 * at) into (wide_bytes l) ∙ c.loop-at.invariant.0 in
    let long : length behind ≡ 6 * length c.args.left.now =
    ap length second ∙ length-put_chunk (6 * at + 3) between (wide_bytes r) ∙ long_between in (
      long,
      ap (take (6 * (at + 1))) second
          ∙ take_more_put_chunk (6 * at + 3) between (wide_bytes r) (6 * (at + 1)) (omega arith) (omega (arith, long_between))
          ∙ ap (λ m. take (6 * at + 3) m ++ wide_bytes r) first
          ∙ ap (λ m. m ++ wide_bytes r) (take_more_put_chunk (6 * at) into (wide_bytes l) (6 * at + 3) (omega arith) (omega arith))
          ∙ ap (λ m. (m ++ wide_bytes l) ++ wide_bytes r) c.loop-at.invariant.1
          ∙ append_assoc (encoded_wide Stereo (take at c.args.left.now) (take at c.args.right.now)) (wide_bytes l) (wide_bytes r)
          ∙ sym (wide_more Stereo c.args.left.now c.args.right.now at (pos 0) (pos 0) (omega arith) c.requires.same),
    )
