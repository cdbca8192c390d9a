use Rattle.std.proofs.Common.{◌≡◌, ◌+◌, ◌*◌, ◌∙◌, take, drop, arith, ap, sym, w16}
use Rattle.std.specs.List.{flat_map}
use Rattle.std.specs.Simd.Lanes.{chunk, put_chunk}
use Rattle.std.proofs.lemmas.List.{length-take}
use Rattle.std.proofs.lemmas.Simd.{length-chunk}
use Rattle.sample_bytes.specs.Wide.{wide_bytes}
use Rattle.sample_kernels.proofs.Lanes.{back}
use Rattle.sample_bytes.proofs.Woven.{again, woven, front_half, back_half, halves_woven, woven_halves_fit}
use Rattle.sample_bytes.proofs.Blocks.{put-behind}
use Rattle.sample_bytes.proofs.Shuffles.{half_wide_long, both_wide_halves}
use Rattle.sample_bytes.proofs.wide.encode_wide_eight.Goals as goal

pub returns : goal.returns
returns c =
    let at = c.args.at in
    let into = c.args.into.now in
    let lefts = chunk at 8 c.args.left.now in
    let rights = chunk at 8 c.args.right.now in
    let long_left = length-chunk at 8 c.args.left.now c.requires.within.0 in
    let long_right = length-chunk at 8 c.args.right.now (omega (arith, c.requires.within.0, c.requires.within.1)) in
    let halves = halves_woven lefts rights long_left long_right c.load_samples-lefts.ensures.fit c.load_samples-rights.ensures.fit in
    let fits = woven_halves_fit lefts rights c.load_samples-lefts.ensures.fit c.load_samples-rights.ensures.fit in
    let front = flat_map wide_bytes (woven (take 4 lefts) (take 4 rights)) in
    let behind = flat_map wide_bytes (woven (drop 4 lefts) (drop 4 rights)) in
    let long_front = half_wide_long (take 4 lefts) (take 4 rights) (omega (arith, length-take 4 lefts, long_left)) (omega (arith, length-take 4 rights, long_right)) in
    let laid : c.lay_wide_eight.new.into ≡ put_chunk (6 * at) into (flat_map wide_bytes (again (front_half c.load_samples-lefts.result c.load_samples-rights.result))) =
    c.lay_wide_eight.ensures in
    let first : c.lay_wide_eight.new.into ≡ put_chunk (6 * at) into front =
    laid
    ∙ ap (λ l. put_chunk (6 * at) into (flat_map wide_bytes (again (front_half l c.load_samples-rights.result)))) c.load_samples-lefts.ensures.lanes
    ∙ ap (λ l. put_chunk (6 * at) into (flat_map wide_bytes (again (front_half lefts l)))) c.load_samples-rights.ensures.lanes
    ∙ ap (λ l. put_chunk (6 * at) into (flat_map wide_bytes (again l))) halves.0
    ∙ ap (λ l. put_chunk (6 * at) into (flat_map wide_bytes l)) (back w16 (woven (take 4 lefts) (take 4 rights)) fits.0) in
    let between = c.lay_wide_eight.new.into in
    let laid_behind : c.lay_wide_eight-2.new.into ≡ put_chunk (6 * at + 24) between (flat_map wide_bytes (again (back_half c.load_samples-lefts.result c.load_samples-rights.result))) =
    c.lay_wide_eight-2.ensures in
    laid_behind
    ∙ ap (λ l. put_chunk (6 * at + 24) between (flat_map wide_bytes (again (back_half l c.load_samples-rights.result)))) c.load_samples-lefts.ensures.lanes
    ∙ ap (λ l. put_chunk (6 * at + 24) between (flat_map wide_bytes (again (back_half lefts l)))) c.load_samples-rights.ensures.lanes
    ∙ ap (λ l. put_chunk (6 * at + 24) between (flat_map wide_bytes (again l))) halves.1
    ∙ ap (λ l. put_chunk (6 * at + 24) between (flat_map wide_bytes l)) (back w16 (woven (drop 4 lefts) (drop 4 rights)) fits.1)
    ∙ ap (λ l. put_chunk (6 * at + 24) l behind) first
    ∙ put-behind (6 * at) (6 * at + 24) into front behind (omega (arith, long_front))
    ∙ ap (put_chunk (6 * at) into) (both_wide_halves lefts rights (long_right ∙ sym long_left))
