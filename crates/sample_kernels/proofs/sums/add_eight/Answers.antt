use Rattle.std.proofs.Common.{◌∙◌, ◌+ℤ◌, map, ap, w32, to_z, of_z}
use Rattle.std.specs.Simd.Lanes.{zip2, chunk, put_chunk}
use Rattle.sample_kernels.proofs.Lanes.{added, wide_asked, wider, widened_is, added_is, sums_fit, back}
use Rattle.sample_kernels.proofs.sums.add_eight.Goals as goal

pub overflow_cast-sum : goal.overflow_cast-sum
overflow_cast-sum c = rw c.load_samples-parts.ensures.lanes (wide_asked (chunk c.args.at 8 c.args.part.now) c.load_samples-parts.ensures.fit)

pub returns : goal.returns
returns c =
    let sums = chunk c.args.at 8 c.args.sum.now in
    let parts = chunk c.args.at 8 c.args.part.now in
    let sums_of = c.load_sums-sums.ensures.fit in
    let parts_of = c.load_samples-parts.ensures.fit in
    let whole = sums_fit sums parts c.requires.room parts_of in
    record {
      added = rw (c.load_sums-sums.ensures.lanes, c.load_samples-parts.ensures.lanes)
          (ap (λ l. put_chunk c.args.at c.args.sum.now (map (to_z w32) (zip2 added (map (of_z w32) sums) l))) (widened_is parts parts_of)
          ∙ ap (λ l. put_chunk c.args.at c.args.sum.now (map (to_z w32) l)) (added_is sums parts sums_of (wider parts parts_of) whole)
          ∙ ap (put_chunk c.args.at c.args.sum.now) (back w32 (zip2 ◌+ℤ◌ sums parts) whole));
      fit = parts_of;
    }
