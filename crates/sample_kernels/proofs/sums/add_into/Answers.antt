use Rattle.std.proofs.Common.{◌≡◌, ◌+◌, ◌∙◌, ◌+ℤ◌, [], ◌∷◌, pos, length, subst, take_all, take, drop, get_or, w16, w32, FitsSigned, to_z, of_z, arith, rules, ap, sym}
use Rattle.std.specs.Simd.Lanes.{zip2, chunk, put_chunk, Each1}
use Rattle.std.proofs.lemmas.Int.{to_z-of_z}
use Rattle.std.proofs.Math.Seq.{take-add}
use Rattle.std.proofs.lemmas.List.{drop-set-lt, drop-drop, length-set, take_more}
use Rattle.std.proofs.lemmas.List.Elements.{All-get_or}
use Rattle.std.proofs.lemmas.Simd.{length-chunk, length-zip2, length-put_chunk}
use Rattle.std.proofs.lemmas.Grind.{drop_more_same}
use Rattle.sample_kernels.specs.Samples.{IsSumOf}
use Rattle.sample_kernels.proofs.Places.{same_at, zip2_written}
use Rattle.sample_kernels.proofs.Means.{sum_fits, more_counted}
use Rattle.sample_kernels.proofs.Lanes.{each_of_all, each-append, zip2_more, drop-put}
use Rattle.sample_kernels.proofs.sums.add_into.Goals as goal

pub add_eight-requires-clause-room : goal.add_eight-requires-clause-room
add_eight-requires-clause-room c =
    let same = ap (take 8) c.loop-sum.invariant.rest in
    let long = c.loop-sum.invariant.long in
    rw same (each_of_all (IsSumOf 65535) (pos 0) c.loop-sum.done 8 c.args.sum.now (omega (arith, long)) c.requires.room)

pub loop-sum-preserved : goal.loop-sum-preserved
loop-sum-preserved c =
    let at = c.loop-sum.done in
    let sum = c.loop-sum.sum in
    let old = c.args.sum.now in
    let part = c.args.part.now in
    let long = c.loop-sum.invariant.long in
    let same_length = c.requires.same in
    let same : chunk at 8 sum ≡ chunk at 8 old = ap (take 8) c.loop-sum.invariant.rest in
    let ys = zip2 ◌+ℤ◌ (chunk at 8 old) (chunk at 8 part) in
    let is : c.add_eight.new.sum ≡ put_chunk at sum ys = c.add_eight.ensures.added ∙ ap (λ l. put_chunk at sum (zip2 ◌+ℤ◌ l (chunk at 8 part))) same in
    let long_old = length-chunk at 8 old (omega (arith, long)) in
    let long_part = length-chunk at 8 part (omega (arith, long, same_length)) in
    let long_ys = length-zip2 ◌+ℤ◌ (chunk at 8 old) (chunk at 8 part) (omega (arith, long_old, long_part)) in
    let long_new : length c.add_eight.new.sum ≡ length sum = ap length is ∙ length-put_chunk at sum ys in
    let n : 8 + at ≡ at + 8 = omega arith in record {
      long = long_new ∙ long;
      within = omega (arith, long_new);
      made = ap (take (at + 8)) is ∙ zip2_more ◌+ℤ◌ old part sum at 8 (omega (arith, long)) (omega (arith, same_length)) long c.loop-sum.invariant.made;
      rest = ap (drop (at + 8)) is ∙ drop-put at (at + 8) sum ys (omega (arith, long_ys, long_old)) ∙ sym (drop-drop 8 at sum) ∙ ap (drop 8) c.loop-sum.invariant.rest ∙ drop-drop 8 at old;
      fit = subst (Each1 (FitsSigned w16)) (sym (take-add at 8 part)) (each-append (FitsSigned w16) (take at part) (chunk at 8 part) c.loop-sum.invariant.fit c.add_eight.ensures.fit);
    }

pub overflow_add-sum : goal.overflow_add-sum
overflow_add-sum c =
    let sum = get_or c.args.sum.now c.loop-at.at (pos 0) in
    let part = get_or c.args.part.now c.loop-at.at (pos 0) in
    let long = c.loop-at.invariant.long in
    let fits_part : FitsSigned w16 part = search rules in
    let fits_sum : FitsSigned w32 (get_or c.loop-at.sum c.loop-at.at (pos 0)) = search rules in
    let whole : FitsSigned w32 (sum +ℤ part) = sum_fits sum part (All-get_or (IsSumOf 65535) c.args.sum.now c.loop-at.at (pos 0) (omega (arith, long)) c.requires.room) fits_part in
    let fits : FitsSigned w32 part = omega (arith, fits_part) in
    rw (c.from.ensures, to_z-of_z w16 part fits_part, to_z-of_z w32 (get_or c.loop-at.sum c.loop-at.at (pos 0)) fits_sum, same_at c.loop-at.sum c.args.sum.now c.loop-at.at (pos 0) c.loop-at.invariant.rest, to_z-of_z w32 part fits)
    whole

pub loop-at-preserved : goal.loop-at-preserved
loop-at-preserved c =
    let at = c.loop-at.at in
    let old = get_or c.args.sum.now at (pos 0) in
    let part = get_or c.args.part.now at (pos 0) in
    let long = c.loop-at.invariant.long in
    let fits_part : FitsSigned w16 part = search rules in
    let fits_sum : FitsSigned w32 (get_or c.loop-at.sum at (pos 0)) = search rules in
    let whole : FitsSigned w32 (old +ℤ part) = sum_fits old part (All-get_or (IsSumOf 65535) c.args.sum.now at (pos 0) (omega (arith, long)) c.requires.room) fits_part in
    let fits : FitsSigned w32 part = omega (arith, fits_part) in
    let is : to_z w32 (of_z w32 (to_z w32 (of_z w32 (get_or c.loop-at.sum at (pos 0))) +ℤ to_z w32 (of_z w32 c.from.result))) ≡ old +ℤ part =
    rw (c.from.ensures, to_z-of_z w16 part fits_part, to_z-of_z w32 (get_or c.loop-at.sum at (pos 0)) fits_sum, same_at c.loop-at.sum c.args.sum.now at (pos 0) c.loop-at.invariant.rest, to_z-of_z w32 part fits)
    (to_z-of_z w32 (old +ℤ part) whole) in record {
      long = length-set c.loop-at.sum at _ ∙ long;
      made = zip2_written ◌+ℤ◌ c.args.sum.now c.args.part.now c.loop-at.sum at (pos 0) (pos 0) _ (omega (arith, long)) (omega (arith, long)) long c.loop-at.invariant.made is;
      rest = drop-set-lt (at + 1) c.loop-at.sum at _ (omega arith) ∙ drop_more_same c.loop-at.sum c.args.sum.now at c.loop-at.invariant.rest;
      fit = subst (Each1 (FitsSigned w16)) (sym (take_more c.args.part.now at (pos 0) (omega (arith, long, c.requires.same))))
          (each-append (FitsSigned w16) (take at c.args.part.now) (part ∷ []) c.loop-at.invariant.fit (fits_part, tt));
    }

pub returns : goal.returns
returns c =
    let sum = c.loop-at.sum in
    let long = c.loop-at.invariant.long in
    let same = c.requires.same in
    let at = c.loop-at.at in
    let made : sum ≡ zip2 ◌+ℤ◌ c.args.sum.now c.args.part.now =
    sym (take_all at sum (omega (arith, long)))
    ∙ c.loop-at.invariant.made
    ∙ ap (λ l. zip2 ◌+ℤ◌ l (take at c.args.part.now)) (take_all at c.args.sum.now (omega (arith, long)))
    ∙ ap (zip2 ◌+ℤ◌ c.args.sum.now) (take_all at c.args.part.now (omega (arith, long, same))) in
    let fit = subst (Each1 (FitsSigned w16)) (take_all at c.args.part.now (omega (arith, long, same))) c.loop-at.invariant.fit in
    record { added = made; counted = λ parts sums. more_counted parts c.args.sum.now c.args.part.now sum made same fit sums }
