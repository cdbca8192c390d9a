use Rattle.std.proofs.Common.{◌≡◌, ◌∙◌, arith, get_or, pos, refl, rules, w32, Fits, FitsSigned}
use Rattle.sample_kernels.proofs.Silences.{all_none, zeros_more}
use Rattle.sample_kernels.proofs.silence.are_zeros.Goals as goal

pub loop-sum-preserved : goal.loop-sum-preserved
loop-sum-preserved c =
    let found : Fits w32 c.loop-sum.found-bits = search rules in
    let sum : FitsSigned w32 (get_or c.args.sums.now c.loop-sum.sum-index (pos 0)) = search rules in
    λ none. zeros_more c.args.sums.now c.loop-sum.sum-index c.loop-sum.found-bits (get_or c.args.sums.now c.loop-sum.sum-index (pos 0)) found sum refl c.loop-sum.invariant none

pub returns-2 : goal.returns-2
returns-2 c =
    λ e.
    let none : c.loop-sum.found ≡ pos 0 = search (rules, e) in
    all_none c.args.sums.now (λ k less. c.loop-sum.invariant (c.loop-sum.found-is ∙ none) k (omega (arith, less)))
