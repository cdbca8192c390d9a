use Rattle.std.proofs.Common.{◌≡◌, ◌∙◌, arith, get_or, pos, refl, rules, w16, Fits, FitsSigned}
use Rattle.sample_kernels.proofs.Silences.{all_none, silent_more}
use Rattle.sample_kernels.proofs.silence.are_silent.Goals as goal

pub loop-sample-preserved : goal.loop-sample-preserved
loop-sample-preserved c =
    let found : Fits w16 c.loop-sample.found-bits = search rules in
    let sample : FitsSigned w16 (get_or c.args.samples.now c.loop-sample.sample-index (pos 0)) = search rules in
    λ none. silent_more c.args.samples.now c.loop-sample.sample-index c.loop-sample.found-bits (get_or c.args.samples.now c.loop-sample.sample-index (pos 0)) found sample refl c.loop-sample.invariant none

pub returns-2 : goal.returns-2
returns-2 c =
    λ e.
    let none : c.loop-sample.found ≡ pos 0 = search (rules, e) in
    all_none c.args.samples.now (λ k less. c.loop-sample.invariant (c.loop-sample.found-is ∙ none) k (omega (arith, less)))
