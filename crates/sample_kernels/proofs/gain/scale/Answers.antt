use Rattle.std.proofs.Common.{◌≡◌, ◌∙◌, map, w64, FitsSigned, to_z, of_z, rules, ap}
use Rattle.std.proofs.lemmas.Int.{to_z-of_z}
use Rattle.sample_kernels.specs.Samples.{scaled}
use Rattle.sample_kernels.proofs.Places.{same_map}
use Rattle.sample_kernels.proofs.Cuts.{cut, scaled_by_cut}
use Rattle.sample_kernels.proofs.Silences.{scaled_silence}
use Rattle.sample_kernels.proofs.gain.scale.Goals as goal

pub returns-else-unsigned_abs-le-MOST : goal.returns-else-unsigned_abs-le-MOST
returns-else-unsigned_abs-le-MOST c =
    let fits : FitsSigned w64 c.clamp-millionths.result = search rules in
    let fits_factor : FitsSigned w64 c.args.factor.millionths = search rules in
    let is : to_z w64 (of_z w64 c.clamp-millionths.result) ≡ cut c.args.factor.millionths =
    to_z-of_z w64 c.clamp-millionths.result fits ∙ c.clamp-millionths.ensures.value ∙ ap cut (to_z-of_z w64 c.args.factor.millionths fits_factor) in
    c.scale_long.ensures
    ∙ ap (λ m. map (scaled m) c.args.from.now) is
    ∙ same_map (scaled (cut c.args.factor.millionths)) (scaled c.args.factor.millionths) c.args.from.now (scaled_by_cut c.args.factor.millionths)

pub returns-then-are_silent : goal.returns-then-are_silent
returns-then-are_silent c =
    scaled_silence c.args.factor.millionths c.args.from.now c.args.into.now c.fill.new.self c.requires.same
    (c.are_silent.ensures c.if-are_silent.true) (c.fill.ensures.after (λ y e. e))
