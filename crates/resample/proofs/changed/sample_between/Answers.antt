use Rattle.std.proofs.Common.{◌≡◌, ◌+◌, ◌-◌, ◌∙◌, ap, arith, rules, w16, FitsSigned, to_z, of_z}
use Rattle.std.specs.Prelude.{min}
use Rattle.std.proofs.lemmas.Int.{to_z-of_z}
use Rattle.resample.specs.Changes.{samples_in}
use Rattle.resample.specs.Resampled.{blocks_of, interpolated, side_at}
use Rattle.resample.proofs.changed.sample_between.Goals as goal

pub returns : goal.returns
returns c =
    let kind = c.args.source.kind in
    let samples = samples_in c.args.source in
    let place = c.args.place in
    let last = c.requires.source.last in
    let fits : FitsSigned w16 c.number_between.result = search rules in
    let fits_before : FitsSigned w16 c.sample_of-before.result = search rules in
    let fits_behind : FitsSigned w16 c.sample_of-behind.result = search rules in
    let turned : min c.args.source.last (place.block + 1) ≡ min (place.block + 1) (blocks_of kind samples - 1) = omega (arith, last) in
    let before = to_z-of_z w16 c.sample_of-before.result fits_before ∙ c.sample_of-before.ensures in
    let behind = to_z-of_z w16 c.sample_of-behind.result fits_behind ∙ c.sample_of-behind.ensures
    ∙ ap (λ n. side_at kind samples n c.args.side) (c.min-next.ensures ∙ turned) in
    to_z-of_z w16 c.number_between.result fits ∙ c.number_between.ensures
    ∙ (λ i. interpolated (before i) (behind i) place.part c.args.way.now.to)
