use Rattle.std.proofs.Common.{◌≡◌, ◌+◌, ◌*◌, ◌∙◌, pos, get_or, ap, arith, rules, w16, FitsSigned}
use Rattle.std.proofs.lemmas.Int.{to_z-of_z}
use Rattle.resample.specs.Changes.{samples_in}
use Rattle.resample.proofs.Rounds.{sample_there}
use Rattle.resample.proofs.changed.sample_of.Goals as goal

pub number_at-requires : goal.number_at-requires
number_at-requires c =
    let source = c.args.source in
    let channels = c.from-channels.ensures ∙ c.channels.ensures.count in
    let there = sample_there source.kind (samples_in source) c.from-channels.result c.args.block c.args.side channels c.requires.source.file c.requires.block (omega (arith, channels, c.requires.side)) in
    there.0

pub overflow_mul-block : goal.overflow_mul-block
overflow_mul-block c =
    let source = c.args.source in
    let channels = c.from-channels.ensures ∙ c.channels.ensures.count in
    let there = sample_there source.kind (samples_in source) c.from-channels.result c.args.block c.args.side channels c.requires.source.file c.requires.block (omega (arith, channels, c.requires.side)) in
    record { fits = omega (arith, there.1) }

pub overflow_add-block : goal.overflow_add-block
overflow_add-block c =
    let source = c.args.source in
    let channels = c.from-channels.ensures ∙ c.channels.ensures.count in
    let there = sample_there source.kind (samples_in source) c.from-channels.result c.args.block c.args.side channels c.requires.source.file c.requires.block (omega (arith, channels, c.requires.side)) in
    record { fits = omega (arith, there.1) }

pub returns : goal.returns
returns c =
    let fits : FitsSigned w16 c.number_at.result = search rules in
    to_z-of_z w16 c.number_at.result fits
    ∙ c.number_at.ensures ∙ ap (λ n. get_or (samples_in c.args.source) (c.args.block * n + c.args.side) (pos 0)) (c.from-channels.ensures ∙ c.channels.ensures.count)
