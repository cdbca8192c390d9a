use Rattle.std.proofs.Common.{◌≡◌, ◌<◌, ◌+◌, ◌/◌, ◌%◌, ◌∙◌, pos, length, get_or, ap, arith, subst, sym, rules, w16, FitsSigned}
use Rattle.std.proofs.lemmas.Int.{to_z-of_z}
use Rattle.resample.specs.Changes.{Samples}
use Rattle.resample.proofs.Changing.{between_is, block_there, order_is, place_there, room_there}
use Rattle.resample.proofs.changed.Changed.sample.Goals as goal

pub place_of-place-requires-clause-room : goal.place_of-place-requires-clause-room
place_of-place-requires-clause-room c =
    let source = c.source_of-source.ensures in
    let inside = c.self.inside in
    let less = subst (λ (s : Samples). c.args.at < length s.samples) (sym c.self.view_is) c.requires in
    let channels = c.from-channels.ensures ∙ c.channels.ensures.count in
    let there = block_there c.source_of-source.result c.way_of-way.result inside.blocks inside.from inside.to c.way_of-way.ensures.from c.way_of-way.ensures.to source.kind source.samples
    c.args.at c.from-channels.result channels less in
    room_there c.source_of-source.result c.way_of-way.result (c.args.at / c.from-channels.result) 1 source.source c.way_of-way.ensures.way (omega (arith, there))

pub sample_between-requires-clause-block : goal.sample_between-requires-clause-block
sample_between-requires-clause-block c =
    let source = c.source_of-source.ensures in
    let inside = c.self.inside in
    let less = subst (λ (s : Samples). c.args.at < length s.samples) (sym c.self.view_is) c.requires in
    let channels = c.from-channels.ensures ∙ c.channels.ensures.count in
    let there = block_there c.source_of-source.result c.way_of-way.result inside.blocks inside.from inside.to c.way_of-way.ensures.from c.way_of-way.ensures.to source.kind source.samples
    c.args.at c.from-channels.result channels less in
    place_there c.source_of-source.result c.way_of-way.result (c.args.at / c.from-channels.result) c.place_of-place.result source.source c.way_of-way.ensures.way there c.place_of-place.ensures.whole

pub returns : goal.returns
returns c =
    let source = c.source_of-source.ensures in
    let inside = c.self.inside in
    let less = subst (λ (s : Samples). c.args.at < length s.samples) (sym c.self.view_is) c.requires in
    let channels = c.from-channels.ensures ∙ c.channels.ensures.count in
    let fits : FitsSigned w16 c.sample_between.result = search rules in
    to_z-of_z w16 c.sample_between.result fits ∙ c.sample_between.ensures
    ∙ between_is c.source_of-source.result c.way_of-way.result (c.args.at / c.from-channels.result) (c.args.at % c.from-channels.result) c.place_of-place.result c.place_of-place.ensures.part c.place_of-place.ensures.whole
    ∙ order_is c.source_of-source.result c.way_of-way.result inside.blocks inside.from inside.to c.way_of-way.ensures.from c.way_of-way.ensures.to source.kind source.samples
    c.args.at c.from-channels.result channels less
    ∙ ap (λ (s : Samples). get_or s.samples c.args.at (pos 0)) c.self.view_is
