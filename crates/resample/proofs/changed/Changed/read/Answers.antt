use Rattle.std.proofs.Common.{◌≡◌, ◌<◌, ◌≤◌, ◌+◌, ◌/◌, ◌∙◌, length, map, ap, subst, sym}
use Rattle.std.specs.List.{range_with_len}
use Rattle.liq_base.specs.Kinds.{channels_of}
use Rattle.resample.specs.Changes.{Samples}
use Rattle.resample.specs.Resampled.{side_at}
use Rattle.resample.proofs.Changing.{blocks_there, read_same}
use Rattle.resample.proofs.changed.Changed.read.Goals as goal

pub read_side-requires-clause-within : goal.read_side-requires-clause-within
read_side-requires-clause-within c =
    let source = c.source_of-source.ensures in
    let inside = c.self.inside in
    blocks_there c.source_of-source.result c.way_of-way.result inside.blocks inside.from inside.to c.way_of-way.ensures.from c.way_of-way.ensures.to source.kind source.samples
    (c.args.at + length c.args.into.now)
    (subst (λ (s : Samples). c.args.at + length c.args.into.now ≤ length s.samples / channels_of s.kind) (sym c.self.view_is) c.requires.within)

pub returns : goal.returns
returns c =
    let source = c.source_of-source.ensures in
    let inside = c.self.inside in
    let n = length c.args.into.now in
    c.read_side.ensures
    ∙ read_same c.source_of-source.result c.way_of-way.result inside.blocks inside.from inside.to c.way_of-way.ensures.from c.way_of-way.ensures.to source.kind source.samples
    c.args.at n c.args.side
    (subst (λ (s : Samples). c.args.at + n ≤ length s.samples / channels_of s.kind) (sym c.self.view_is) c.requires.within)
    (subst (λ (s : Samples). c.args.side < channels_of s.kind) (sym c.self.view_is) c.requires.side)
    ∙ ap (λ (s : Samples). map (λ j. side_at s.kind s.samples j c.args.side) (range_with_len c.args.at n)) c.self.view_is
