use Rattle.std.proofs.Common.{◌≡◌, ◌*◌, ◌∙◌, length, ap, sym}
use Rattle.resample.specs.Changes.{Samples, samples_of}
use Rattle.resample.specs.Resampled.{blocks_of, output_length, resampled}
use Rattle.resample.proofs.Formulas.{resampled_length}
use Rattle.resample.proofs.Changing.{source_blocks}
use Rattle.liq_base.specs.Kinds.{channels_of}
use Rattle.resample.proofs.changed.Changed.count.Goals as goal

pub returns-clause-count : goal.returns-clause-count
returns-clause-count c =
    let blocks = c.self.inside.blocks in
    let from = c.self.inside.from in
    let to = c.self.inside.to in
    let source = c.source_of-source.result in
    let last = source_blocks source blocks.kind (samples_of blocks) c.source_of-source.ensures.source c.source_of-source.ensures.kind c.source_of-source.ensures.samples in
    let many = c.length-blocks.ensures.length ∙ ap (λ n. output_length n from to) last in
    let channels = c.from.ensures ∙ c.channels.ensures.count ∙ ap channels_of c.source_of-source.ensures.kind in
    ap (λ n. n * c.from.result) many ∙ ap (λ n. output_length (blocks_of blocks.kind (samples_of blocks)) from to * n) channels
    ∙ sym (resampled_length from to blocks.kind (samples_of blocks)) ∙ ap (λ (s : Samples). length s.samples) c.self.view_is
