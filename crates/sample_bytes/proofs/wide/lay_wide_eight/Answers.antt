use Rattle.std.proofs.Common.{◌+◌, ◌∙◌, refl, ap}
use Rattle.std.specs.List.{flat_map}
use Rattle.std.specs.Simd.Lanes.{put_chunk}
use Rattle.frame_core.specs.Bytes.{sample_bytes}
use Rattle.sample_bytes.proofs.Woven.{encoded_lanes}
use Rattle.sample_bytes.proofs.Blocks.{put-behind}
use Rattle.sample_bytes.proofs.Shuffles.{front_bytes, back_bytes, laid_wide}
use Rattle.sample_bytes.proofs.wide.lay_wide_eight.Goals as goal

pub returns : goal.returns
returns c =
    let at = c.args.at in
    let into = c.args.into.now in
    let samples = c.args.samples in
    let bytes = flat_map sample_bytes samples in
    ap (λ l. put_chunk (at + 16) (put_chunk at into (front_bytes l)) (back_bytes l)) (encoded_lanes 8 samples c.requires.long c.requires.fit)
    ∙ put-behind at (at + 16) into (front_bytes bytes) (back_bytes bytes) refl
    ∙ ap (put_chunk at into) (laid_wide samples c.requires.long)
