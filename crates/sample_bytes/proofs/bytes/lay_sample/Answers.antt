use Rattle.std.proofs.Common.{◌≡◌, ◌∙◌, ◌+◌, ap, refl, get_or, set, w16}
use Rattle.std.proofs.lemmas.Int.{to_z-of_z}
use Rattle.frame_core.specs.Bytes.{sample_bytes}
use Rattle.sample_bytes.proofs.Blocks.{two_written}
use Rattle.sample_bytes.proofs.bytes.lay_sample.Goals as goal

pub returns : goal.returns
returns c =
    let is : c.to_le_bytes.result ≡ sample_bytes c.args.sample = c.to_le_bytes.ensures ∙ ap sample_bytes (to_z-of_z w16 c.args.sample c.ranges.sample) in
    ap (λ l. set (set c.args.into.now c.args.at (get_or l 0 0)) (c.args.at + 1) (get_or l 1 0)) is
    ∙ two_written c.args.into.now c.args.at (c.args.at + 1) _ _ refl c.requires
