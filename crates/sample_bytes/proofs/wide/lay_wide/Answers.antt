use Rattle.std.proofs.Common.{◌≡◌, ◌∙◌, ◌+◌, ap, refl, get_or, set, w16}
use Rattle.std.proofs.lemmas.Int.{to_z-of_z}
use Rattle.frame_core.specs.Bytes.{sample_bytes}
use Rattle.sample_bytes.proofs.Threes.{three_written}
use Rattle.sample_bytes.proofs.wide.lay_wide.Goals as goal

pub returns : goal.returns
returns c =
    let is : c.to_le_bytes.result ≡ sample_bytes c.args.sample = c.to_le_bytes.ensures ∙ ap sample_bytes (to_z-of_z w16 c.args.sample c.ranges.sample) in
    ap (λ l. set (set (set c.args.into.now c.args.at 0) (c.args.at + 1) (get_or l 0 0)) (c.args.at + 2) (get_or l 1 0)) is
    ∙ three_written c.args.into.now c.args.at (c.args.at + 1) (c.args.at + 2) _ _ _ refl refl c.requires
