use Rattle.std.proofs.Common.{◌<◌, ◌*◌, ◌/◌, ◌∙◌, ℕ, length, take, sym, subst}
use Rattle.wav_io.specs.Reading.{AreBlocks}
use Rattle.wav_io.proofs.Blocks.{are_blocks}
use Rattle.wav_io.proofs.read.cut_blocks.Goals as goal

pub returns-clause-blocks : goal.returns-clause-blocks
returns-clause-blocks c =
    subst
    (λ (n : ℕ). 0 < length (take (length c.args.body.now / n * n) c.args.body.now) → AreBlocks c.args.wide c.args.kind (take (length c.args.body.now / n * n) c.args.body.now))
    (sym (c.from-block.ensures ∙ c.block_len.ensures)) (are_blocks c.args.wide c.args.kind c.args.body.now)
