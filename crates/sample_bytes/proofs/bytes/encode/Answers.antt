use Rattle.std.proofs.Common.{◌∙◌}
use Rattle.sample_bytes.proofs.Blocks.{encoded_mono}
use Rattle.sample_bytes.proofs.bytes.encode.Goals as goal

pub returns-in-Mono : goal.returns-in-Mono
returns-in-Mono c = rw c.in-Mono.is (c.encode_mono.ensures ∙ encoded_mono c.args.left.now c.args.right.now c.requires.same)
