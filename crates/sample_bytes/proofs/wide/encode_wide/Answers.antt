use Rattle.std.proofs.Common.{◌∙◌}
use Rattle.sample_bytes.proofs.Threes.{wide_mono}
use Rattle.sample_bytes.proofs.wide.encode_wide.Goals as goal

pub returns-in-Mono : goal.returns-in-Mono
returns-in-Mono c = rw c.in-Mono.is (c.encode_wide_mono.ensures ∙ wide_mono c.args.left.now c.args.right.now c.requires.same)
