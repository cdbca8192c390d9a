use Rattle.std.proofs.Common.{◌∙◌, pos}
use Rattle.std.proofs.lemmas.List.{take-replicate}
use Rattle.op_mix.proofs.walk.silence.Goals as goal

pub returns : goal.returns
returns c = c.split_at.ensures.front ∙ take-replicate c.args.count 2048 (pos 0) c.requires.short
