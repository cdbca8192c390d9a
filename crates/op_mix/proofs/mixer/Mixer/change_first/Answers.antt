use Rattle.std.proofs.Common.{◌∙◌, sym}
use Rattle.op_mix.proofs.mixer.Mixer.change_first.Goals as goal

pub change-requires-clause-from : goal.change-requires-clause-from
change-requires-clause-from c = c.samples_of-from_right.ensures.long ∙ sym c.samples_of-from_left.ensures.long

pub change-requires-clause-same : goal.change-requires-clause-same
change-requires-clause-same c = sym c.samples_of-from_left.ensures.long

pub change-requires-clause-right : goal.change-requires-clause-right
change-requires-clause-right c = c.requires.same ∙ sym c.samples_of-from_left.ensures.long
