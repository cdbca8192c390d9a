use Rattle.type_infer.proofs.Behind.{behind_seen}
use Rattle.type_infer.proofs.parts.type_behind.Goals as goal

pub type_full-requires : goal.type_full-requires
type_full-requires c = record { seen = behind_seen c.args.subst.now c.args.seen c.args.bindings c.args.uses.now.items c.requires.seen c.requires.over }
