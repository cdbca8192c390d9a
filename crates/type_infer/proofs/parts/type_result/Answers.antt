use Rattle.type_infer.proofs.Behind.{behind_seen}
use Rattle.type_infer.proofs.parts.type_result.Goals as goal

pub type_expr-requires : goal.type_expr-requires
type_expr-requires c = record { seen = behind_seen c.args.subst.now c.args.seen c.args.bindings c.args.uses.now.items c.requires.seen c.requires.over }
