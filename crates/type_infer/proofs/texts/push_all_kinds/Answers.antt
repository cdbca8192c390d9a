use Rattle.type_infer.proofs.Chunks.{kinds_next}
use Rattle.type_infer.proofs.texts.push_all_kinds.Goals as goal

pub loop-found-preserved : goal.loop-found-preserved
loop-found-preserved c = kinds_next c.args.uses.now c.loop-found.found-index c.found-item.result c.loop-found-test.true c.found-item.is c.loop-found.kinds.items c.push_kinds.new.kinds.items c.loop-found.invariant c.in_ok-push_kinds.ensures
