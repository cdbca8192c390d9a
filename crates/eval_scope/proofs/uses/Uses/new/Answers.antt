use Rattle.eval_scope.specs.Places.{is_use}
use Rattle.eval_scope.proofs.Tables.{table_more}
use Rattle.eval_scope.proofs.uses.Uses.new.Goals as goal

pub loop-place-preserved : goal.loop-place-preserved
loop-place-preserved c = table_more is_use c.loop-place.places c.note.new.places c.args.all.now c.index-all-place.result c.loop-place.place c.loop-place-test.true c.index-all-place.is c.loop-place.invariant c.in_ok-note.ensures.noted
