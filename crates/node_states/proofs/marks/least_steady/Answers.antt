use Rattle.std.proofs.Common.{◌+◌, ◌%◌, arith}
use Rattle.time_pred.specs.Predicates.{holds}
use Rattle.time_pred.specs.View.{view_shared}
use Rattle.node_states.proofs.Switching.{maps_same}
use Rattle.node_states.proofs.marks.least_steady.Goals as goal

pub returns-clause-stays : goal.returns-clause-stays
returns-clause-stays c = λ j low.
    maps_same (λ pred. holds (view_shared pred) ((c.args.at.second + j) % 604800)) (λ pred. holds (view_shared pred) c.args.at.second) c.args.preds.now
    (λ pred i within at. c.loop-pred.invariant.2 i pred (omega (arith, within, c.loop-pred-test.false)) at j low)
