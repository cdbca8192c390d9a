use Rattle.std.proofs.Common.{◌∙◌, take_all, map, arith, ap, sym}
use Rattle.sample_kernels.proofs.Places.{map_written}
use Rattle.time_pred.specs.Predicates.{holds}
use Rattle.time_pred.specs.View.{view_shared}
use Rattle.node_states.proofs.marks.test_all.Goals as goal

pub loop-child-preserved : goal.loop-child-preserved
loop-child-preserved c =
    map_written (λ pred. holds (view_shared pred) c.args.at.second) c.args.preds.now c.loop-child.marks c.loop-child.child c.index-preds-child.result _
    (omega arith) (omega arith) c.loop-child.invariant
    (c.holds.ensures ∙ ap (λ pred. holds (view_shared pred) c.args.at.second) c.index-preds-child.is)

pub returns : goal.returns
returns c =
    sym (take_all c.loop-child.child c.loop-child.marks (omega arith)) ∙ c.loop-child.invariant
    ∙ ap (map (λ pred. holds (view_shared pred) c.args.at.second)) (take_all c.loop-child.child c.args.preds.now (omega arith))
