use Rattle.std.proofs.Common.{◌≡◌, ◌∙◌, length, subst}
use Rattle.plan_core.specs.declared.node.Op.{Op}
use Rattle.stream_meaning.specs.Operators.{Picks, work_of}
use Rattle.node_states.proofs.Switching.{switch_marks}
use Rattle.node_states.proofs.marks.mark_eligible.Goals as goal

pub returns-in-Switch : goal.returns-in-Switch
returns-in-Switch c = λ rate i kind choice eligible is.
    c.test_all.ensures
    ∙ switch_marks rate i kind c.in-Switch.sensitive c.as_slice.result.now c.in-Switch.preds choice eligible c.args.at.second (length c.args.marks.now)
    c.as_slice.ensures (subst (λ (op : Op). work_of rate i kind op ≡ Picks choice eligible) c.in-Switch.is is)
