use Rattle.std.proofs.Common.{◌≡◌, ◌∙◌, ◌+◌, ◌%◌, ℕ, map, sym, subst}
use Rattle.plan_core.specs.declared.node.Op.{Op}
use Rattle.time_pred.specs.Predicates.{holds}
use Rattle.time_pred.specs.View.{view_shared}
use Rattle.stream_meaning.specs.Operators.{marks_at, Picks, work_of}
use Rattle.node_states.proofs.Switching.{switch_marks}
use Rattle.node_states.proofs.marks.steady_seconds.Goals as goal

pub returns-in-Switch-clause-stays : goal.returns-in-Switch-clause-stays
returns-in-Switch-clause-stays c = λ rate i kind choice eligible j children is low.
    let marks : (second : ℕ) → map (λ pred. holds (view_shared pred) second) c.as_slice.result.now ≡ marks_at eligible second children =
    λ second. switch_marks rate i kind c.in-Switch.sensitive c.as_slice.result.now c.in-Switch.preds choice eligible second children
    c.as_slice.ensures (subst (λ (op : Op). work_of rate i kind op ≡ Picks choice eligible) c.in-Switch.is is) in
    sym (marks ((c.args.at.second + j) % 604800)) ∙ c.least_steady.ensures.stays j low ∙ marks c.args.at.second
