use Rattle.std.proofs.Common.{◌≡◌, Some, length, refl, ap, arith}
use Rattle.std.specs.Prelude.{slice_get}
use Rattle.std.proofs.lemmas.Option.{slice_get_read}
use Rattle.fallible_infer.specs.Infallible.{mark_at}
use Rattle.week_lines.proofs.Telling.{all_lines, more_lines, more_silent}
use Rattle.week_lines.proofs.switches.push_each.Goals as goal

pub loop-number-preserved : goal.loop-number-preserved
loop-number-preserved c =
    let k = c.loop-number.number in
    let node = c.index-nodes-number.result in
    let nodes = c.as_slice-nodes.result.now in
    let there : slice_get nodes k ≡ Some node = slice_get_read nodes (length nodes) k node refl c.loop-number-test.true c.index-nodes-number.is in
    let here : slice_get c.args.plan.now.nodes k ≡ Some node = rw c.as_slice-nodes.ensures at there in
    let told = c.in_ok-push_node.ensures.text in
    record {
      lines = more_lines c.args.plan.now (mark_at c.args.marks.now) k node c.loop-number.into.items c.push_node.new.into.items told.0 c.loop-number.invariant.lines here told.1 told.2;
      silent = more_silent c.args.plan.now k c.loop-number.silent c.push_node.new.silent c.loop-number.invariant.silent c.in_ok-push_node.ensures.silent;
      kept = c.in_ok-push_node.ensures.kept;
    }

pub returns-clause-lines : goal.returns-clause-lines
returns-clause-lines c =
    all_lines c.args.plan.now (mark_at c.args.marks.now) c.loop-number.number c.loop-number.into.items
    (omega (arith, c.loop-number-test.false, c.loop-number.auto.number-end, ap length c.as_slice-nodes.ensures)) c.loop-number.invariant.lines
