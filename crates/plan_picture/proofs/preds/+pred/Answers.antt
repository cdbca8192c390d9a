use Rattle.std.proofs.Common.{rules, arith, ℕ, List, ◌++◌, take, sym, ap, ◌∙◌, append_assoc, true}
use Rattle.time_pred.specs.declared.pred.Pred.{Pred}
use Rattle.time_pred.specs.View.{view_pred}
use Rattle.plan_blames.specs.Texts.{numbered}
use Rattle.plan_picture.specs.Predicates.{before_part, pred_text}
use Rattle.plan_blames.proofs.Numbering.{more}
use Rattle.plan_picture.proofs.Parts.{all_parts, all_text, any_text, part_with}
use Rattle.plan_picture.proofs.preds.+pred.Goals as goal

pub push_pred-returns-in-All : goal.push_pred-returns-in-All
push_pred-returns-in-All t c = rw (c.in-All.is, all_text c.args.within c.in-All.parts) (search rules)

pub push_pred-returns-in-Any : goal.push_pred-returns-in-Any
push_pred-returns-in-Any t c = rw (c.in-Any.is, any_text c.args.within c.in-Any.parts) (search rules)

pub push_parts-loop-n-preserved : goal.push_parts-loop-n-preserved
push_parts-loop-n-preserved t c =
    let word : List ℕ = c.args.word.now in
    let xs : List Pred = c.args.parts.now in
    let i : ℕ = c.loop-n.n in
    let here : Pred = c.index-parts-n.result in
    let text : List ℕ = pred_text true (view_pred here) in
    c.in_ok-push_pred.ensures
    ∙ ap (λ (t : List ℕ). t ++ text) c.in_ok-push_before.ensures
    ∙ append_assoc c.loop-n.into.items (before_part word i) text
    ∙ ap (λ (t : List ℕ). t ++ part_with word i here) c.loop-n.invariant
    ∙ append_assoc c.args.into.now.items (numbered (part_with word) 0 (take i xs)) (part_with word i here)
    ∙ ap (λ (t : List ℕ). c.args.into.now.items ++ t) (sym (more (part_with word) xs i here c.loop-n-test.true c.index-parts-n.is))

pub push_parts-returns : goal.push_parts-returns
push_parts-returns t c = c.loop-n.invariant ∙ ap (λ (t : List ℕ). c.args.into.now.items ++ t) (all_parts c.args.word.now c.loop-n.n c.args.parts.now (omega arith))
