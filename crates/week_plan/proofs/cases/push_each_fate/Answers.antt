use Rattle.std.proofs.Common.{◌≡◌, ◌+◌, ◌∷◌, [], ◌∙◌, Bool, false, not, ◌&&◌, length, get_or, length-append, ap, arith}
use Rattle.time_pred.specs.Predicates.{holds}
use Rattle.time_pred.specs.View.{view_shared}
use Rattle.week_plan.specs.Cases.{IsFateBy}
use Rattle.week_plan.specs.Tables.{IsTableOf, is_told}
use Rattle.week_plan.proofs.Choices.{all_fates, all_open, fate_at, fate_same, fates_more, free_more, kept_next, open_more, table_as}
use Rattle.week_plan.proofs.cases.push_each_fate.Goals as goal

pub loop-k-preserved : goal.loop-k-preserved
loop-k-preserved c =
    let k = c.loop-k.k in
    let pred = c.index-preds-k.result in
    let test = holds (view_shared pred) in
    let sure = get_or c.args.sure.now k false in
    let fate = c.take_case-fate.result in
    let fates = c.loop-k.into.items in
    let here = c.loop-k-test.true in
    let at = c.index-preds-k.is in
    let words = c.deref.result.now in
    let of : IsTableOf test words = rw c.deref.ensures.value c.in_ok-keep_table.ensures in
    let sized : length (fates) + 1 ≡ k + 1 = omega (arith, c.loop-k.invariant.size) in
    let by : IsFateBy test (λ x. test x && is_told c.loop-k.free x) fate =
    fate_same (is_told words) test (λ x. is_told words x && is_told c.loop-k.free x) (λ x. test x && is_told c.loop-k.free x) fate of.same
    (λ x low. ap (λ (b : Bool). b && is_told c.loop-k.free x) (of.same x low)) c.take_case-fate.ensures.fate in
    let opened : IsTableOf (λ x. is_told c.loop-k.holes x && not (test x)) c.take_case-fate.new.holes =
    table_as (λ x. is_told c.loop-k.holes x && not (is_told words x)) (λ x. is_told c.loop-k.holes x && not (test x)) c.take_case-fate.new.holes
    (λ x low. ap (λ (b : Bool). is_told c.loop-k.holes x && not b) (of.same x low)) c.take_case-fate.ensures.holes in
    let freed : IsTableOf (λ x. is_told c.loop-k.free x && not (test x && sure)) c.take_case-fate.new.free =
    table_as (λ x. is_told c.loop-k.free x && not (is_told words x && sure)) (λ x. is_told c.loop-k.free x && not (test x && sure)) c.take_case-fate.new.free
    (λ x low. ap (λ (b : Bool). is_told c.loop-k.free x && not (b && sure)) (of.same x low)) c.take_case-fate.ensures.free in
    record {
      holes = open_more c.args.preds.now k pred c.loop-k.holes c.take_case-fate.new.holes here at c.loop-k.invariant.holes opened;
      free = free_more c.args.preds.now c.args.sure.now k pred c.loop-k.free c.take_case-fate.new.free here (omega (arith, c.requires.size)) at c.loop-k.invariant.free freed;
      size = ap length c.in_ok-push.ensures.items ∙ length-append fates (fate ∷ []) ∙ sized;
      fates = λ j low.
          rw c.in_ok-push.ensures.items
          (fates_more c.args.preds.now c.args.sure.now k fates fate c.loop-k.invariant.size c.loop-k.invariant.fates
          (fate_at c.args.preds.now c.args.sure.now k pred c.loop-k.free fate here at c.loop-k.invariant.free by) j low);
      kept = kept_next c.args.preds.now k pred c.keep_table.new.kept.items here at c.in_ok-keep_table.ensures;
    }

pub returns-clause-holes : goal.returns-clause-holes
returns-clause-holes c = all_open c.args.preds.now c.loop-k.k c.loop-k.holes (omega (arith, c.loop-k-test.false)) c.loop-k.invariant.holes

pub returns-clause-fates : goal.returns-clause-fates
returns-clause-fates c =
    all_fates c.args.preds.now c.args.sure.now c.loop-k.k c.loop-k.into.items (omega (arith, c.loop-k-test.false, c.loop-k.auto.k-end)) c.loop-k.invariant.size c.loop-k.invariant.fates
