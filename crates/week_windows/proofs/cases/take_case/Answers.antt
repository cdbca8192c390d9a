use Rattle.std.proofs.Common.{◌≡◌, ◌<◌, ℕ, Bool, List, ◌∙◌, ◌&&◌, not, ap, rules, true}
use Rattle.time_pred.specs.Predicates.{Predicate, holds}
use Rattle.time_pred.specs.View.{view_shared}
use Rattle.week_plan.specs.Tables.{is_told}
use Rattle.week_windows.proofs.Seconds.{same_week}
use Rattle.week_windows.proofs.Takings.{all_kept, none_own}
use Rattle.week_windows.proofs.cases.take_case.Goals as goal

pub returns-then-again-clause-spans : goal.returns-then-again-clause-spans
returns-then-again-clause-spans c =
    let yes : c.args.again ≡ true = search rules in
    c.new.ensures.items ∙ none_own (holds (view_shared c.args.pred.now)) (is_told c.args.free.now) (c.requires.again yes)

pub returns-then-again-clause-free : goal.returns-then-again-clause-free
returns-then-again-clause-free c =
    let yes : c.args.again ≡ true = search rules in
    record {
      table = c.requires.free;
      same = λ at low. all_kept (holds (view_shared c.args.pred.now) at) (is_told c.args.free.now at) (c.requires.again yes at low);
    }

pub returns-clause-spans : goal.returns-clause-spans
returns-clause-spans c =
    let words = c.deref_mut.result.now in
    let test = holds (view_shared c.args.pred.now) in
    let free = c.args.free.now in
    let told : (at : ℕ) → at < 604800 → is_told words at ≡ test at = λ at low.
    ap (λ (w : List ℕ). is_told w at) c.deref_mut.ensures.value
    ∙ c.in_ok-table.ensures.same at low ∙ ap (λ (p : Predicate). holds p at) c.as_pred.ensures in
    c.in_ok-spans.ensures.spans
    ∙ same_week (λ at. is_told words at && is_told free at) (λ at. test at && is_told free at)
    (λ at low. ap (λ (b : Bool). b && is_told free at) (told at low))

pub returns-clause-free : goal.returns-clause-free
returns-clause-free c = record {
  table = c.in_ok-spans.ensures.free.table;
  same = λ at low.
      c.in_ok-spans.ensures.free.same at low
      ∙ ap (λ (w : List ℕ). is_told c.args.free.now at && not (is_told w at)) c.deref_mut.ensures.value
      ∙ ap (λ (b : Bool). is_told c.args.free.now at && not b) (c.in_ok-table.ensures.same at low
      ∙ ap (λ (p : Predicate). holds p at) c.as_pred.ensures);
}
