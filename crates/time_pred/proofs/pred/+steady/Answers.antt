use Rattle.std.proofs.Common.{◌≡◌, ◌<◌, ◌+◌, ◌%◌, ◌∙◌, ℕ, List, arith, ap, sym}
use Rattle.std.specs.List.{list_all, list_any}
use Rattle.time_pred.specs.Predicates.{holds}
use Rattle.time_pred.specs.View.{view_pred}
use Rattle.time_pred.specs.declared.pred.Pred as pred
use Rattle.time_pred.proofs.Rows.{all_holds, any_holds}
use Rattle.time_pred.proofs.Steady.{all_same, any_same}
use Rattle.time_pred.proofs.pred.+steady.Goals as goal

pub Pred::steady-returns-in-All-clause-stays : goal.Pred::steady-returns-in-All-clause-stays
Pred::steady-returns-in-All-clause-stays t c = λ j low.
    let is : (second : ℕ) → holds (view_pred c.args.self.now) second ≡ list_all (λ (p : pred.Pred). holds (view_pred p) second) c.deref-in-All.result.now =
    λ second. ap (λ p. holds (view_pred p) second) c.in-All.is ∙ all_holds c.in-All.parts second
    ∙ ap (λ (xs : List pred.Pred). list_all (λ p. holds (view_pred p) second) xs) (sym c.deref-in-All.ensures.value) in
    is ((c.args.at.second + j) % 604800) ∙ c.steady_all.ensures.all j low ∙ sym (is c.args.at.second)

pub Pred::steady-returns-in-Any-clause-stays : goal.Pred::steady-returns-in-Any-clause-stays
Pred::steady-returns-in-Any-clause-stays t c = λ j low.
    let is : (second : ℕ) → holds (view_pred c.args.self.now) second ≡ list_any (λ (p : pred.Pred). holds (view_pred p) second) c.deref-in-Any.result.now =
    λ second. ap (λ p. holds (view_pred p) second) c.in-Any.is ∙ any_holds c.in-Any.parts second
    ∙ ap (λ (xs : List pred.Pred). list_any (λ p. holds (view_pred p) second) xs) (sym c.deref-in-Any.ensures.value) in
    is ((c.args.at.second + j) % 604800) ∙ c.steady_all-in-Any.ensures.any j low ∙ sym (is c.args.at.second)

pub steady_all-returns-clause-all : goal.steady_all-returns-clause-all
steady_all-returns-clause-all t c = λ j low.
    all_same (λ p. holds (view_pred p) ((c.args.at.second + j) % 604800)) (λ p. holds (view_pred p) c.args.at.second) c.args.parts.now
    (λ part i within at. c.loop-part.invariant.2 i part (omega (arith, within, c.loop-part-test.false)) at j low)

pub steady_all-returns-clause-any : goal.steady_all-returns-clause-any
steady_all-returns-clause-any t c = λ j low.
    any_same (λ p. holds (view_pred p) ((c.args.at.second + j) % 604800)) (λ p. holds (view_pred p) c.args.at.second) c.args.parts.now
    (λ part i within at. c.loop-part.invariant.2 i part (omega (arith, within, c.loop-part-test.false)) at j low)
