use Rattle.week_plan.proofs.Sames.{all_alike, any_alike}
use Rattle.week_plan.proofs.same.+same.Goals as goal

pub is_same-returns-in-All-other : goal.is_same-returns-in-All-other
is_same-returns-in-All-other t c = λ yes.
    all_alike c.args.pred.now c.args.other.now c.in-All.parts c.in-All-other.others c.deref-in-All-other.result.now c.deref-in-All-other-2.result.now
    c.in-All.is c.in-All-other.is c.deref-in-All-other.ensures.value c.deref-in-All-other-2.ensures.value (c.all_same.ensures yes)

pub is_same-returns-in-Any-other : goal.is_same-returns-in-Any-other
is_same-returns-in-Any-other t c = λ yes.
    any_alike c.args.pred.now c.args.other.now c.in-Any.parts c.in-Any-other.others c.deref-in-Any-other.result.now c.deref-in-Any-other-2.result.now
    c.in-Any.is c.in-Any-other.is c.deref-in-Any-other.ensures.value c.deref-in-Any-other-2.ensures.value (c.all_same-in-Any-other.ensures yes)
