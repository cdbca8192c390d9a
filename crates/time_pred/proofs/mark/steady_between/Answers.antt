use Rattle.std.proofs.Common.{◌≡◌, ◌<◌, ◌≤◌, ◌+◌, ◌-◌, ◌%◌, ◌∙◌, max, arith, ap, sym}
use Rattle.time_pred.specs.Marks.{is_in_interval, period_of, value_of}
use Rattle.time_pred.proofs.Steady.{both_wholes, later_is, within_same}
use Rattle.time_pred.proofs.mark.steady_between.Goals as goal

pub returns-clause-stays : goal.returns-clause-stays
returns-clause-stays c = λ j low.
    let period : c.max-period.result ≡ max (period_of c.args.from) (period_of c.args.to) = omega (arith, c.max-period.ensures, c.period.ensures.same, c.period-2.ensures.same) in
    let x = c.args.at.second % max (period_of c.args.from) (period_of c.args.to) in
    let since : c.args.at.second % c.max-period.result ≡ x = ap (λ n. c.args.at.second % n) period in
    let left = c.until-left.ensures.within in
    let both = c.until.ensures.within in
    let less : x + j < max (period_of c.args.from) (period_of c.args.to) = omega (arith, low, left, both, since, period) in
    ap (is_in_interval (value_of c.args.from) (value_of c.args.to)) (later_is (max (period_of c.args.from) (period_of c.args.to)) c.args.at.second j (both_wholes c.args.from c.args.to) less)
    ∙ within_same (value_of c.args.from) (value_of c.args.to) x j
    (λ ahead. let value = c.value.ensures in let before = c.until-left.ensures.before (omega (arith, ahead, since, value)) in omega (arith, low, both, before, since, value))
    (λ ahead. let value = c.value-2.ensures in let before = c.until.ensures.before (omega (arith, ahead, since, value)) in omega (arith, low, before, since, value))
