use Rattle.std.proofs.Common.{ℕ, ◌≡◌, ◌+◌, ◌∙◌, cond, arith, sym, ap}
use mir.Val.{bool_byte}
use Rattle.week_plan.specs.Tables.{is_told}
use Rattle.week_plan.proofs.Counts.{as_number, at_most_one, none_yet, one_more}
use Rattle.week_plan.proofs.table.seconds_told.Goals as goal

pub loop-at-init : goal.loop-at-init
loop-at-init c = record { within = omega arith; is = sym (none_yet (is_told c.args.words.now)) }

pub loop-at-preserved : goal.loop-at-preserved
loop-at-preserved c =
    let told = is_told c.args.words.now c.loop-at.at in
    let is : c.from-seconds.result ≡ cond told 1 0 = c.from-seconds.ensures ∙ ap bool_byte c.is_told.ensures ∙ as_number told in
    let one = at_most_one told in
    record {
      within = omega (arith, is, one, c.loop-at.invariant.within);
      is = ap (λ (n : ℕ). c.loop-at.seconds + n) is ∙ ap (λ (n : ℕ). n + cond told 1 0) c.loop-at.invariant.is ∙ sym (one_more (is_told c.args.words.now) c.loop-at.at);
    }
