use Rattle.std.proofs.Common.{◌<◌, ◌≤◌, ◌+◌, ◌*◌, ◌%◌, ◌∙◌, sym, arith}
use Rattle.std.proofs.lemmas.Nat.{mod_below}
use Rattle.time_pred.specs.Predicates.{holds}
use Rattle.time_pred.specs.View.{view_pred}
use Rattle.week_plan.proofs.Fillings.{filled_more}
use Rattle.week_plan.proofs.Steady.{stays_to}
use Rattle.week_plan.proofs.leaves.fill_period.Goals as goal

pub loop-at-preserved : goal.loop-at-preserved
loop-at-preserved c =
    let later : c.loop-at.at ≤ c.min-next.result = omega (arith, c.min-next.ensures, c.end_of.ensures.later, c.loop-at-test.true) in
    let near : c.min-next.result ≤ c.loop-at.at + c.steady.result = omega (arith, c.min-next.ensures, c.end_of.ensures.stays) in
    let week : c.min-next.result ≤ 604800 = omega (arith, c.min-next.ensures, c.end_of.ensures.within) in
    record {
      within = omega (arith, c.min-next.ensures);
      table = c.add_where.ensures.table;
      filled = filled_more (holds (view_pred c.args.pred.now)) c.loop-at.words c.add_where.new.into c.loop-at.at c.min-next.result c.holds.result c.loop-at.invariant.filled later
          (stays_to (holds (view_pred c.args.pred.now)) c.loop-at.at c.min-next.result c.steady.result c.holds.result c.steady.ensures.stays near week (sym c.holds.ensures))
          c.add_where.ensures.same;
    }

pub returns : goal.returns
returns c =
    let some : 0 < 60 * c.args.minutes = omega (arith, c.requires.some) in
    record {
      table = c.repeat.ensures.table;
      same = λ at low.
          let below = mod_below at (60 * c.args.minutes) some in
          c.repeat.ensures.same at low
          ∙ c.loop-at.invariant.filled.done (at % (60 * c.args.minutes)) (omega (arith, below, c.loop-at-test.false)) (omega (arith, below, c.requires.week))
          ∙ c.requires.back at;
    }
