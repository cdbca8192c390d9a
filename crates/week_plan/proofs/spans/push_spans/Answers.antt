use Rattle.std.proofs.Common.{◌≡◌, ◌∙◌, false, arith, rules}
use Rattle.week_plan.specs.Tables.{is_told}
use Rattle.week_plan.proofs.Walks.{finished, passed}
use Rattle.week_plan.proofs.spans.push_spans.Goals as goal

pub loop-at-preserved-then-not-next : goal.loop-at-preserved-then-not-next
loop-at-preserved-then-not-next c =
    let no : c.stretch_from-next.result.told ≡ false = search rules in
    rw c.in_ok-push_span.ensures (passed (is_told c.args.words.now) c.loop-at.into.items c.loop-at.since c.loop-at.at c.stretch_from-next.result.end c.loop-at.invariant
    c.stretch_from-next.ensures.later c.stretch_from-next.ensures.within (λ x first last. c.stretch_from-next.ensures.same x first last ∙ no))

pub returns : goal.returns
returns c =
    rw c.in_ok-push_span-2.ensures (finished (is_told c.args.words.now) c.loop-at.into.items c.loop-at.since c.loop-at.at c.loop-at.invariant (omega (arith, c.loop-at-test.false)))
