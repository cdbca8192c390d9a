use Rattle.std.proofs.Common.{arith}
use Rattle.week_windows.proofs.Takings.{all_free, all_taken, gone, none_taken, one_taken}
use Rattle.week_windows.proofs.cases.push_cases.Goals as goal

pub loop-k-init : goal.loop-k-init
loop-k-init c = none_taken c.args.preds.now c.args.into.now.items c.args.free.now c.requires.none c.requires.free

pub take_case-requires-clause-again : goal.take_case-requires-clause-again
take_case-requires-clause-again c = λ yes at low held.
    gone c.args.preds.now c.loop-k.k c.index-preds-k.result c.loop-k.into.items c.loop-k.free at c.loop-k.invariant (c.stands_among-again.ensures yes at held) low

pub loop-k-preserved : goal.loop-k-preserved
loop-k-preserved c =
    one_taken c.args.preds.now c.loop-k.k c.index-preds-k.result c.loop-k.into.items c.push.new.self.items c.in_ok-spans.spans
    c.loop-k.free c.take_case.new.free c.loop-k-test.true c.index-preds-k.is c.loop-k.invariant c.in_ok-spans.ensures.spans
    c.in_ok-spans.ensures.free c.in_ok-push.ensures.items

pub returns-clause-cases : goal.returns-clause-cases
returns-clause-cases c = all_taken c.args.preds.now c.loop-k.k c.loop-k.into.items c.loop-k.free (omega (arith, c.loop-k-test.false)) c.loop-k.invariant

pub returns-clause-free : goal.returns-clause-free
returns-clause-free c = all_free c.args.preds.now c.loop-k.k c.loop-k.into.items c.loop-k.free (omega (arith, c.loop-k-test.false)) c.loop-k.invariant
