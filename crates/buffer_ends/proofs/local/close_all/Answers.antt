use Rattle.std.proofs.Common.{◌≡◌, length, ap, ◌∙◌, sym, arith}
use Rattle.buffer_ends.specs.Local.{closed_first}
use Rattle.buffer_ends.proofs.Windows.{first_all, first_length, closed_more, not_err}
use Rattle.buffer_ends.proofs.local.close_all.Goals as goal

pub loop-i-preserved : goal.loop-i-preserved
loop-i-preserved c =
    let long : length c.loop-i.lists.items ≡ length c.args.lists.now.items = ap length c.loop-i.invariant ∙ first_length c.loop-i.i c.args.lists.now.items in
    closed_more c.loop-i.i c.loop-i.lists.items c.args.lists.now.items c.index_mut.result.now c.close.new.self c.loop-i.invariant (omega (arith, c.loop-i-test.true)) c.index_mut.ensures.value
    (not_err c.close.result (sym c.is_err.ensures.value ∙ c.if-is_err.false) c.close.ensures.closed)

pub returns-clause-closed : goal.returns-clause-closed
returns-clause-closed c =
    let all : c.loop-i.i ≡ length c.args.lists.now.items = omega (arith, c.loop-i-test.false, c.loop-i.auto.i-end) in
    c.loop-i.invariant ∙ ap (λ k. closed_first k c.args.lists.now.items) all ∙ first_all c.args.lists.now.items
