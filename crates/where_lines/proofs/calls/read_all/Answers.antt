use Rattle.where_lines.proofs.Walks.{call_more, calls_end}
use Rattle.where_lines.proofs.calls.read_all.Goals as goal

pub loop-token-preserved : goal.loop-token-preserved
loop-token-preserved c = rw (c.in_ok-read.ensures.texts, c.in_ok-read.ensures.brackets) (call_more c.args.text.now c.args.tokens.now c.loop-token.token-index c.token-item.result (record { texts = c.loop-token.texts.items; brackets = c.loop-token.brackets.items }) _ c.loop-token.invariant c.loop-token-test.true c.token-item.is)

pub returns : goal.returns
returns c = calls_end c.args.text.now c.args.tokens.now c.loop-token.token-index (record { texts = c.loop-token.texts.items; brackets = c.loop-token.brackets.items }) _ c.loop-token.invariant c.loop-token-test.false
