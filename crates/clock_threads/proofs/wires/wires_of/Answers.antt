use Rattle.std.proofs.Common.{◌≡◌, ◌<◌, ◌∙◌, rules, ap, arith, get_or, length, subst}
use Rattle.std.proofs.lemmas.List.{get_or_default}
use Rattle.plan_core.specs.declared.sink.BufferPlan.{BufferPlan}
use Rattle.clock_threads.specs.Plans.{AreFirstWires}
use Rattle.clock_threads.proofs.Wiring.{first_more}
use Rattle.clock_threads.proofs.wires.wires_of.Goals as goal

pub loop-b-preserved : goal.loop-b-preserved
loop-b-preserved c =
    let buffers = c.args.plan.now.buffers in let b = c.loop-b.b in let one = c.buffer_at.result.now in
    let low : b < length buffers = omega (arith, c.loop-b-test.true, ap length c.as_slice-buffers.ensures) in
    let in_fed : b < length c.in_ok-fed.fed.items = omega (arith, low, c.in_ok-fed.ensures.size) in
    let in_read : b < length c.in_ok-read.read.items = omega (arith, low, c.in_ok-read.ensures.size) in
    first_more c.args.plan.now c.args.clocks.now b c.loop-b.wires.items c.push.new.self.items c.wire_of-wire.result c.in_ok-fed.fed.items c.in_ok-read.read.items one
    c.index.result.now c.index-in-loop-b.result.now one.capacity c.in_ok-push.ensures.items low in_fed in_read
    (c.index.ensures ∙ get_or_default c.in_ok-fed.fed.items b c.index.result.now 0 in_fed)
    (c.index-in-loop-b.ensures ∙ get_or_default c.in_ok-read.read.items b c.index-in-loop-b.result.now 0 in_read)
    (ap (λ (p : BufferPlan). p.capacity) (c.buffer_at.ensures one ∙ ap (λ xs. get_or xs b one) c.as_slice-buffers.ensures))
    c.in_ok-fed.ensures.fed c.in_ok-read.ensures.read c.wire_of-wire.ensures c.loop-b.invariant

pub returns-clause-wires : goal.returns-clause-wires
returns-clause-wires c =
    let all : c.loop-b.b ≡ length c.as_slice-buffers.result.now = search rules in
    subst (λ n. AreFirstWires c.args.plan.now c.args.clocks.now n c.loop-b.wires.items) (all ∙ ap length c.as_slice-buffers.ensures) c.loop-b.invariant
