use Rattle.std.proofs.Common.{◌≡◌, ◌+◌, ◌∙◌, ◌++◌, ◌∷◌, [], suc, List, length, length-append, ap, subst, arith}
use Rattle.trace_turns.specs.declared.ends.Ends.{Ends}
use Rattle.trace_turns.specs.Answering.{BufferState}
use Rattle.trace_turns.specs.Logs.{AreNew}
use Rattle.trace_turns.proofs.Joining.{new_more}
use Rattle.trace_turns.proofs.buffers.told_buffers.Goals as goal

pub loop-b-preserved : goal.loop-b-preserved
loop-b-preserved c =
    let buffers : c.push_reserved.new.self.items ≡ c.loop-b.buffers.items ++ c.in_ok-buffer.buffer ∷ [] = c.push_reserved.ensures.items ∙ ap (λ (l : List BufferState). l ++ c.in_ok-buffer.buffer ∷ []) c.reserve.ensures.items in
    let ends : c.push_reserved-in-loop-b.new.self.items ≡ c.loop-b.ends.items ++ c.in_ok-buffer.end ∷ [] = c.push_reserved-in-loop-b.ensures.items ∙ ap (λ (l : List Ends). l ++ c.in_ok-buffer.end ∷ []) c.reserve-in-loop-b.ensures.items in
    let next : suc c.loop-b.b ≡ c.loop-b.b + 1 = omega arith in
    let one = ap (λ (l : List BufferState). length l) buffers in
    let two = ap (λ (l : List Ends). length l) ends in
    let three = length-append c.loop-b.buffers.items (c.in_ok-buffer.buffer ∷ []) in
    let four = length-append c.loop-b.ends.items (c.in_ok-buffer.end ∷ []) in
    let size = c.loop-b.invariant.buffers_long in
    let long = c.loop-b.invariant.ends_long in
    let many = c.requires in
    let low = c.loop-b-test.true in
    record {
      buffers_long = omega (arith, one, three, size);
      ends_long = omega (arith, two, four, long);
      new = subst (λ n. AreNew c.args.plans.now c.args.logs.now n c.push_reserved.new.self.items c.push_reserved-in-loop-b.new.self.items) next
          (new_more c.args.plans.now c.args.logs.now c.loop-b.b c.loop-b.buffers.items c.push_reserved.new.self.items c.loop-b.ends.items c.push_reserved-in-loop-b.new.self.items size long c.loop-b.invariant.new
          (record { pre = 0; capacity = 0 }) c.in_ok-buffer.buffer c.in_ok-buffer.end c.index-logs-b.result c.index-logs-b.is (omega (arith, many, low)) c.in_ok-buffer.ensures.buffer c.in_ok-buffer.ensures.ends buffers ends);
    }

pub returns-clause-new : goal.returns-clause-new
returns-clause-new c = λ b low. c.loop-b.invariant.new b (omega (arith, c.loop-b-test.false, low))
