use Rattle.std.proofs.Common.{rules, ◌≡◌, ◌+◌, ◌++◌, ap}
use Rattle.frame_core.specs.Bytes.{sample_bytes}
use Rattle.workload_gen.proofs.Drawing.{drawn_more, further}
use Rattle.workload_gen.proofs.track.draw.Goals as goal

pub loop-preserved : goal.loop-preserved
loop-preserved c = λ seed from at.
    let old = c.loop.invariant seed from at in
    let more : c.push_sample.new.bytes.items ≡ c.loop.bytes.items ++ sample_bytes c.next_sample-sample.result = search rules in (
      further seed from c.loop.counter _ (c.next_sample-sample.ensures.words seed (from + c.loop.counter) old.0),
      drawn_more seed from c.loop.counter _ _ _ _ old.1 more (ap sample_bytes (c.next_sample-sample.ensures.sample seed (from + c.loop.counter) old.0)),
    )
