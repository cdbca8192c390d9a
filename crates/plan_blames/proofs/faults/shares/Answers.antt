use Rattle.std.proofs.Common.{nat_eq, slice_index, arith}
use Rattle.fallible_infer.proofs.Marking.{any_done}
use Rattle.plan_blames.proofs.faults.shares.Goals as goal

pub returns : goal.returns
returns c = any_done (λ source. nat_eq (slice_index c.args.groups.now source) (slice_index c.args.groups.now c.args.k)) c.args.these.now c.loop-source.source-index (omega arith) c.loop-source.invariant
