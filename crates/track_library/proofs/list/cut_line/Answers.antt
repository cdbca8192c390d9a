use Rattle.std.proofs.Common.{rules, arith, ◌≡◌, ◌<◌, length, true}
use Rattle.std.specs.Prelude.{nat_eq, slice_index}
use Rattle.track_library.proofs.Lines.{cut_here, one_line}
use Rattle.track_library.proofs.list.cut_line.Goals as goal

pub returns-then-bytes-at-eq10-clause-cut : goal.returns-then-bytes-at-eq10-clause-cut
returns-then-bytes-at-eq10-clause-cut c =
    let below : c.loop-at.at < length c.args.bytes.now = search rules in
    let ends : nat_eq (slice_index c.args.bytes.now c.loop-at.at) 10 ≡ true = search rules in
    cut_here c.loop-at.at c.args.bytes.now below c.loop-at.invariant ends

pub returns-clause-cut : goal.returns-clause-cut
returns-clause-cut c = one_line c.args.bytes.now (search rules) (λ k h. c.loop-at.invariant k (omega arith))
