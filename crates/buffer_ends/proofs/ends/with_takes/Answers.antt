use Rattle.buffer_ends.proofs.Counting.{takes_counted}
use Rattle.buffer_ends.proofs.ends.with_takes.Goals as goal

pub returns-in-Some-clause-takes : goal.returns-in-Some-clause-takes
returns-in-Some-clause-takes c list e f =
    takes_counted c.args.ends.now.items list c.args.buffer c.in-Some.place c.index.result.now
    (record { accepted = c.args.counts.accepted; full = c.args.counts.full; got = c.counted-got.result.0; empty = c.counted-got.result.1 }) c.requires c.in-Some.ensures.some.0 c.in-Some.ensures.some.1 c.index.ensures c.counted-got.ensures.yes c.counted-got.ensures.no
