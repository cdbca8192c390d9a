use Rattle.buffer_ends.proofs.Counting.{puts_counted}
use Rattle.buffer_ends.proofs.ends.with_puts.Goals as goal

pub returns-in-Some-clause-puts : goal.returns-in-Some-clause-puts
returns-in-Some-clause-puts c list e =
    puts_counted c.args.ends.now.items list c.args.buffer c.in-Some.place c.index.result.now
    (record { accepted = c.counted-accepted.result.0; full = c.counted-accepted.result.1; got = c.args.counts.got; empty = c.args.counts.empty }) c.requires c.in-Some.ensures.some.0 c.in-Some.ensures.some.1 c.index.ensures c.counted-accepted.ensures.yes c.counted-accepted.ensures.no
