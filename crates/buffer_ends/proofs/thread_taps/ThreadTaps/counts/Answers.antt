use Rattle.std.proofs.Common.{ap, ◌∙◌, slice_index_or}
use Rattle.buffer_ends.specs.declared.counts.Counts.{Counts}
use Rattle.buffer_ends.proofs.Counting.{puts_same}
use Rattle.buffer_ends.proofs.thread_taps.ThreadTaps.counts.Goals as goal

pub returns-clause-puts : goal.returns-clause-puts
returns-clause-puts g c d =
    puts_same c.args.self.now.puts.items (slice_index_or c.args.self.now.local c.args.buffer d) c.args.buffer c.with_puts-counts.result c.with_takes.result c.with_takes.ensures.puts.0 c.with_takes.ensures.puts.1 (c.with_puts-counts.ensures.puts (slice_index_or c.args.self.now.local c.args.buffer d) (c.counts-counts.ensures d))

pub returns-clause-takes : goal.returns-clause-takes
returns-clause-takes g c d =
    c.with_takes.ensures.takes (slice_index_or c.args.self.now.local c.args.buffer d) (c.with_puts-counts.ensures.takes.0 ∙ ap (λ (n : Counts). n.got) (c.counts-counts.ensures d)) (c.with_puts-counts.ensures.takes.1 ∙ ap (λ (n : Counts). n.empty) (c.counts-counts.ensures d))
