use Rattle.track_library.proofs.Counting.{few_blocks, some_blocks}
use Rattle.track_library.proofs.reading.block_count.Goals as goal

pub returns-clause-some : goal.returns-clause-some
returns-clause-some c = rw (c.sample_count.ensures, c.from.ensures, c.channels.ensures.count) (some_blocks c.args.head.wide c.args.head.kind c.args.head.size c.requires.blocks)

pub returns-clause-few : goal.returns-clause-few
returns-clause-few c = rw (c.sample_count.ensures, c.from.ensures, c.channels.ensures.count) (few_blocks c.args.head.wide c.args.head.kind c.args.head.size c.requires.few)
