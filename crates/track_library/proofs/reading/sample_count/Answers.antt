use Rattle.std.proofs.Common.{rules}
use Rattle.track_library.proofs.Sound.{samples_long, wide_long}
use Rattle.track_library.proofs.reading.sample_count.Goals as goal

pub returns-then-wide : goal.returns-then-wide
returns-then-wide c = search (rules, wide_long)

pub returns-else-wide : goal.returns-else-wide
returns-else-wide c = search (rules, samples_long)
