-- What the log of a buffer has of a window.
use Rattle.std.specs.Prelude.{map}
use Rattle.run_records.specs.Records.{Window}
use Rattle.buffer_queue.specs.Window.{is_chunk}
use Rattle.buffer_ends.specs.Local.{Answers}

-- What a buffer answered in a window, a number of ticks that all clocks make. For each put true says that the chunk was
-- accepted, and for each take that there was a chunk to get.
abbrev pub told : Window → Answers
told window = record { puts = map is_chunk window.0; takes = map is_chunk window.1 }
