use Rattle.std.proofs.Common.{◌≡◌, ◌≤◌, ◌+◌, ◌^◌, ◌-◌, length}
use Rattle.wav_io.specs.Chunks.{chunks_of, chunks_behind}
use Rattle.wav_io.specs.Reading.{format_chunk}
use Rattle.wav_io.proofs.chunks.find_format.Given as goal

-- the place is near the file's end at most, and what is looked for is sought among the chunks from here on
abbrev pub invariant-loop-chunk : goal.invariant-loop-chunk
invariant-loop-chunk l = (l.place ≤ length l.bytes + 2 ^ 33) × (format_chunk (chunks_of l.bytes) ≡ format_chunk (chunks_behind l.bytes l.place))

abbrev pub decreases-loop-chunk : goal.decreases-loop-chunk
decreases-loop-chunk l = length l.bytes - l.place
