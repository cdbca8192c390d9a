use Rattle.std.proofs.Common.{◌≡◌, ◌≤◌, ◌+◌, ◌^◌, ◌-◌, length, codes}
use Rattle.wav_io.specs.Chunks.{chunks_of, chunks_behind, first_named}
use Rattle.wav_io.proofs.chunks.find_data.Given as goal

-- the place is near the file's end at most, and what is looked for is sought among the chunks from here on
abbrev pub invariant-loop-chunk : goal.invariant-loop-chunk
invariant-loop-chunk l = (l.place ≤ length l.bytes + 2 ^ 33) × (first_named (codes "data") (chunks_of l.bytes) ≡ first_named (codes "data") (chunks_behind l.bytes l.place))

abbrev pub decreases-loop-chunk : goal.decreases-loop-chunk
decreases-loop-chunk l = length l.bytes - l.place
