use Rattle.std.proofs.Common.{◌≡◌, ◌+◌, ◌≤◌, length}
use Rattle.track_library.specs.Lists.{lines}
use Rattle.sound_looks.specs.Looks.{skipped_among, skipped_in}
use Rattle.sound_looks.proofs.list.count_skipped.Given as goal

-- the lines so far and those in the rest are all lines, and each had a byte
abbrev pub invariant-loop-rest : goal.invariant-loop-rest
invariant-loop-rest l = record {
  counted : skipped_in l.bytes ≡ l.count + skipped_among (lines l.rest);
  few : l.count + length l.rest ≤ length l.bytes;
}

abbrev pub decreases-loop-rest : goal.decreases-loop-rest
decreases-loop-rest l = length l.rest
