use Rattle.std.proofs.Common.{◌≡◌, length, map, take}
use Rattle.std.specs.List.{range_with_len}
use Rattle.frame_core.specs.Bytes.{samples_from}
use Rattle.frame_core.specs.Sounds.{sample_at}
use Rattle.frame_core.proofs.track.read_singles.Given as goal

abbrev pub invariant-loop-j : goal.invariant-loop-j
invariant-loop-j l = record {
  long : length l.into ≡ length l.initial.into;
  into : take l.j l.into ≡ map (sample_at (samples_from l.bytes)) (range_with_len l.at l.j);
}
