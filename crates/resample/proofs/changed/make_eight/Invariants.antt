use Rattle.std.proofs.Common.{◌≡◌, ◌<◌, ◌+◌, ◌*◌, ℕ, length, map, take}
use Rattle.std.specs.List.{range_with_len}
use Rattle.resample.specs.Changes.{samples_in}
use Rattle.resample.specs.Places.{reached}
use Rattle.resample.specs.Resampled.{parts_behind, sample_before, sample_behind}
use Rattle.resample.proofs.changed.make_eight.Given as goal

abbrev pub invariant-loop-k : goal.invariant-loop-k
invariant-loop-k l = record {
  long_before : length l.before ≡ 8;
  long_behind : length l.behind ≡ 8;
  long_parts : length l.parts ≡ 8;
  before : take l.k l.before ≡ map (λ j. sample_before l.way.from l.way.to l.source.kind (samples_in l.source) j l.side) (range_with_len l.first l.k);
  behind : take l.k l.behind ≡ map (λ j. sample_behind l.way.from l.way.to l.source.kind (samples_in l.source) j l.side) (range_with_len l.first l.k);
  parts : take l.k l.parts ≡ map (parts_behind l.way.from l.way.to) (range_with_len l.first l.k);
  part : l.place.part < l.way.to;
  whole : reached l.way.to l.place ≡ (l.first + l.k) * l.way.from;
}
