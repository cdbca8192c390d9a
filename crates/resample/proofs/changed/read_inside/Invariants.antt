use Rattle.std.proofs.Common.{◌≡◌, ◌<◌, ◌≤◌, ◌+◌, ◌-◌, ◌*◌, length, map, take}
use Rattle.std.specs.List.{range_with_len}
use Rattle.resample.specs.Changes.{samples_in}
use Rattle.resample.specs.Places.{reached}
use Rattle.resample.specs.Resampled.{resampled_sample}
use Rattle.resample.proofs.changed.read_inside.Given as goal

abbrev pub invariant-loop-into : goal.invariant-loop-into
invariant-loop-into l = record {
  long : length l.into ≡ length l.initial.into;
  few : l.done ≤ length l.into;
  into : take l.done l.into ≡ map (λ j. resampled_sample l.way.from l.way.to l.source.kind (samples_in l.source) j l.side) (range_with_len l.at l.done);
  part : l.place.part < l.way.to;
  whole : reached l.way.to l.place ≡ (l.at + l.done) * l.way.from;
}

abbrev pub decreases-loop-into : goal.decreases-loop-into
decreases-loop-into l = length l.into - l.done

abbrev pub invariant-loop-k : goal.invariant-loop-k
invariant-loop-k l = record {
  long : length l.into ≡ length l.fn.into;
  into : take l.k l.into ≡ map (λ j. resampled_sample l.way.from l.way.to l.source.kind (samples_in l.source) j l.side) (range_with_len l.at l.k);
  part : l.place.part < l.way.to;
  whole : reached l.way.to l.place ≡ (l.at + l.k) * l.way.from;
}
