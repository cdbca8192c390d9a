use Rattle.std.proofs.Common.{◌≡◌, length, take}
use Rattle.liq_base.specs.declared.memory.Kind.TheVariants.{Mono, Stereo}
use Rattle.frame_core.specs.Bytes.{samples_from}
use Rattle.frame_core.specs.Sounds.{lefts_from}
use Rattle.frame_core.proofs.track.read_halves.Given as goal

abbrev pub invariant-loop-j : goal.invariant-loop-j
invariant-loop-j l = record {
  long : length l.halves ≡ length l.initial.halves;
  halves : take l.j l.halves ≡ lefts_from (record { kind = Stereo; samples = samples_from l.bytes }) Mono l.at l.j;
}
