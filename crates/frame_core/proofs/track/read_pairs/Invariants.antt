use Rattle.std.proofs.Common.{◌≡◌, length, take}
use Rattle.liq_base.specs.declared.memory.Kind.TheVariants.{Stereo}
use Rattle.frame_core.specs.Bytes.{samples_from}
use Rattle.frame_core.specs.Sounds.{lefts_from, rights_from}
use Rattle.frame_core.proofs.track.read_pairs.Given as goal

abbrev pub invariant-loop-j : goal.invariant-loop-j
invariant-loop-j l = record {
  left_long : length l.left ≡ length l.initial.left;
  right_long : length l.right ≡ length l.initial.left;
  left : take l.j l.left ≡ lefts_from (record { kind = Stereo; samples = samples_from l.bytes }) Stereo l.at l.j;
  right : take l.j l.right ≡ rights_from (record { kind = Stereo; samples = samples_from l.bytes }) Stereo l.at l.j;
}
