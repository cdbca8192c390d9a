use Rattle.std.proofs.Common.{◌≡◌}
use Rattle.track_library.proofs.plan_files.decode_each.Given as goal

-- the tracks are those of the files that were taken
abbrev pub invariant-loop-file : goal.invariant-loop-file
invariant-loop-file l = l.tracks.items ≡ l.yielded
