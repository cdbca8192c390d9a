use Rattle.std.proofs.Common.{◌≡◌, ◌+◌, drop}
use Rattle.station_facts.specs.Files.{all_bytes}
use Rattle.station_facts.proofs.sounds.all_bytes.Given as goal

abbrev pub invariant-loop-found : goal.invariant-loop-found
invariant-loop-found l = l.bytes + all_bytes l.rules (drop l.found-index l.looks) ≡ all_bytes l.rules l.looks
