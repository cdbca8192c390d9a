use Rattle.std.proofs.Common.{◌≡◌, ◌+◌, ◌≤◌, length, take}
use Rattle.std.specs.List.{suffix_len}
use Rattle.script_places.specs.Naming.{is_no_blank}
use Rattle.script_places.proofs.numbers.last_word.Given as goal

abbrev pub invariant-loop-start : goal.invariant-loop-start
invariant-loop-start l = (l.start ≤ length l.line) × (l.start + suffix_len is_no_blank l.line ≡ length l.line + suffix_len is_no_blank (take l.start l.line))

abbrev pub decreases-loop-start : goal.decreases-loop-start
decreases-loop-start l = l.start
