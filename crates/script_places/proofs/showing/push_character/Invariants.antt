use Rattle.std.proofs.Common.{◌≡◌, ◌++◌, drop}
use Rattle.script_places.specs.Showing.{character_shown}
use Rattle.script_places.proofs.showing.push_character.Given as goal

abbrev pub invariant-loop-byte : goal.invariant-loop-byte
invariant-loop-byte l = l.out.items ++ character_shown l.hidden (drop l.byte-index l.character) ≡ l.fn.out.items ++ character_shown l.hidden l.character
