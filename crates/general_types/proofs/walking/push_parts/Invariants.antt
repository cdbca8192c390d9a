use Rattle.std.proofs.Common.{◌≡◌, ◌++◌, map, take}
use Rattle.type_terms.specs.Nested.{terms}
use Rattle.type_terms.specs.Term.{term_of}
use Rattle.general_types.proofs.walking.push_parts.Given as goal

abbrev pub invariant-loop-part : goal.invariant-loop-part
invariant-loop-part l = terms l.work.items ≡ terms l.initial.work.items ++ map term_of (take l.part-index l.parts)
