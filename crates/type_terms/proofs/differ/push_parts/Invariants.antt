use Rattle.std.proofs.Common.{◌≡◌, ◌++◌, map, take}
use Rattle.type_terms.specs.Term.{term_of, terms_of}
use Rattle.type_terms.specs.Pairs.{pairs, zipped}
use Rattle.type_terms.proofs.differ.push_parts.Given as goal

abbrev pub invariant-loop-i : goal.invariant-loop-i
invariant-loop-i l = pairs l.work.items ≡ pairs l.initial.work.items ++ zipped (terms_of (map term_of (take l.i l.ss))) (terms_of (map term_of (take l.i l.ts)))
