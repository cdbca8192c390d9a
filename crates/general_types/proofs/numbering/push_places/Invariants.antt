use Rattle.std.proofs.Common.{◌≡◌, ℕ, List, Some, length, map, take}
use Rattle.std.specs.List.{flat_map}
use Rattle.type_terms.specs.Term.{source_term, term_of}
use Rattle.typing_rules.specs.Kinds.{numbered_on}
use Rattle.general_types.specs.Numbering.{AreNumbered, place_of}
use Rattle.general_types.proofs.numbering.push_places.Given as goal

abbrev pub invariant-loop-source : goal.invariant-loop-source
invariant-loop-source l = record {
  numbered : (ts : List ℕ) → AreNumbered ts l.fn.kinds.keys ts l.kinds.keys (map term_of (take l.source-index l.sources)) (map source_term l.places.items);
  next : numbered_on (length l.fn.kinds.keys) (flat_map place_of l.places.items) ≡ Some (length l.kinds.keys);
}
