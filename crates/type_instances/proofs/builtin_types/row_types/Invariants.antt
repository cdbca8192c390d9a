use Rattle.std.proofs.Common.{◌≡◌, map, take}
use Rattle.type_terms.specs.Term.{term_of}
use Rattle.type_instances.specs.Rows.{numbered_row}
use Rattle.type_instances.proofs.builtin_types.row_types.Given as goal

abbrev pub invariant-loop-ty : goal.invariant-loop-ty
invariant-loop-ty l = map term_of l.types.items ≡ map (numbered_row l.any l.kind) (take l.ty-index l.row)
