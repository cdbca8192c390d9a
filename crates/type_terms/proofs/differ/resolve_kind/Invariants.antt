use Rattle.std.proofs.Common.{◌≡◌, ◌<◌, length}
use Rattle.type_terms.specs.Ground.{Assignment}
use Rattle.type_terms.specs.Table.{MeetsKinds}
use Rattle.type_terms.specs.Term.{InKind, kind_meaning}
use Rattle.type_terms.proofs.KindLemmas.{kind_height}
use Rattle.type_terms.proofs.differ.resolve_kind.Given as goal

abbrev pub invariant-loop-k : goal.invariant-loop-k
invariant-loop-k l = record {
  value : (a : Assignment) → MeetsKinds l.kinds a → kind_meaning a l.k ≡ kind_meaning a l.initial.k;
  over : InKind (λ n. n < length l.kinds) l.k;
}

abbrev pub decreases-loop-k : goal.decreases-loop-k
decreases-loop-k l = kind_height l.k
