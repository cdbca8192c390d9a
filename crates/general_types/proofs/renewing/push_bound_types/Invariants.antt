use Rattle.std.proofs.Common.{◌≡◌, None, take}
use Rattle.type_terms.specs.Table.{bound_at}
use Rattle.general_types.specs.Renewing.{FindsBut}
use Rattle.general_types.proofs.renewing.push_bound_types.Given as goal

abbrev pub invariant-loop-number : goal.invariant-loop-number
invariant-loop-number l = FindsBut (λ k. bound_at l.subst.types k ≡ None) (take l.number-index l.numbers) l.found.items
