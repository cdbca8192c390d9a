use Rattle.std.proofs.Common.{arith}
use Rattle.type_terms.proofs.Counting.{kinds_few, types_few}
use Rattle.type_terms.proofs.Counted.{kept_fresh_kind}
use Rattle.type_terms.proofs.Fresh.{new_kind}
use Rattle.type_terms.proofs.subst.Subst.fresh_kind.Goals as goal

pub overflow_add-self : goal.overflow_add-self
overflow_add-self c =
    let is = c.self.invariant.counted in
    let types = types_few c.self.inside.bindings.types.items in
    let kinds = kinds_few c.self.inside.bindings.kinds.items in
    omega (arith, is, types, kinds, c.self.inside.bindings.types.ok.0, c.self.inside.bindings.types.ok.1, c.self.inside.bindings.types.small, c.self.inside.bindings.kinds.ok.0, c.self.inside.bindings.kinds.ok.1, c.self.inside.bindings.kinds.small)

pub invariant_of-self-2 : goal.invariant_of-self-2
invariant_of-self-2 c = rw c.in_ok-push.ensures.items (kept_fresh_kind c.self.inside.bindings.types.items c.self.inside.bindings.kinds.items c.self.inside.bindings.nested.items c.self.inside.free c.self.invariant)

pub returns-clause-free : goal.returns-clause-free
returns-clause-free c = rw (← c.self.view_is, c.in_ok-push.ensures.items) (new_kind c.self.inside.bindings.types.items c.self.inside.bindings.kinds.items c.self.invariant.whole.sound)
