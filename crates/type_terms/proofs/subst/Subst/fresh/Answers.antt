use Rattle.std.proofs.Common.{false, arith}
use Rattle.std.proofs.lemmas.Result.{err_from_is_err_and}
use Rattle.type_terms.proofs.Counting.{kinds_few, types_few}
use Rattle.type_terms.proofs.Counted.{kept_fresh}
use Rattle.type_terms.proofs.Fresh.{new_type}
use Rattle.type_terms.proofs.subst.Subst.fresh.Goals as goal

pub overflow_add-self : goal.overflow_add-self
overflow_add-self c =
    let is = c.self.invariant.counted in
    let types = types_few c.self.inside.bindings.types.items in
    let kinds = kinds_few c.self.inside.bindings.kinds.items in
    omega (arith, is, types, kinds, c.self.inside.bindings.types.ok.0, c.self.inside.bindings.types.ok.1, c.self.inside.bindings.types.small, c.self.inside.bindings.kinds.ok.0, c.self.inside.bindings.kinds.ok.1, c.self.inside.bindings.kinds.small)

pub invariant_of-self-2 : goal.invariant_of-self-2
invariant_of-self-2 c = rw (c.in_ok-push-2.ensures.items, c.in_ok-push.ensures.items, c.new.ensures) (kept_fresh c.self.inside.bindings.types.items c.self.inside.bindings.kinds.items c.self.inside.bindings.nested.items c.self.inside.free c.args.number false c.self.invariant)

pub returns-clause-free : goal.returns-clause-free
returns-clause-free c = rw (← c.self.view_is, c.in_ok-push-2.ensures.items, c.new.ensures) (new_type c.self.inside.bindings.types.items c.self.inside.bindings.kinds.items c.args.number c.self.invariant.whole.sound)

pub returns-in_err-push-clause-next : goal.returns-in_err-push-clause-next
returns-in_err-push-clause-next c = let p = err_from_is_err_and c.from_residual.result c.from_residual.ensures.1 in rw p.1 tt

pub returns-in_err-push-clause-grown : goal.returns-in_err-push-clause-grown
returns-in_err-push-clause-grown c = let p = err_from_is_err_and c.from_residual.result c.from_residual.ensures.1 in rw p.1 tt

pub returns-in_err-push-clause-free : goal.returns-in_err-push-clause-free
returns-in_err-push-clause-free c = let p = err_from_is_err_and c.from_residual.result c.from_residual.ensures.1 in rw p.1 tt

pub returns-in_err-push-2-clause-next : goal.returns-in_err-push-2-clause-next
returns-in_err-push-2-clause-next c = let p = err_from_is_err_and c.from_residual-in_err-push-2.result c.from_residual-in_err-push-2.ensures.1 in rw p.1 tt

pub returns-in_err-push-2-clause-grown : goal.returns-in_err-push-2-clause-grown
returns-in_err-push-2-clause-grown c = let p = err_from_is_err_and c.from_residual-in_err-push-2.result c.from_residual-in_err-push-2.ensures.1 in rw p.1 tt

pub returns-in_err-push-2-clause-free : goal.returns-in_err-push-2-clause-free
returns-in_err-push-2-clause-free c = let p = err_from_is_err_and c.from_residual-in_err-push-2.result c.from_residual-in_err-push-2.ensures.1 in rw p.1 tt

pub returns-clause-err : goal.returns-clause-err
returns-clause-err c = tt
