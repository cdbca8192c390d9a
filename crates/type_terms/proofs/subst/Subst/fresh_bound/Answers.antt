use Rattle.std.proofs.Common.{arith, subst, sym, ◌∙◌}
use Rattle.std.proofs.lemmas.List.{with_items_is}
use Rattle.type_terms.specs.Table.{IsOver, table}
use Rattle.type_terms.specs.Term.{term_of}
use Rattle.type_terms.proofs.Counted.{kept_bound}
use Rattle.type_terms.proofs.FreshBound.{bound_type, over_nested}
use Rattle.type_terms.proofs.subst.Subst.fresh_bound.Goals as goal

pub mark-requires : goal.mark-requires
mark-requires c =
    let o : IsOver (table c.self.inside.bindings.types.items c.self.inside.bindings.kinds.items) (term_of c.args.ty) = subst (λ s. IsOver s (term_of c.args.ty)) (sym c.self.view_is) c.requires.over in
    over_nested _ _ _ _ c.self.invariant.whole (c.deref_mut.ensures.value ∙ c.in_ok-push.ensures.items) (term_of c.args.ty) o

pub invariant_of-self-2 : goal.invariant_of-self-2
invariant_of-self-2 c =
    let n = with_items_is c.push.new.self c.mark.new.nested (omega (arith, c.mark.auto.nested, c.deref_mut.ensures.len)) in
    let o : IsOver (table c.self.inside.bindings.types.items c.self.inside.bindings.kinds.items) (term_of c.args.ty) = subst (λ s. IsOver s (term_of c.args.ty)) (sym c.self.view_is) c.requires.over in
    rw (n, c.push_reserved.ensures.items, c.in_ok-reserve.ensures.items, c.bound_to.ensures) (kept_bound _ _ _ _ _ c.self.invariant (c.deref_mut.ensures.value ∙ c.in_ok-push.ensures.items) _ c.mark.auto.nested c.mark.ensures.kept _ o c.mark.ensures.marked)

pub returns-clause-bound : goal.returns-clause-bound
returns-clause-bound c =
    let o : IsOver (table c.self.inside.bindings.types.items c.self.inside.bindings.kinds.items) (term_of c.args.ty) = subst (λ s. IsOver s (term_of c.args.ty)) (sym c.self.view_is) c.requires.over in
    rw (c.len-next.ensures, c.self.inside.bindings.types.ok.0, ← c.self.view_is, c.push_reserved.ensures.items, c.in_ok-reserve.ensures.items, c.bound_to.ensures) (bound_type c.self.inside.bindings.types.items c.self.inside.bindings.kinds.items (term_of c.args.ty) c.self.invariant.whole.sound o)
