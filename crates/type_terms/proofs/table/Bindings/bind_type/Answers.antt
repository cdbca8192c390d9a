use Rattle.std.proofs.Common.{arith, refl}
use Rattle.std.proofs.lemmas.List.{with_items_is}
use Rattle.type_terms.specs.Term.{term_of}
use Rattle.type_terms.proofs.Bindings.{marked_bind, over_marks}
use Rattle.type_terms.proofs.table.Bindings.bind_type.Goals as goal

pub mark-requires : goal.mark-requires
mark-requires c = rw c.deref_mut.ensures.value (over_marks c.args.self.now.types.items c.args.self.now.nested.items c.requires.marked (term_of c.args.ty) c.requires.over)

pub bind_type-requires : goal.bind_type-requires
bind_type-requires c = rw c.deref_mut-2.ensures.value (record { inside = c.requires.inside; free = c.requires.free })

pub returns : goal.returns
returns c =
    let n = with_items_is c.args.self.now.nested c.mark.new.nested (omega (arith, c.mark.auto.nested, c.deref_mut.ensures.len)) in
    let t = with_items_is c.args.self.now.types c.bind_type.new.types (omega (arith, c.bind_type.auto.types, c.deref_mut-2.ensures.len)) in
    let marked = rw (← c.deref_mut.ensures.value, ← c.deref_mut-2.ensures.value) at c.requires.marked in
    rw (n, t, ← c.deref_mut.ensures.value, ← c.deref_mut-2.ensures.value) (record {
      binds = c.bind_type.ensures;
      same_kinds = refl;
      marked = marked_bind c.args.x (term_of c.args.ty) _ _ _ _ c.bind_type.ensures marked c.mark.auto.nested c.mark.ensures.kept c.mark.ensures.marked;
      marks_kept = c.mark.ensures.kept;
    })
