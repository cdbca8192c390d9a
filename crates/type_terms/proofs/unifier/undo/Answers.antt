use Rattle.std.proofs.Common.{◌≡◌, arith, refl}
use Rattle.std.proofs.lemmas.List.{with_items_is}
use Rattle.type_terms.proofs.unifier.undo.Goals as goal

pub free_types-requires : goal.free_types-requires
free_types-requires c = (c.requires.0.types, rw (c.deref_mut.ensures.value, c.deref.ensures.value) c.requires.1.types)

pub free_kinds-requires : goal.free_kinds-requires
free_kinds-requires c = (c.requires.0.kinds, rw (c.deref_mut-2.ensures.value, c.deref-2.ensures.value) c.requires.1.kinds)

pub returns : goal.returns
returns c =
    let t = with_items_is c.args.bindings.now.types c.free_types.new.types (omega (arith, c.free_types.auto.types, c.deref_mut.ensures.len)) in
    let k = with_items_is c.args.bindings.now.kinds c.free_kinds.new.kinds (omega (arith, c.free_kinds.auto.kinds, c.deref_mut-2.ensures.len)) in
    record {
      undone = λ s told.
          (let types : c.free_types.new.types ≡ s.types = c.free_types.ensures s.types (rw (c.deref_mut.ensures.value, c.deref.ensures.value) told.types) in
          let kinds : c.free_kinds.new.kinds ≡ s.kinds = c.free_kinds.ensures s.kinds (rw (c.deref_mut-2.ensures.value, c.deref-2.ensures.value) told.kinds) in
          rw (t, k, types, kinds) refl);
      same_marks = refl;
    }
