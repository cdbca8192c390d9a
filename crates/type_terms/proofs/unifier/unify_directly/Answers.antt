use Rattle.std.proofs.Common.{sym, subst, refl, ◌<◌, length, arith}
use Rattle.type_terms.specs.Bound.{table_of}
use Rattle.type_terms.specs.Table.{Binds}
use Rattle.type_terms.specs.Term.{InTerm, term_of}
use Rattle.type_terms.proofs.Counting.{count_kind, count_type}
use Rattle.type_terms.proofs.Narrowed.{narrowed_kind, narrowed_type, same_kind, same_type}
use Rattle.type_terms.proofs.Settling.{over_types}
use Rattle.type_terms.proofs.unifier.unify_directly.Goals as goal

pub returns-in-Same-clause-direct : goal.returns-in-Same-clause-direct
returns-in-Same-clause-direct c =
    rw (c.in-Some.is, c.in-Same.is) at c.in_ok-found.ensures

pub returns-in-Clash-clause-direct : goal.returns-in-Clash-clause-direct
returns-in-Clash-clause-direct c =
    (refl, rw (c.in-Some.is, c.in-Clash.is) at c.in_ok-found.ensures)

pub bind_type-requires : goal.bind_type-requires
bind_type-requires c =
    let f = rw (c.in-Some.is, c.in-Bind.is) at c.in_ok-found.ensures in
    record {
      marked = c.requires.comparable.marked;
      inside = f.inside;
      free = f.free;
      over = subst (λ u. InTerm (λ n. n < length c.args.bindings.now.types.items) (λ _. Unit {0}) u) (sym c.in_ok-t-in-Bind.ensures) (over_types c.args.bindings.now.types.items c.args.bindings.now.kinds.items (term_of c.in-Bind.t.now) f.over);
    }

pub overflow_sub-free : goal.overflow_sub-free
overflow_sub-free c =
    let s = table_of c.args.bindings.now in
    let s' = table_of c.bind_type.new.self in
    let f = rw (c.in-Some.is, c.in-Bind.is) at c.in_ok-found.ensures in
    let b : Binds c.in-Bind.x (term_of c.in-Bind.t.now) c.args.bindings.now.types.items c.bind_type.new.self.types.items = subst (λ u. Binds c.in-Bind.x u c.args.bindings.now.types.items c.bind_type.new.self.types.items) c.in_ok-t-in-Bind.ensures c.bind_type.ensures.binds in
    let less = count_type s s' c.in-Bind.x (term_of c.in-Bind.t.now) f.inside b c.bind_type.ensures.same_kinds in
    omega (arith, less, c.requires.counted)

pub overflow_sub-free-in-BindKind : goal.overflow_sub-free-in-BindKind
overflow_sub-free-in-BindKind c =
    let s = table_of c.args.bindings.now in
    let s' = table_of c.bind_kind.new.self in
    let f = rw (c.in-Some.is, c.in-BindKind.is) at c.in_ok-found.ensures in
    let less = count_kind s s' c.in-BindKind.x c.in-BindKind.k f.inside c.bind_kind.ensures.binds c.bind_kind.ensures.same_types in
    omega (arith, less, c.requires.counted)

pub returns-in_ok-spend-in-Bind : goal.returns-in_ok-spend-in-Bind
returns-in_ok-spend-in-Bind c =
    let s = table_of c.args.bindings.now in
    let s' = table_of c.bind_type.new.self in
    let f = rw (c.in-Some.is, c.in-Bind.is) at c.in_ok-found.ensures in
    let b : Binds c.in-Bind.x (term_of c.in-Bind.t.now) c.args.bindings.now.types.items c.bind_type.new.self.types.items = subst (λ u. Binds c.in-Bind.x u c.args.bindings.now.types.items c.bind_type.new.self.types.items) c.in_ok-t-in-Bind.ensures c.bind_type.ensures.binds in
    record {
      narrowed = narrowed_type _ _ s s' _ _ f b c.bind_type.ensures.same_kinds _ _ c.requires.comparable.sound c.bind_type.ensures.marked c.bind_type.ensures.marks_kept;
      direct = same_type _ _ s s' _ _ f b c.bind_type.ensures.same_kinds;
      counted = let less = count_type s s' c.in-Bind.x (term_of c.in-Bind.t.now) f.inside b c.bind_type.ensures.same_kinds in omega (arith, less, c.requires.counted);
      err = tt;
    }

pub returns-in-BindKind : goal.returns-in-BindKind
returns-in-BindKind c =
    let s = table_of c.args.bindings.now in
    let s' = table_of c.bind_kind.new.self in
    let f = rw (c.in-Some.is, c.in-BindKind.is) at c.in_ok-found.ensures in
    record {
      narrowed = rw c.bind_kind.ensures.same_marks (narrowed_kind _ _ s s' _ _ f c.bind_kind.ensures.binds c.bind_kind.ensures.same_types _ c.requires.comparable.sound c.requires.comparable.marked);
      direct = same_kind _ _ s s' _ _ f c.bind_kind.ensures.binds c.bind_kind.ensures.same_types;
      counted = let less = count_kind s s' c.in-BindKind.x c.in-BindKind.k f.inside c.bind_kind.ensures.binds c.bind_kind.ensures.same_types in omega (arith, less, c.requires.counted);
      err = tt;
    }
