use Rattle.std.proofs.Common.{sym, subst, refl, ◌<◌, length}
use Rattle.type_terms.specs.Bound.{table_of}
use Rattle.type_terms.specs.Agenda.{agenda_of}
use Rattle.type_terms.specs.Table.{Binds}
use Rattle.type_terms.specs.Term.{InTerm, term_of}
use Rattle.type_terms.proofs.Agendas.{taken_same}
use Rattle.type_terms.proofs.Narrowed.{narrowed_kind, narrowed_type, same_kind, same_type, trailed_kind, trailed_none, trailed_type, unchanged}
use Rattle.type_terms.proofs.Settling.{over_types}
use Rattle.type_terms.proofs.unifier.take_up.Goals as goal

pub bind_type-requires : goal.bind_type-requires
bind_type-requires c =
    let f = rw c.in-Bind.is at c.in_ok-differ.ensures in
    record {
      marked = c.requires.marked;
      inside = f.0.inside;
      free = f.0.free;
      over = subst (λ u. InTerm (λ n. n < length c.args.bindings.now.types.items) (λ _. Unit {0}) u) (sym c.in_ok-t-in-Bind.ensures) (over_types c.args.bindings.now.types.items c.args.bindings.now.kinds.items (term_of c.in-Bind.t.now) f.0.over);
    }

pub returns-in_ok-push-in-Bind : goal.returns-in_ok-push-in-Bind
returns-in_ok-push-in-Bind c =
    let f = rw c.in-Bind.is at c.in_ok-differ.ensures in
    let b : Binds c.in-Bind.x (term_of c.in-Bind.t.now) c.args.bindings.now.types.items c.bind_type.new.self.types.items = subst (λ u. Binds c.in-Bind.x u c.args.bindings.now.types.items c.bind_type.new.self.types.items) c.in_ok-t-in-Bind.ensures c.bind_type.ensures.binds in
    let s = table_of c.args.bindings.now in
    let s' = table_of c.bind_type.new.self in
    record {
      narrowed = narrowed_type _ _ s s' _ _ f.0 b c.bind_type.ensures.same_kinds _ _ c.requires.sound c.bind_type.ensures.marked c.bind_type.ensures.marks_kept;
      trailed = trailed_type _ _ s s' _ _ f.0 b c.bind_type.ensures.same_kinds _ _ c.in_ok-push-in-Bind.ensures.items refl;
      taken = taken_same s' (agenda_of c.args.agenda.now) (agenda_of c.differ.new.agenda) (term_of c.args.left.now) (term_of c.args.right.now) f.1 (same_type _ _ s s' _ _ f.0 b c.bind_type.ensures.same_kinds);
    }

pub returns-in_ok-push-in-BindKind : goal.returns-in_ok-push-in-BindKind
returns-in_ok-push-in-BindKind c =
    let f = rw c.in-BindKind.is at c.in_ok-differ.ensures in
    let b = c.bind_kind.ensures.binds in
    let s = table_of c.args.bindings.now in
    let s' = table_of c.bind_kind.new.self in
    record {
      narrowed = rw c.bind_kind.ensures.same_marks (narrowed_kind _ _ s s' _ _ f.0 b c.bind_kind.ensures.same_types _ c.requires.sound c.requires.marked);
      trailed = trailed_kind _ _ s s' _ _ f.0 b c.bind_kind.ensures.same_types _ _ c.in_ok-push-in-BindKind.ensures.items refl;
      taken = taken_same s' (agenda_of c.args.agenda.now) (agenda_of c.differ.new.agenda) (term_of c.args.left.now) (term_of c.args.right.now) f.1 (same_kind _ _ s s' _ _ f.0 b c.bind_kind.ensures.same_types);
    }

pub returns-in_err-differ-clause-narrowed : goal.returns-in_err-differ-clause-narrowed
returns-in_err-differ-clause-narrowed c = unchanged _ _ (table_of c.args.bindings.now) _ c.requires.sound c.requires.marked

pub returns-in_err-differ-clause-trailed : goal.returns-in_err-differ-clause-trailed
returns-in_err-differ-clause-trailed c = trailed_none (table_of c.args.bindings.now) _

pub returns-in_ok-spend_behind-in-Same-clause-narrowed : goal.returns-in_ok-spend_behind-in-Same-clause-narrowed
returns-in_ok-spend_behind-in-Same-clause-narrowed c = unchanged _ _ (table_of c.args.bindings.now) _ c.requires.sound c.requires.marked

pub returns-in_ok-spend_behind-in-Same-clause-trailed : goal.returns-in_ok-spend_behind-in-Same-clause-trailed
returns-in_ok-spend_behind-in-Same-clause-trailed c = trailed_none (table_of c.args.bindings.now) _

pub returns-in-Clash-clause-narrowed : goal.returns-in-Clash-clause-narrowed
returns-in-Clash-clause-narrowed c = unchanged _ _ (table_of c.args.bindings.now) _ c.requires.sound c.requires.marked

pub returns-in-Clash-clause-trailed : goal.returns-in-Clash-clause-trailed
returns-in-Clash-clause-trailed c = trailed_none (table_of c.args.bindings.now) _

pub returns-in_err-t-in-Bind-clause-narrowed : goal.returns-in_err-t-in-Bind-clause-narrowed
returns-in_err-t-in-Bind-clause-narrowed c = unchanged _ _ (table_of c.args.bindings.now) _ c.requires.sound c.requires.marked

pub returns-in_err-t-in-Bind-clause-trailed : goal.returns-in_err-t-in-Bind-clause-trailed
returns-in_err-t-in-Bind-clause-trailed c = trailed_none (table_of c.args.bindings.now) _

pub returns-in_err-push-in-Bind-clause-narrowed : goal.returns-in_err-push-in-Bind-clause-narrowed
returns-in_err-push-in-Bind-clause-narrowed c = unchanged _ _ (table_of c.args.bindings.now) _ c.requires.sound c.requires.marked

pub returns-in_err-push-in-BindKind-clause-narrowed : goal.returns-in_err-push-in-BindKind-clause-narrowed
returns-in_err-push-in-BindKind-clause-narrowed c = unchanged _ _ (table_of c.args.bindings.now) _ c.requires.sound c.requires.marked

pub returns-in_err-spend_behind-in-Same-clause-narrowed : goal.returns-in_err-spend_behind-in-Same-clause-narrowed
returns-in_err-spend_behind-in-Same-clause-narrowed c = unchanged _ _ (table_of c.args.bindings.now) _ c.requires.sound c.requires.marked

pub returns-in_err-spend_behind-in-Same-clause-trailed : goal.returns-in_err-spend_behind-in-Same-clause-trailed
returns-in_err-spend_behind-in-Same-clause-trailed c = trailed_none (table_of c.args.bindings.now) _

pub returns-in_err-spend-in-Bind-clause-narrowed : goal.returns-in_err-spend-in-Bind-clause-narrowed
returns-in_err-spend-in-Bind-clause-narrowed c = unchanged _ _ (table_of c.args.bindings.now) _ c.requires.sound c.requires.marked

pub returns-in_err-spend-in-Bind-clause-trailed : goal.returns-in_err-spend-in-Bind-clause-trailed
returns-in_err-spend-in-Bind-clause-trailed c = trailed_none (table_of c.args.bindings.now) _
