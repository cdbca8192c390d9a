use Rattle.std.proofs.Common.{ap, refl}
use Rattle.type_terms.specs.Bound.{table_of}
use Rattle.type_terms.specs.Agenda.{agenda, agenda_of}
use Rattle.type_terms.specs.Term.{meaning, term_of}
use Rattle.type_terms.proofs.Agendas.{taken_down, taken_equal, taken_resolved}
use Rattle.type_terms.proofs.Basics.{on_false, on_true}
use Rattle.type_terms.proofs.differ.differ.Goals as goal

pub resolve-s-requires : goal.resolve-s-requires
resolve-s-requires c = record { sound = c.requires.sound; over = c.requires.left }

pub resolve-t-requires : goal.resolve-t-requires
resolve-t-requires c = record { sound = c.requires.sound; over = c.requires.right }

pub returns-then-are_one_variable : goal.returns-then-are_one_variable
returns-then-are_one_variable c =
    taken_equal (table_of c.args.bindings.now) _ (term_of c.args.left.now) (term_of c.args.right.now) (λ a n m k z. ap (meaning a) (on_true _ c.if-are_one_variable.ensures))

pub returns-then-is_known : goal.returns-then-is_known
returns-then-is_known c =
    taken_equal (table_of c.args.bindings.now) _ (term_of c.args.left.now) (term_of c.args.right.now) (λ a n m k. on_true _ c.if-is_known.ensures a n k)

pub returns-then-is_split : goal.returns-then-is_split
returns-then-is_split c =
    let s = table_of c.args.bindings.now in
    taken_down s (agenda_of c.args.agenda.now) (agenda c.push_copies.new.work.items c.note.new.seen.keys) (term_of c.args.left.now) (term_of c.args.right.now) (term_of c.resolve-s.result.now) (term_of c.resolve-t.result.now)
    c.resolve-s.ensures.over c.resolve-t.ensures.over c.resolve-s.ensures.value c.resolve-t.ensures.value
    (on_true _ c.if-is_split.ensures.yes) c.in_ok-push_copies.ensures c.in_ok-note.ensures.known c.in_ok-note.ensures.learnt

pub differ_resolved-requires : goal.differ_resolved-requires
differ_resolved-requires c =
    rw (c.deref.ensures.value, c.deref-2.ensures.value, c.deref-3.ensures.value) (record {
      sound = c.requires.sound;
      marked = c.requires.marked;
      left = c.resolve-s.ensures.over;
      right = c.resolve-t.ensures.over;
      left_free = c.resolve-s.ensures.free;
      right_free = c.resolve-t.ensures.free;
      unsplit = on_false _ c.if-is_split.ensures.unsplit;
    })

pub returns : goal.returns
returns c =
    taken_resolved (table_of c.args.bindings.now) (agenda_of c.args.agenda.now) (agenda_of c.args.agenda.now) refl
    (term_of c.args.left.now) (term_of c.args.right.now) (term_of c.resolve-s.result.now) (term_of c.resolve-t.result.now)
    c.resolve-s.ensures.value c.resolve-t.ensures.value c.in_ok-difference.difference (rw (c.deref.ensures.value, c.deref-2.ensures.value) at c.in_ok-difference.ensures)
