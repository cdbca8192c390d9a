use Rattle.std.proofs.Common.{◌≡◌, [], ap, refl, rules}
use Rattle.type_terms.specs.Bound.{table_of}
use Rattle.type_terms.specs.Agenda.{agenda, agenda_of, pairs_of}
use Rattle.type_terms.specs.Term.{term_of}
use Rattle.type_terms.proofs.Agendas.{comparison_done, comparison_start, comparison_step, popped_pair, top_needed, top_over}
use Rattle.type_terms.proofs.Narrowed.{narrowed_both, trailed_both, trailed_none, unchanged}
use Rattle.type_terms.proofs.unifier.compare.Goals as goal

pub returns-in_err-push_copies-clause-narrowed : goal.returns-in_err-push_copies-clause-narrowed
returns-in_err-push_copies-clause-narrowed c = unchanged _ _ (table_of c.args.bindings.now) _ c.requires.comparable.sound c.requires.comparable.marked

pub returns-in_err-push_copies-clause-trailed : goal.returns-in_err-push_copies-clause-trailed
returns-in_err-push_copies-clause-trailed c = trailed_none (table_of c.args.bindings.now) _

pub loop-step-init : goal.loop-step-init
loop-step-init c =
    let todo : pairs_of c.args.agenda.now.work.items ≡ [] = ap (λ a. a.todo) c.requires.empty in
    let e = rw todo at c.in_ok-push_copies.ensures in
    record {
      narrowed = unchanged _ _ (table_of c.args.bindings.now) _ c.requires.comparable.sound c.requires.comparable.marked;
      trailed = trailed_none (table_of c.args.bindings.now) _;
      agenda = comparison_start (table_of c.args.bindings.now) (term_of c.args.left.now) (term_of c.args.right.now) (agenda c.push_copies.new.work.items c.args.agenda.now.seen.keys) e (ap (λ a. a.seen) c.requires.empty) c.requires.comparable.left c.requires.comparable.right;
    }

pub take_apart-requires : goal.take_apart-requires
take_apart-requires c =
    let o = top_over (table_of c.loop-step.bindings) (term_of c.args.left.now) (term_of c.args.right.now) (term_of c.in-Some.next.0) (term_of c.in-Some.next.1) (pairs_of c.pop.new.self.items) (agenda_of c.loop-step.agenda) (popped_pair _ _ _ c.in-Some.ensures.items) c.loop-step.invariant.agenda in
    let h = c.loop-step.invariant.narrowed in
    record { sound = h.sound; marked = h.marked; left = o.0; right = o.1 }

pub loop-step-preserved : goal.loop-step-preserved
loop-step-preserved c =
    let f = c.take_apart.ensures.narrowed in
    record {
      narrowed = narrowed_both _ _ _ _ _ _ _ _ _ _ c.loop-step.invariant.narrowed c.take_apart.ensures.narrowed (top_needed (table_of c.loop-step.bindings) (term_of c.args.left.now) (term_of c.args.right.now) (term_of c.in-Some.next.0) (term_of c.in-Some.next.1) (pairs_of c.pop.new.self.items) (agenda_of c.loop-step.agenda) (popped_pair _ _ _ c.in-Some.ensures.items) c.loop-step.invariant.agenda);
      trailed = trailed_both _ _ _ _ _ _ c.loop-step.invariant.trailed c.take_apart.ensures.trailed;
      agenda = comparison_step (table_of c.loop-step.bindings) (term_of c.args.left.now) (term_of c.args.right.now) (term_of c.in-Some.next.0) (term_of c.in-Some.next.1) (pairs_of c.pop.new.self.items) (agenda_of c.loop-step.agenda) (popped_pair _ _ _ c.in-Some.ensures.items) c.loop-step.invariant.agenda (table_of c.take_apart.new.bindings) (agenda c.pop.new.self.items c.loop-step.agenda.seen.keys) (agenda_of c.take_apart.new.agenda) refl refl f.same_variables.types f.same_variables.kinds f.narrower (rw c.if-not-branch.false at c.in_ok-take_apart.ensures.taken);
    }

pub returns-in_default : goal.returns-in_default
returns-in_default c =
    let none : c.loop-step.agenda.work.items ≡ [] = search rules in
    record {
      narrowed = c.loop-step.invariant.narrowed;
      trailed = c.loop-step.invariant.trailed;
      answer = comparison_done (table_of c.loop-step.bindings) (term_of c.args.left.now) (term_of c.args.right.now) (agenda_of c.loop-step.agenda) c.loop-step.agenda.seen.keys refl (ap pairs_of none) c.loop-step.invariant.agenda;
    }

pub returns-then-not-branch : goal.returns-then-not-branch
returns-then-not-branch c =
    let f = c.take_apart.ensures.narrowed in
    record {
      narrowed = narrowed_both _ _ _ _ _ _ _ _ _ _ c.loop-step.invariant.narrowed c.take_apart.ensures.narrowed (top_needed (table_of c.loop-step.bindings) (term_of c.args.left.now) (term_of c.args.right.now) (term_of c.in-Some.next.0) (term_of c.in-Some.next.1) (pairs_of c.pop.new.self.items) (agenda_of c.loop-step.agenda) (popped_pair _ _ _ c.in-Some.ensures.items) c.loop-step.invariant.agenda);
      trailed = trailed_both _ _ _ _ _ _ c.loop-step.invariant.trailed c.take_apart.ensures.trailed;
      answer = λ a m e. (rw c.if-not-branch.true at c.in_ok-take_apart.ensures.taken) a m (top_needed (table_of c.loop-step.bindings) (term_of c.args.left.now) (term_of c.args.right.now) (term_of c.in-Some.next.0) (term_of c.in-Some.next.1) (pairs_of c.pop.new.self.items) (agenda_of c.loop-step.agenda) (popped_pair _ _ _ c.in-Some.ensures.items) c.loop-step.invariant.agenda a (f.narrower a m) e);
    }

pub returns-in_err-take_apart-clause-narrowed : goal.returns-in_err-take_apart-clause-narrowed
returns-in_err-take_apart-clause-narrowed c = narrowed_both _ _ _ _ _ _ _ _ _ _ c.loop-step.invariant.narrowed c.take_apart.ensures.narrowed (top_needed (table_of c.loop-step.bindings) (term_of c.args.left.now) (term_of c.args.right.now) (term_of c.in-Some.next.0) (term_of c.in-Some.next.1) (pairs_of c.pop.new.self.items) (agenda_of c.loop-step.agenda) (popped_pair _ _ _ c.in-Some.ensures.items) c.loop-step.invariant.agenda)

pub returns-in_err-take_apart-clause-trailed : goal.returns-in_err-take_apart-clause-trailed
returns-in_err-take_apart-clause-trailed c = trailed_both _ _ _ _ _ _ c.loop-step.invariant.trailed c.take_apart.ensures.trailed

pub returns-clause-narrowed : goal.returns-clause-narrowed
returns-clause-narrowed c = c.loop-step.invariant.narrowed

pub returns-clause-trailed : goal.returns-clause-trailed
returns-clause-trailed c = c.loop-step.invariant.trailed
