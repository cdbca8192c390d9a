use Rattle.std.proofs.Common.{◌≡◌, [], ap, rules}
use Rattle.type_terms.specs.Bound.{table_of}
use Rattle.type_terms.specs.Agenda.{agenda_of}
use Rattle.type_terms.specs.Pairs.{pairs}
use Rattle.type_terms.specs.Term.{term_of}
use Rattle.type_terms.proofs.Agendas.{part_needed, part_over, partly_done, partly_split, partly_start, partly_step, popped_parts}
use Rattle.type_terms.proofs.Basics.{on_false, on_true}
use Rattle.type_terms.proofs.Narrowed.{narrowed_both, trailed_both, trailed_none, unchanged}
use Rattle.type_terms.proofs.unifier.take_apart.Goals as goal

pub returns-in_err-push-clause-narrowed : goal.returns-in_err-push-clause-narrowed
returns-in_err-push-clause-narrowed c = unchanged _ _ (table_of c.args.bindings.now) _ c.requires.sound c.requires.marked

pub returns-in_err-push-clause-trailed : goal.returns-in_err-push-clause-trailed
returns-in_err-push-clause-trailed c = trailed_none (table_of c.args.bindings.now) _

pub loop-step-init : goal.loop-step-init
loop-step-init c =
    let none : c.new-parts.result.items ≡ [] = search rules in
    record {
      narrowed = unchanged _ _ (table_of c.args.bindings.now) _ c.requires.sound c.requires.marked;
      trailed = trailed_none (table_of c.args.bindings.now) _;
      parts = partly_start (table_of c.args.bindings.now) (agenda_of c.args.agenda.now) (term_of c.args.left.now) (term_of c.args.right.now) (pairs c.push.new.self.items) (ap pairs (rw none at c.in_ok-push.ensures.items)) c.requires.left c.requires.right;
    }

pub loop-step-preserved-then-branch : goal.loop-step-preserved-then-branch
loop-step-preserved-then-branch c =
    let y = on_true _ (rw c.if-branch.true at c.in_ok-push_split.ensures.yes) in
    let h = c.loop-step.invariant in
    record {
      narrowed = h.narrowed;
      trailed = h.trailed;
      parts = partly_split (table_of c.loop-step.bindings) (agenda_of c.args.agenda.now) (agenda_of c.loop-step.agenda) (term_of c.args.left.now) (term_of c.args.right.now) (term_of c.in-Some.next.0.now) (term_of c.in-Some.next.1.now) (pairs c.pop.new.self.items) (pairs c.loop-step.parts.items) (pairs c.push_split.new.work.items) (popped_parts _ _ _ c.in-Some.ensures.items) c.loop-step.invariant.parts y.0 y.1;
    }

pub take_up-requires : goal.take_up-requires
take_up-requires c =
    let o = part_over (table_of c.loop-step.bindings) (agenda_of c.args.agenda.now) (agenda_of c.loop-step.agenda) (term_of c.args.left.now) (term_of c.args.right.now) (term_of c.in-Some.next.0.now) (term_of c.in-Some.next.1.now) (pairs c.pop.new.self.items) (pairs c.loop-step.parts.items) [] (popped_parts _ _ _ c.in-Some.ensures.items) c.loop-step.invariant.parts in
    let h = c.loop-step.invariant.narrowed in
    record { sound = h.sound; marked = h.marked; left = o.0; right = o.1 }

pub loop-step-preserved : goal.loop-step-preserved
loop-step-preserved c =
    let f = c.take_up.ensures.narrowed in
    let n = on_false _ (rw c.if-branch.false at c.in_ok-push_split.ensures.no) in
    record {
      narrowed = narrowed_both _ _ _ _ _ _ _ _ _ _ c.loop-step.invariant.narrowed c.take_up.ensures.narrowed (part_needed (table_of c.loop-step.bindings) (agenda_of c.args.agenda.now) (agenda_of c.loop-step.agenda) (term_of c.args.left.now) (term_of c.args.right.now) (term_of c.in-Some.next.0.now) (term_of c.in-Some.next.1.now) (pairs c.pop.new.self.items) (pairs c.loop-step.parts.items) [] (popped_parts _ _ _ c.in-Some.ensures.items) c.loop-step.invariant.parts);
      trailed = trailed_both _ _ _ _ _ _ c.loop-step.invariant.trailed c.take_up.ensures.trailed;
      parts = partly_step (table_of c.loop-step.bindings) (agenda_of c.args.agenda.now) (agenda_of c.loop-step.agenda) (term_of c.args.left.now) (term_of c.args.right.now) (term_of c.in-Some.next.0.now) (term_of c.in-Some.next.1.now) (pairs c.pop.new.self.items) (pairs c.loop-step.parts.items) (pairs c.push_split.new.work.items) (popped_parts _ _ _ c.in-Some.ensures.items) c.loop-step.invariant.parts (table_of c.take_up.new.bindings) (agenda_of c.take_up.new.agenda) n f.same_variables.types f.same_variables.kinds f.narrower (rw c.if-not-branch.false at c.in_ok-take_up.ensures.taken);
    }

pub returns-in_default : goal.returns-in_default
returns-in_default c =
    let none : c.loop-step.parts.items ≡ [] = search rules in
    record {
      narrowed = c.loop-step.invariant.narrowed;
      trailed = c.loop-step.invariant.trailed;
      taken = partly_done (table_of c.loop-step.bindings) (agenda_of c.args.agenda.now) (agenda_of c.loop-step.agenda) (term_of c.args.left.now) (term_of c.args.right.now) (pairs c.loop-step.parts.items) (ap pairs none) c.loop-step.invariant.parts;
    }

pub returns-then-not-branch : goal.returns-then-not-branch
returns-then-not-branch c =
    let f = c.take_up.ensures.narrowed in
    record {
      narrowed = narrowed_both _ _ _ _ _ _ _ _ _ _ c.loop-step.invariant.narrowed c.take_up.ensures.narrowed (part_needed (table_of c.loop-step.bindings) (agenda_of c.args.agenda.now) (agenda_of c.loop-step.agenda) (term_of c.args.left.now) (term_of c.args.right.now) (term_of c.in-Some.next.0.now) (term_of c.in-Some.next.1.now) (pairs c.pop.new.self.items) (pairs c.loop-step.parts.items) [] (popped_parts _ _ _ c.in-Some.ensures.items) c.loop-step.invariant.parts);
      trailed = trailed_both _ _ _ _ _ _ c.loop-step.invariant.trailed c.take_up.ensures.trailed;
      taken = λ a m e. (rw c.if-not-branch.true at c.in_ok-take_up.ensures.taken) a m (part_needed (table_of c.loop-step.bindings) (agenda_of c.args.agenda.now) (agenda_of c.loop-step.agenda) (term_of c.args.left.now) (term_of c.args.right.now) (term_of c.in-Some.next.0.now) (term_of c.in-Some.next.1.now) (pairs c.pop.new.self.items) (pairs c.loop-step.parts.items) [] (popped_parts _ _ _ c.in-Some.ensures.items) c.loop-step.invariant.parts a (f.narrower a m) e);
    }

pub returns-in_err-take_up-clause-narrowed : goal.returns-in_err-take_up-clause-narrowed
returns-in_err-take_up-clause-narrowed c = narrowed_both _ _ _ _ _ _ _ _ _ _ c.loop-step.invariant.narrowed c.take_up.ensures.narrowed (part_needed (table_of c.loop-step.bindings) (agenda_of c.args.agenda.now) (agenda_of c.loop-step.agenda) (term_of c.args.left.now) (term_of c.args.right.now) (term_of c.in-Some.next.0.now) (term_of c.in-Some.next.1.now) (pairs c.pop.new.self.items) (pairs c.loop-step.parts.items) [] (popped_parts _ _ _ c.in-Some.ensures.items) c.loop-step.invariant.parts)

pub returns-in_err-take_up-clause-trailed : goal.returns-in_err-take_up-clause-trailed
returns-in_err-take_up-clause-trailed c = trailed_both _ _ _ _ _ _ c.loop-step.invariant.trailed c.take_up.ensures.trailed

pub returns-in_err-push_split-clause-narrowed : goal.returns-in_err-push_split-clause-narrowed
returns-in_err-push_split-clause-narrowed c = c.loop-step.invariant.narrowed

pub returns-in_err-push_split-clause-trailed : goal.returns-in_err-push_split-clause-trailed
returns-in_err-push_split-clause-trailed c = c.loop-step.invariant.trailed

pub returns-clause-narrowed : goal.returns-clause-narrowed
returns-clause-narrowed c = c.loop-step.invariant.narrowed

pub returns-clause-trailed : goal.returns-clause-trailed
returns-clause-trailed c = c.loop-step.invariant.trailed
