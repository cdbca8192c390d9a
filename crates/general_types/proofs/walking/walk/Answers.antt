use Rattle.std.proofs.Common.{◌≡◌, [], ◌∷◌, ap, rules, subst}
use Rattle.type_terms.specs.Nested.{terms}
use Rattle.type_terms.specs.Table.{IsOver}
use Rattle.type_terms.specs.Term.{term_of}
use Rattle.type_terms.proofs.Walks.{popped}
use Rattle.general_types.specs.Walks.{Every, Leads, held_of}
use Rattle.general_types.proofs.Leads.{every_right, leads_on, leads_same}
use Rattle.general_types.proofs.walking.walk.Goals as goal

pub loop-step-init : goal.loop-step-init
loop-step-init c = leads_same c.args.subst.now (terms c.args.work.now.items) (held_of c.args.reached.now)

pub visit-requires : goal.visit-requires
visit-requires c = record {
  over = (every_right (IsOver c.args.subst.now) (terms c.pop.new.self.items) (term_of c.in-Some.next.now ∷ []) (subst (Every (IsOver c.args.subst.now)) (popped _ _ _ c.in-Some.ensures.items) (c.loop-step.invariant.over c.requires.over))).0;
}

pub loop-step-preserved : goal.loop-step-preserved
loop-step-preserved c =
    leads_on c.args.subst.now (terms c.args.work.now.items) (terms c.loop-step.work.items) (terms c.visit.new.work.items)
    (held_of c.args.reached.now) (held_of c.loop-step.reached) (held_of c.visit.new.reached)
    c.loop-step.invariant (rw (popped _ _ _ c.in-Some.ensures.items) c.in_ok-visit.ensures)

pub returns-in_default : goal.returns-in_default
returns-in_default c =
    let none : c.loop-step.work.items ≡ [] = search rules in
    subst (λ ts. Leads c.args.subst.now (terms c.args.work.now.items) ts (held_of c.args.reached.now) (held_of c.loop-step.reached)) (ap terms none) c.loop-step.invariant
