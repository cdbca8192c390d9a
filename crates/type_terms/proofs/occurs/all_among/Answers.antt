use Rattle.std.proofs.Common.{◌≡◌, subst, sym, refl, length, Bool, true, false, IsTrue}
use Rattle.type_terms.specs.Nested.{terms}
use Rattle.type_terms.specs.Term.{term_of}
use Rattle.type_terms.proofs.Walks.{census_fails, census_step, popped}
use Rattle.type_terms.proofs.occurs.all_among.Goals as goal

pub returns-then-not-is_among : goal.returns-then-not-is_among
returns-then-not-is_among c = (
  (λ h. absurd (let f : ◌≡◌ {A = Bool} false true = h in cc)),
  (λ o. absurd (census_fails (length c.args.types.now) (length c.args.kinds.now) (term_of c.args.ty.now) (term_of c.in-Some.next.now) (terms c.pop.new.self.items) (terms c.loop-step.work.items) (terms c.loop-step.work.items) (popped _ _ _ c.in-Some.ensures.items) c.loop-step.invariant (λ a. let f : ◌≡◌ {A = Bool} false true = subst IsTrue c.if-not-is_among.true (c.is_among.ensures.1 a) in cc) o)),
)

pub loop-step-preserved : goal.loop-step-preserved
loop-step-preserved c =
    census_step (length c.args.types.now) (length c.args.kinds.now) (term_of c.args.ty.now) (term_of c.in-Some.next.now) (terms c.pop.new.self.items) (terms c.loop-step.work.items) (terms c.push_inside.new.work.items) (popped _ _ _ c.in-Some.ensures.items) c.loop-step.invariant (c.is_among.ensures.0 (subst IsTrue (sym c.if-not-is_among.false) refl)) c.in_ok-push_inside.ensures
