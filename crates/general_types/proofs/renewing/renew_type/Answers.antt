use Rattle.std.proofs.Common.{◌≡◌, ◌∙◌, ◌++◌, ◌∷◌, [], sym, ap, subst, List}
use Rattle.type_terms.specs.Nested.{terms}
use Rattle.type_terms.specs.Table.{IsOver}
use Rattle.type_terms.specs.Term.{Term, variable}
use Rattle.type_terms.proofs.Basics.{on_false}
use Rattle.general_types.specs.Walks.{Every, Leads, held, held_of}
use Rattle.general_types.proofs.Leads.{leads_on, ok_then}
use Rattle.general_types.proofs.Names.{renews_no_type, renews_type}
use Rattle.general_types.proofs.renewing.renew_type.Goals as goal

pub returns-then-not-swap_remove : goal.returns-then-not-swap_remove
returns-then-not-swap_remove c =
    let same : c.swap_remove.new.self.keys ≡ c.args.reached.now.types.keys = on_false _ (rw c.if-not-swap_remove.true at c.swap_remove.ensures.unchanged) in
    rw same (renews_no_type c.args.subst.now c.args.number (held_of c.args.reached.now) (sym c.swap_remove.ensures.found ∙ c.if-not-swap_remove.true))

pub walk-requires : goal.walk-requires
walk-requires c =
    let none : terms c.new-work.result.items ≡ [] = ap terms c.new-work.ensures.items in
    record { over = c.in_ok-visit_variable.ensures.over (subst (λ (ts : List Term). Every (IsOver c.args.subst.now) (ts ++ variable c.args.number ∷ [])) (sym none) (c.requires.inside, tt)) }

pub returns : goal.returns
returns c =
    let none : terms c.new-work.result.items ≡ [] = ap terms c.new-work.ensures.items in
    let s = c.args.subst.now in
    let x = c.args.number in
    let h = held c.swap_remove.new.self.keys c.args.reached.now.kinds.keys c.args.reached.now.passed.keys in
    let h1 = held_of c.visit_variable.new.reached in
    let h2 = held_of c.walk.new.reached in
    let first : Leads s (variable x ∷ []) (terms c.visit_variable.new.work.items) h h1 = subst (λ (ts : List Term). Leads s (ts ++ variable x ∷ []) (terms c.visit_variable.new.work.items) h h1) none c.in_ok-visit_variable.ensures in
    ok_then c.walk.result
    (λ w. renews_type s x c.args.reached.now.types.keys c.swap_remove.new.self.keys c.args.reached.now.kinds.keys c.args.reached.now.passed.keys h2 (sym c.swap_remove.ensures.found ∙ c.if-not-swap_remove.false) c.swap_remove.ensures.updates.0 (leads_on s (variable x ∷ []) (terms c.visit_variable.new.work.items) [] h h1 h2 first w))
    c.walk.ensures
