use Rattle.std.proofs.Common.{◌∙◌, ◌++◌, ◌∷◌, [], ap, refl}
use Rattle.type_terms.specs.Nested.{terms}
use Rattle.type_terms.specs.Term.{term_of, variable}
use Rattle.type_terms.proofs.Settling.{extra_other}
use Rattle.type_terms.proofs.Walks.{terms-append}
use Rattle.general_types.specs.Holding.{is_held}
use Rattle.general_types.specs.Walks.{held, held_of}
use Rattle.general_types.proofs.Leads.{known_before, leads_known, leads_noted, leads_off, leads_through, leads_top}
use Rattle.general_types.proofs.walking.push_bound.Goals as goal

pub returns-in_ok-push-in-Var : goal.returns-in_ok-push-in-Var
returns-in_ok-push-in-Var c = λ s o b.
    (let h = held_of c.args.reached.now in
    leads_top s (terms c.args.work.now.items) (variable c.args.number ∷ []) (term_of c.args.bound.now ∷ []) (terms c.args.work.now.items ++ variable c.args.number ∷ []) (terms c.push.new.self.items) h h refl (ap terms c.in_ok-push-in-Var.ensures.items ∙ terms-append _ _)
    (leads_through s c.args.number (term_of c.args.bound.now) b h o))

pub returns-then-not-branch : goal.returns-then-not-branch
returns-then-not-branch c = λ s o b.
    (let x = c.args.number in
    let types = c.args.reached.now.types.keys in
    let kinds = c.args.reached.now.kinds.keys in
    let ps = c.args.reached.now.passed.keys in
    let known = known_before _ (is_held ps x) c.in_ok-insert-in_default.ensures.added c.if-not-branch.true in
    leads_off s (terms c.args.work.now.items) (variable x ∷ []) (held types kinds ps) (held types kinds c.insert.new.self.keys)
    (leads_known s x types kinds ps c.insert.new.self.keys c.in_ok-insert-in_default.ensures.updates.0 known))

pub returns-in_ok-push-in_default : goal.returns-in_ok-push-in_default
returns-in_ok-push-in_default c = λ s o b.
    (let x = c.args.number in
    let t = term_of c.args.bound.now in
    let types = c.args.reached.now.types.keys in
    let kinds = c.args.reached.now.kinds.keys in
    let ps = c.args.reached.now.passed.keys in
    leads_top s (terms c.args.work.now.items) (variable x ∷ []) (t ∷ []) (terms c.args.work.now.items ++ variable x ∷ []) (terms c.push-in_default.new.self.items) (held types kinds ps) (held types kinds c.insert.new.self.keys) refl (ap terms c.in_ok-push-in_default.ensures.items ∙ terms-append _ _)
    (leads_noted s x t b types kinds ps c.insert.new.self.keys c.in_ok-insert-in_default.ensures.updates.0 o (extra_other c.args.bound.now c.in_default.not-Var)))
