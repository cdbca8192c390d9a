use Rattle.std.proofs.Common.{refl, ◌∷◌, []}
use Rattle.type_terms.specs.Nested.{terms}
use Rattle.type_terms.specs.Term.{term_of, variable}
use Rattle.general_types.specs.Walks.{held}
use Rattle.general_types.proofs.Leads.{leads_free, leads_off, ok_then}
use Rattle.general_types.proofs.walking.visit_variable.Goals as goal

pub returns-in_ok-insert-in-None : goal.returns-in_ok-insert-in-None
returns-in_ok-insert-in-None c =
    let x = c.args.number in
    let types = c.args.reached.now.types.keys in
    let kinds = c.args.reached.now.kinds.keys in
    let ps = c.args.reached.now.passed.keys in
    leads_off c.args.subst.now (terms c.args.work.now.items) (variable x ∷ []) (held types kinds ps) (held c.insert.new.self.keys kinds ps)
    (leads_free c.args.subst.now x types c.insert.new.self.keys kinds ps (c.requires.inside, c.in-None.ensures.none.0 refl) c.in_ok-insert-in-None.ensures.updates.0)

pub returns-in-Some : goal.returns-in-Some
returns-in-Some c =
    ok_then c.push_bound.result
    (λ f. f c.args.subst.now (c.is_sound.ensures.over c.args.number (term_of c.in-Some.bound.now) c.in-Some.ensures.some) c.in-Some.ensures.some)
    c.push_bound.ensures
