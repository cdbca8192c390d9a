use Rattle.std.proofs.Common.{◌≡◌, ◌∙◌, sym}
use Rattle.type_terms.proofs.Basics.{on_false}
use Rattle.general_types.specs.Walks.{held_of}
use Rattle.general_types.proofs.Leads.{ok_then}
use Rattle.general_types.proofs.Names.{renews_kind, renews_no_kind}
use Rattle.general_types.proofs.renewing.renew_kind.Goals as goal

pub returns-then-not-swap_remove : goal.returns-then-not-swap_remove
returns-then-not-swap_remove c =
    let same : c.swap_remove.new.self.keys ≡ c.args.reached.now.kinds.keys = on_false _ (rw c.if-not-swap_remove.true at c.swap_remove.ensures.unchanged) in
    rw same (renews_no_kind c.args.subst.now c.args.number (held_of c.args.reached.now) (sym c.swap_remove.ensures.found ∙ c.if-not-swap_remove.true))

pub returns : goal.returns
returns c =
    ok_then c.add_kind.result
    (λ d. renews_kind c.args.subst.now c.args.number c.args.reached.now.types.keys c.args.reached.now.passed.keys c.args.reached.now.kinds.keys c.swap_remove.new.self.keys c.add_kind.new.kinds.keys (sym c.swap_remove.ensures.found ∙ c.if-not-swap_remove.false) c.swap_remove.ensures.updates.0 d)
    c.add_kind.ensures
