use Rattle.std.proofs.Common.{◌≡◌, ◌<◌, ◌∙◌, true, rules, ap, sym, subst}
use Rattle.frame_core.specs.Slots.{goes_on, is_inner}
use Rattle.op_leaf.specs.Leaves.{leaf_slot}
use Rattle.op_leaf.specs.Standing.{leaf_of}
use Rattle.op_leaf.proofs.Stretching.{going_inner, going_title, inner_some, stretch_inner}
use Rattle.op_leaf.proofs.leaf.LeafState.rest.Goals as goal

pub returns-clause-inner : goal.returns-clause-inner
returns-clause-inner c = λ p j stands low.
    let yes : c.goes_on.result ≡ true = search rules in
    let going : goes_on c.args.title (leaf_slot c.args.library.now (leaf_of c.args.self.now) p) ≡ true =
    sym (ap (goes_on c.args.title) (c.offer.ensures.offered p stands)) ∙ sym c.goes_on.ensures ∙ yes in
    let here : is_inner (leaf_slot c.args.library.now (leaf_of c.args.self.now) p) ≡ true = going_inner c.args.title (leaf_slot c.args.library.now (leaf_of c.args.self.now) p) going in
    stretch_inner (leaf_slot c.args.library.now (leaf_of c.args.self.now)) p c.args.most j here
    (subst (λ n. j < n) (c.stretch.ensures.stretch p stands (inner_some (leaf_slot c.args.library.now (leaf_of c.args.self.now) p) here)) low)

pub returns-clause-titled : goal.returns-clause-titled
returns-clause-titled c = λ p j stands low.
    let yes : c.goes_on.result ≡ true = search rules in
    let going : goes_on c.args.title (leaf_slot c.args.library.now (leaf_of c.args.self.now) p) ≡ true =
    sym (ap (goes_on c.args.title) (c.offer.ensures.offered p stands)) ∙ sym c.goes_on.ensures ∙ yes in
    let here : is_inner (leaf_slot c.args.library.now (leaf_of c.args.self.now) p) ≡ true = going_inner c.args.title (leaf_slot c.args.library.now (leaf_of c.args.self.now) p) going in
    c.stretch.ensures.titled p j stands (inner_some (leaf_slot c.args.library.now (leaf_of c.args.self.now) p) here) low
    ∙ going_title c.args.title (leaf_slot c.args.library.now (leaf_of c.args.self.now) p) going
