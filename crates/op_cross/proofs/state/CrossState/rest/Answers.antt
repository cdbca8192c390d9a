use Rattle.std.proofs.Common.{◌≡◌, ◌∙◌, true, drop, rules, arith, ap, sym}
use Rattle.frame_core.specs.Slots.{slot_at, goes_on, is_inner}
use Rattle.op_cross.specs.Crossfade.{cross}
use Rattle.op_cross.proofs.Resting.{items_inner}
use Rattle.op_cross.proofs.Titles.{going_inner, going_title, items_titled, titled_whole}
use Rattle.op_cross.proofs.state.CrossState.rest.Goals as goal

pub returns-clause-ready : goal.returns-clause-ready
returns-clause-ready c = λ slots p j stands apart low.
    let yes : c.goes_on.result ≡ true = search rules in
    let going : goes_on c.args.title (slot_at (cross c.args.self.now.overlap slots) p) ≡ true =
    sym (ap (goes_on c.args.title) (c.offer.ensures.item slots p stands)) ∙ sym c.goes_on.ensures ∙ yes in
    let here : is_inner (slot_at (cross c.args.self.now.overlap slots) p) ≡ true = going_inner c.args.title (slot_at (cross c.args.self.now.overlap slots) p) going in
    let many = c.ready.ensures.stretch slots p stands in
    let whole = titled_whole (drop p (cross c.args.self.now.overlap slots)) in
    items_inner (cross c.args.self.now.overlap slots) p j here (omega (arith, low, many, whole))

pub returns-clause-titled : goal.returns-clause-titled
returns-clause-titled c = λ slots p j stands apart low.
    let yes : c.goes_on.result ≡ true = search rules in
    let going : goes_on c.args.title (slot_at (cross c.args.self.now.overlap slots) p) ≡ true =
    sym (ap (goes_on c.args.title) (c.offer.ensures.item slots p stands)) ∙ sym c.goes_on.ensures ∙ yes in
    let many = c.ready.ensures.stretch slots p stands in
    items_titled (cross c.args.self.now.overlap slots) p j (omega (arith, low, many))
    ∙ going_title c.args.title (slot_at (cross c.args.self.now.overlap slots) p) going
