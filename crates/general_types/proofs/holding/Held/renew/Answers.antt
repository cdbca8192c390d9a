use Rattle.std.proofs.Common.{◌≡◌, ◌∙◌, subst, sym}
use Rattle.type_terms.specs.Counting.{free_among}
use Rattle.general_types.specs.Holding.{HeldVariables, IsHeldBy}
use Rattle.general_types.proofs.Counted.{all_counted, lists_of, still_held}
use Rattle.general_types.proofs.holding.Held.renew.Goals as goal

pub returns-then-free_among-self : goal.returns-then-free_among-self
returns-then-free_among-self c =
    let now = c.args.subst.now in
    let same : free_among now c.args.self.now.type_count c.args.self.now.kind_count ≡ c.args.self.now.free_count =
    subst (λ (h : HeldVariables). free_among now h.type_count h.kind_count ≡ h.free_count) c.self.view_is (sym c.free_among.ensures ∙ c.if-free_among-self.true) in
    record {
      held = λ s names f o. subst (IsHeldBy now names) (sym c.count.ensures) (still_held s now names c.args.self.now same f o);
    }

pub returns : goal.returns
returns c =
    let now = c.args.subst.now in
    record {
      held = λ s names f o. subst (IsHeldBy now names) (sym c.count-2.ensures) (all_counted now names c.renew_bound.new.self (c.in_ok-renew_bound.ensures.held s names f (lists_of s names c.args.self.now o)));
    }
