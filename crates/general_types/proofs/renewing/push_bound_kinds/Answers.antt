use Rattle.std.proofs.Common.{◌≡◌, ◌∙◌, sym, None}
use Rattle.type_terms.specs.Table.{kind_at}
use Rattle.general_types.proofs.Members.{finds_all, finds_next, finds_none, nothing_there, passes_next}
use Rattle.general_types.proofs.renewing.push_bound_kinds.Goals as goal

pub loop-number-init : goal.loop-number-init
loop-number-init c = finds_none (λ k. kind_at c.args.subst.now.kinds k ≡ None) c.args.found.now.items c.requires

pub loop-number-preserved-then-is_none : goal.loop-number-preserved-then-is_none
loop-number-preserved-then-is_none c = passes_next (λ k. kind_at c.args.subst.now.kinds k ≡ None) c.args.numbers.now c.loop-number.found.items c.loop-number.number-index 0 c.loop-number-test.true (sym c.bound_kind.ensures ∙ nothing_there c.bound_kind.result c.if-is_none.ensures) c.loop-number.invariant

pub loop-number-preserved : goal.loop-number-preserved
loop-number-preserved c = rw c.in_ok-push.ensures.items (finds_next (λ k. kind_at c.args.subst.now.kinds k ≡ None) c.args.numbers.now c.loop-number.found.items c.loop-number.number-index 0 c.loop-number-test.true c.loop-number.invariant)

pub returns : goal.returns
returns c = finds_all (λ k. kind_at c.args.subst.now.kinds k ≡ None) c.args.numbers.now c.loop-number.found.items c.loop-number.number-index c.loop-number-test.false c.loop-number.invariant
