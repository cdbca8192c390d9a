use Rattle.std.proofs.Common.{map, subst, sym}
use Rattle.expression_types.specs.Seen.{pending}
use Rattle.type_infer.specs.Settling.{AreSettledTexts}
use Rattle.type_infer.proofs.Settled.{uses_all, uses_more}
use Rattle.type_steps.specs.Environment.{ArePendingOver}
use Rattle.type_infer.proofs.Overs.{text_over_at}
use Rattle.type_infer.proofs.settling.add_texts.Goals as goal

pub settled_texts-requires : goal.settled_texts-requires
settled_texts-requires c = record {
  over =
      subst (λ l. ArePendingOver c.args.subst.now (map pending l)) (sym c.deref.ensures.value)
      (text_over_at c.args.subst.now c.args.text.now c.loop-one.one-index c.one-item.result c.loop-one-test.true c.one-item.is c.requires.over);
}

pub loop-one-preserved : goal.loop-one-preserved
loop-one-preserved c =
    let kinds = subst (λ l. AreSettledTexts c.args.subst.now (map pending l) c.in_ok-kinds.kinds) c.deref.ensures.value c.in_ok-kinds.ensures in
    uses_more c.args.subst.now c.args.text.now c.loop-one.one-index c.one-item.result c.in_ok-kinds.kinds c.args.uses.now.items c.loop-one.uses.items c.push.new.self.items c.loop-one-test.true c.one-item.is c.loop-one.invariant kinds c.in_ok-push.ensures.items

pub returns : goal.returns
returns c = uses_all c.args.subst.now c.args.text.now c.loop-one.one-index c.args.uses.now.items c.loop-one.uses.items c.loop-one-test.false c.loop-one.invariant
