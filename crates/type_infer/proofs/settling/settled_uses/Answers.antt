use Rattle.std.proofs.Common.{IfOk, subst, sym}
use Rattle.type_infer.specs.Settling.{AreDefaultOf, AreDonesOver}
use Rattle.type_infer.specs.Steps.{dones_in}
use Rattle.type_infer.proofs.settling.settled_uses.Goals as goal

pub steps_uses-requires : goal.steps_uses-requires
steps_uses-requires c = record {
  over = subst (λ l. AreDonesOver c.args.typing.subst (dones_in l c.args.typing.steps.items)) (sym c.as_slice.ensures) c.requires.over;
}

pub returns : goal.returns
returns c = subst (λ l. IfOk c.steps_uses.result (λ us. AreDefaultOf c.args.typing.subst (dones_in l c.args.typing.steps.items) us.items)) c.as_slice.ensures c.steps_uses.ensures
