use Rattle.std.proofs.Common.{◌∙◌, ap, is_some}
use Rattle.op_select.specs.Selection.{picked}
use Rattle.op_turn.proofs.Offering.{picked_some}
use Rattle.op_turn.proofs.state.TurnState.offer.Goals as goal

pub returns-clause-some : goal.returns-clause-some
returns-clause-some c =
    let last = ap (λ s. s.last) c.self.view_is in
    ap is_some (c.picked.ensures ∙ ap (λ last. picked c.args.offers.now last c.used.result) last ∙ ap (picked c.args.offers.now c.args.self.now.last) c.used.ensures)
    ∙ picked_some c.args.self.now.words c.args.self.now.last c.args.offers.now
