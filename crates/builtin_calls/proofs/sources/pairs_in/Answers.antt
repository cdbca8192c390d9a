use Rattle.std.proofs.Common.{◌<◌, [], ◌∷◌, ◌∙◌, List, ℕ, length, sym, ap, subst}
use Rattle.std.specs.Prelude.{map, All}
use Rattle.std.proofs.lemmas.Result.{err_from_is_err_and}
use Rattle.std.proofs.lemmas.List.{map-append}
use Rattle.std.proofs.lemmas.List.Elements.{All-push}
use Rattle.time_pred.specs.declared.shared.SharedPred.{SharedPred}
use Rattle.time_pred.specs.View.{view_shared}
use Rattle.script_values.specs.Values.{many}
use Rattle.script_values.specs.View.{view_value}
use Rattle.builtin_calls.specs.Parts.{pairs_from}
use Rattle.builtin_calls.proofs.Lists.{pair_turn, pair_stops, pairs_end}
use Rattle.builtin_calls.proofs.sources.pairs_in.Goals as goal

pub returns-in_err-pair-clause-given : goal.returns-in_err-pair-clause-given
returns-in_err-pair-clause-given c =
    let p = err_from_is_err_and c.from_residual.result c.from_residual.ensures.1 in
    rw (p.1, p.2) (pair_stops c.args.plan.now.nodes c.args.kind c.args.parts.now c.loop-part.part-index c.part-item.result (map view_shared c.loop-part.preds.items) c.loop-part.sources.items (pairs_from c.args.plan.now.nodes c.args.kind (many (map view_value c.args.parts.now)) [] []) c.in_err-pair.field-0.0 c.loop-part.invariant.0 c.loop-part-test.true c.part-item.is c.in_err-pair.ensures.given)

pub loop-part-preserved : goal.loop-part-preserved
loop-part-preserved c = (
  pair_turn c.args.plan.now.nodes c.args.kind c.args.parts.now c.loop-part.part-index c.part-item.result (map view_shared c.loop-part.preds.items) (map view_shared c.push.new.self.items) c.loop-part.sources.items c.push-in-loop-part.new.self.items (view_shared c.in_ok-pair.pair.0, c.in_ok-pair.pair.1) (pairs_from c.args.plan.now.nodes c.args.kind (many (map view_value c.args.parts.now)) [] []) c.loop-part.invariant.0 c.loop-part-test.true c.part-item.is c.in_ok-pair.ensures.given
      (ap (λ (l : List SharedPred). map view_shared l) c.in_ok-push.ensures.items ∙ map-append view_shared c.loop-part.preds.items (c.in_ok-pair.pair.0 ∷ [])) c.in_ok-push-2.ensures.items,
  subst (All (λ (n : ℕ). n < length c.args.plan.now.nodes)) (sym c.in_ok-push-2.ensures.items) (All-push (λ (n : ℕ). n < length c.args.plan.now.nodes) c.loop-part.sources.items c.in_ok-pair.pair.1 c.loop-part.invariant.1 c.in_ok-pair.ensures.there),
)

pub returns-clause-given : goal.returns-clause-given
returns-clause-given c = pairs_end c.args.plan.now.nodes c.args.kind c.args.parts.now c.loop-part.part-index (map view_shared c.loop-part.preds.items) c.loop-part.sources.items (pairs_from c.args.plan.now.nodes c.args.kind (many (map view_value c.args.parts.now)) [] []) c.loop-part.invariant.0 c.loop-part-test.false
