use Rattle.std.proofs.Common.{◌<◌, [], ℕ, length, sym, subst}
use Rattle.std.specs.Prelude.{map, All}
use Rattle.std.proofs.lemmas.Result.{err_from_is_err_and}
use Rattle.std.proofs.lemmas.List.Elements.{All-push}
use Rattle.script_values.specs.Values.{many}
use Rattle.script_values.specs.View.{view_value}
use Rattle.builtin_calls.specs.Parts.{nodes_from}
use Rattle.builtin_calls.proofs.Lists.{source_turn, source_stops, sources_end}
use Rattle.builtin_calls.proofs.sources.sources_in.Goals as goal

pub returns-in_err-source-clause-given : goal.returns-in_err-source-clause-given
returns-in_err-source-clause-given c =
    let p = err_from_is_err_and c.from_residual.result c.from_residual.ensures.1 in
    rw (p.1, p.2) (source_stops c.args.plan.now.nodes c.args.kind c.args.parts.now c.loop-part.part-index c.part-item.result c.loop-part.sources.items (nodes_from c.args.plan.now.nodes c.args.kind (many (map view_value c.args.parts.now)) []) c.in_err-source.field-0.0 c.loop-part.invariant.0 c.loop-part-test.true c.part-item.is c.in_err-source.ensures.given)

pub loop-part-preserved : goal.loop-part-preserved
loop-part-preserved c = (
  source_turn c.args.plan.now.nodes c.args.kind c.args.parts.now c.loop-part.part-index c.part-item.result c.loop-part.sources.items c.push.new.self.items c.in_ok-source.source (nodes_from c.args.plan.now.nodes c.args.kind (many (map view_value c.args.parts.now)) []) c.loop-part.invariant.0 c.loop-part-test.true c.part-item.is c.in_ok-source.ensures.given c.in_ok-push.ensures.items,
  subst (All (λ (n : ℕ). n < length c.args.plan.now.nodes)) (sym c.in_ok-push.ensures.items) (All-push (λ (n : ℕ). n < length c.args.plan.now.nodes) c.loop-part.sources.items c.in_ok-source.source c.loop-part.invariant.1 c.in_ok-source.ensures.there),
)

pub returns-clause-given : goal.returns-clause-given
returns-clause-given c = sources_end c.args.plan.now.nodes c.args.kind c.args.parts.now c.loop-part.part-index c.loop-part.sources.items (nodes_from c.args.plan.now.nodes c.args.kind (many (map view_value c.args.parts.now)) []) c.loop-part.invariant.0 c.loop-part-test.false
