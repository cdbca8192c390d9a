use Rattle.std.proofs.Common.{◌∙◌, ap, map, ◌++◌}
use Rattle.std.proofs.lemmas.List.{take_all}
use Rattle.script_grammar.specs.View.{listed, view_inner}
use Rattle.typing_rules.specs.Scoping.{inner_names, with_inners}
use Rattle.name_scope.specs.Noted.{noted, with_names}
use Rattle.name_scope.specs.Seen.{in_scope}
use Rattle.name_scope.proofs.Bindings.{inner_bound, inner_noted}
use Rattle.name_scope.proofs.statements.note_inners.Goals as goal

pub loop-one-preserved : goal.loop-one-preserved
loop-one-preserved c =
    let sc = in_scope c.args.inner.now ++ in_scope c.args.outer.now in (
      inner_noted c.args.inners.now c.loop-one.one-index c.one-item.result _ sc _ _ _ c.loop-one-test.true c.one-item.is c.loop-one.invariant.1 c.loop-one.invariant.0 c.in_ok-note_full.ensures,
      inner_bound c.args.inners.now c.loop-one.one-index c.one-item.result _ _ (in_scope c.args.outer.now) _ sc c.loop-one-test.true c.one-item.is c.as_str.ensures.same c.loop-one.invariant.1 c.in_ok-bind.ensures.bound,
    )

pub returns-clause-noted : goal.returns-clause-noted
returns-clause-noted c = c.loop-one.invariant.0 ∙ ap (λ l. with_names (noted c.args.notes.now) (inner_names (in_scope c.args.inner.now ++ in_scope c.args.outer.now) (listed (map view_inner l)))) (take_all c.loop-one.one-index c.args.inners.now c.loop-one-test.false)

pub returns-clause-bound : goal.returns-clause-bound
returns-clause-bound c = c.loop-one.invariant.1 ∙ ap (λ l. with_inners (listed (map view_inner l)) (in_scope c.args.inner.now ++ in_scope c.args.outer.now)) (take_all c.loop-one.one-index c.args.inners.now c.loop-one-test.false)
