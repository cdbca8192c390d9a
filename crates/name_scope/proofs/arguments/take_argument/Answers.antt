use Rattle.std.proofs.Common.{rules, ◌<◌, length, sym, ap, ◌∙◌, map, List}
use Rattle.std.specs.Prelude.{is_some}
use Rattle.typing_rules.specs.Arguments.{argument, others}
use Rattle.name_scope.specs.Seen.{seen_given, seen_label}
use Rattle.name_scope.specs.declared.parameter.Given.{Given}
use Rattle.name_scope.proofs.Matching.{none_from, taken_from}
use Rattle.name_scope.proofs.arguments.take_argument.Goals as goal

pub returns-then-is_label-clause-taken : goal.returns-then-is_label-clause-taken
returns-then-is_label-clause-taken c =
    let lt : c.loop-index.index < length c.loop-index.given.items = search rules in
    let there = taken_from (seen_label c.args.label) c.loop-index.given.items _ c.loop-index.index _ c.deref.ensures lt c.loop-index.invariant.1 (sym c.is_label.ensures.same ∙ c.if-is_label.true) in
    sym (ap (λ (l : List Given). is_some (argument (seen_label c.args.label) (map seen_given l))) (sym c.loop-index.invariant.0) ∙ ap is_some there)

pub returns-then-is_label-clause-others : goal.returns-then-is_label-clause-others
returns-then-is_label-clause-others c =
    let lt : c.loop-index.index < length c.loop-index.given.items = search rules in
    let there = taken_from (seen_label c.args.label) c.loop-index.given.items _ c.loop-index.index _ c.deref.ensures lt c.loop-index.invariant.1 (sym c.is_label.ensures.same ∙ c.if-is_label.true) in
    ap (map seen_given) c.remove.ensures.items ∙ sym (ap (λ (l : List Given). others (map seen_given l) (argument (seen_label c.args.label) (map seen_given l))) (sym c.loop-index.invariant.0) ∙ ap (others (map seen_given c.loop-index.given.items)) there)

pub loop-index-preserved : goal.loop-index-preserved
loop-index-preserved c =
    let lt : c.loop-index.index < length c.loop-index.given.items = search rules in
    (c.loop-index.invariant.0, none_from (seen_label c.args.label) c.loop-index.given.items _ c.loop-index.index _ c.deref.ensures lt c.loop-index.invariant.1 (sym c.is_label.ensures.same ∙ c.if-is_label.false))
