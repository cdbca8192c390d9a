use Rattle.std.proofs.Common.{rules, ℕ, ◌<◌, length, sym, ap, ◌∙◌, map, option_map, List}
use Rattle.typing_rules.specs.Arguments.{GivenArgument, argument, others}
use Rattle.name_scope.specs.Seen.{seen_label}
use Rattle.type_steps.specs.Fitting.{seen_argument}
use Rattle.type_steps.specs.declared.arguments.Argument.{Argument}
use Rattle.type_steps.proofs.Fits.{taken_at, one_more_none}
use Rattle.type_steps.proofs.arguments.take_argument.Goals as goal

pub returns-then-is_label-clause-taken : goal.returns-then-is_label-clause-taken
returns-then-is_label-clause-taken c =
    let lt : c.loop-index.index < length c.loop-index.given.items = search rules in
    let there = taken_at seen_argument (seen_label c.args.label) c.loop-index.given.items c.loop-index.index c.index-one.result.now lt c.index-one.ensures c.loop-index.invariant.1 (sym c.is_label.ensures.same ∙ c.if-is_label.true) in
    sym (ap (λ (l : List Argument). option_map (λ (x : ℕ × List (GivenArgument ℕ)). x.0) (argument (seen_label c.args.label) (map seen_argument l))) (sym c.loop-index.invariant.0) ∙ ap (option_map (λ (x : ℕ × List (GivenArgument ℕ)). x.0)) there)

pub returns-then-is_label-clause-others : goal.returns-then-is_label-clause-others
returns-then-is_label-clause-others c =
    let lt : c.loop-index.index < length c.loop-index.given.items = search rules in
    let there = taken_at seen_argument (seen_label c.args.label) c.loop-index.given.items c.loop-index.index c.index-one.result.now lt c.index-one.ensures c.loop-index.invariant.1 (sym c.is_label.ensures.same ∙ c.if-is_label.true) in
    ap (map seen_argument) c.remove.ensures.items ∙ sym (ap (λ (l : List Argument). others (map seen_argument l) (argument (seen_label c.args.label) (map seen_argument l))) (sym c.loop-index.invariant.0) ∙ ap (others (map seen_argument c.loop-index.given.items)) there)

pub loop-index-preserved : goal.loop-index-preserved
loop-index-preserved c =
    let lt : c.loop-index.index < length c.loop-index.given.items = search rules in
    (c.loop-index.invariant.0, one_more_none seen_argument (seen_label c.args.label) c.loop-index.given.items c.loop-index.index c.index-one.result.now lt c.index-one.ensures c.loop-index.invariant.1 (sym c.is_label.ensures.same ∙ c.if-is_label.false))
