use Rattle.std.proofs.Common.{rules, ◌<◌, ◌≤◌, length, sym, subst, map, List, ℕ}
use Rattle.type_terms.specs.Term.{term_of}
use Rattle.name_scope.specs.Seen.{seen_label, seen_parameter}
use Rattle.name_scope.specs.Labelled.{on}
use Rattle.name_scope.specs.Seen.{left_of}
use Rattle.typing_rules.specs.Arguments.{GivenArgument}
use Rattle.type_steps.specs.Fitting.{left_given, seen_argument, var_at}
use Rattle.type_steps.proofs.Fits.{Fitting, fitting_done, fitting_none, fitting_step, fitting_stops, inside_by, none_left, some_left}
use Rattle.type_steps.proofs.arguments.fit_labelled.Goals as goal

pub loop-i-init : goal.loop-i-init
loop-i-init c =
    let gs = c.args.given.now in
    subst (λ (xs : List (GivenArgument ℕ)). Fitting c.args.subst.now c.args.subst.now (map seen_parameter c.args.params.now) (map seen_parameter c.args.params.now) (map term_of c.args.types.now) (map term_of c.args.types.now) (map seen_argument gs) xs)
    (sym c.requires.all)
    (fitting_none c.args.subst.now (map seen_parameter c.args.params.now) (map term_of c.args.types.now) (map seen_argument gs) c.requires.inside c.requires.over)

pub fit_one-requires-clause-inside : goal.fit_one-requires-clause-inside
fit_one-requires-clause-inside c = inside_by c.loop-i.subst c.in_ok-taken.taken (seen_label c.label_of.result) (left_given c.args.given.now c.loop-i.labels) c.in_ok-taken.ensures.taken c.loop-i.invariant.inside

pub returns-then-not-fits : goal.returns-then-not-fits
returns-then-not-fits c =
    let lt' : c.loop-i.i < length c.args.types.now = search rules in
    fitting_stops c.args.subst.now c.loop-i.subst c.args.params.now c.args.types.now seen_parameter term_of (map seen_argument c.args.given.now) (left_given c.args.given.now c.loop-i.labels) c.loop-i.i c.param_at-param.result c.index-types-i.result (seen_label c.label_of.result) c.in_ok-taken.taken
    c.loop-i-test.true lt' c.param_at-param.ensures.at c.index-types-i.is c.label_of.ensures.same c.in_ok-taken.ensures.taken c.loop-i.invariant (rw c.if-not-fits.true at c.in_ok-fits.ensures)

pub loop-i-preserved : goal.loop-i-preserved
loop-i-preserved c =
    let lt' : c.loop-i.i < length c.args.types.now = search rules in
    fitting_step c.args.subst.now c.loop-i.subst c.args.params.now c.args.types.now seen_parameter term_of (map seen_argument c.args.given.now) (left_given c.args.given.now c.loop-i.labels) c.loop-i.i c.param_at-param.result c.index-types-i.result (seen_label c.label_of.result) c.in_ok-taken.taken
    c.loop-i-test.true lt' c.param_at-param.ensures.at c.index-types-i.is c.label_of.ensures.same c.in_ok-taken.ensures.taken c.loop-i.invariant c.fit_one.new.subst (left_given c.args.given.now c.take_labelled.new.labels) c.in_ok-taken.ensures.others (rw c.if-not-fits.false at c.in_ok-fits.ensures)

pub returns : goal.returns
returns c =
    let le' : length c.args.types.now ≤ c.loop-i.i = search rules in
    let f = on (var_at c.args.given.now) in
    fitting_done c.is_empty.result c.args.subst.now c.loop-i.subst c.args.params.now c.args.types.now seen_parameter term_of (map seen_argument c.args.given.now) (left_given c.args.given.now c.loop-i.labels) c.loop-i.i c.loop-i-test.false le' (none_left c.is_empty.result (left_of c.loop-i.labels) f c.is_empty.ensures.none) (some_left c.is_empty.result (left_of c.loop-i.labels) f c.is_empty.ensures.none) c.loop-i.invariant
