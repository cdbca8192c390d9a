use Rattle.std.proofs.Common.{rules, ◌≡◌, ◌≢◌, ◌<◌, ◌≤◌, length, sym, ◌∙◌, map, nat_eq}
use Rattle.type_terms.specs.Term.{term_of}
use Rattle.name_scope.specs.Seen.{seen_label, seen_parameter}
use Rattle.type_steps.specs.Fitting.{seen_argument}
use Rattle.type_steps.proofs.Fits.{fitting_done, fitting_none, fitting_step, fitting_stops, inside_by, lengths_never, map_length, none_left, some_left}
use Rattle.type_steps.proofs.arguments.fit.Goals as goal

pub loop-i-init : goal.loop-i-init
loop-i-init c = fitting_none c.args.subst.now (map seen_parameter c.args.params.now) (map term_of c.args.types.now) (map seen_argument c.args.given.now.items) c.requires.inside c.requires.over

pub returns-then-params-types : goal.returns-then-params-types
returns-then-params-types c =
    let differ : length c.args.params.now ≢ length c.args.types.now = search rules in
    lengths_never c.args.subst.now (map seen_parameter c.args.params.now) (map seen_argument c.args.given.now.items) (map term_of c.args.types.now)
    (λ e. differ (sym (map_length seen_parameter c.args.params.now) ∙ e ∙ map_length term_of c.args.types.now))

pub fit_one-requires-clause-inside : goal.fit_one-requires-clause-inside
fit_one-requires-clause-inside c = inside_by c.loop-i.subst c.take_argument-taken.result (seen_label c.label_of.result) (map seen_argument c.loop-i.given.items) c.take_argument-taken.ensures.taken c.loop-i.invariant.inside

pub returns-then-not-fits : goal.returns-then-not-fits
returns-then-not-fits c =
    let lt' : c.loop-i.i < length c.args.types.now = search rules in
    fitting_stops c.args.subst.now c.loop-i.subst c.args.params.now c.args.types.now seen_parameter term_of (map seen_argument c.args.given.now.items) (map seen_argument c.loop-i.given.items) c.loop-i.i c.param_at-param.result c.index-types-i.result (seen_label c.label_of.result) c.take_argument-taken.result
    c.loop-i-test.true lt' c.param_at-param.ensures.at c.index-types-i.is c.label_of.ensures.same c.take_argument-taken.ensures.taken c.loop-i.invariant (rw c.if-not-fits.true at c.in_ok-fits.ensures)

pub loop-i-preserved : goal.loop-i-preserved
loop-i-preserved c =
    let lt' : c.loop-i.i < length c.args.types.now = search rules in
    fitting_step c.args.subst.now c.loop-i.subst c.args.params.now c.args.types.now seen_parameter term_of (map seen_argument c.args.given.now.items) (map seen_argument c.loop-i.given.items) c.loop-i.i c.param_at-param.result c.index-types-i.result (seen_label c.label_of.result) c.take_argument-taken.result
    c.loop-i-test.true lt' c.param_at-param.ensures.at c.index-types-i.is c.label_of.ensures.same c.take_argument-taken.ensures.taken c.loop-i.invariant c.fit_one.new.subst (map seen_argument c.take_argument-taken.new.given.items) c.take_argument-taken.ensures.others (rw c.if-not-fits.false at c.in_ok-fits.ensures)

pub returns : goal.returns
returns c =
    let le' : length c.args.types.now ≤ c.loop-i.i = search rules in
    let empty : c.is_empty.result ≡ nat_eq (length c.loop-i.given.items) 0 = search rules in
    fitting_done c.is_empty.result c.args.subst.now c.loop-i.subst c.args.params.now c.args.types.now seen_parameter term_of (map seen_argument c.args.given.now.items) (map seen_argument c.loop-i.given.items) c.loop-i.i c.loop-i-test.false le' (none_left c.is_empty.result c.loop-i.given.items seen_argument empty) (some_left c.is_empty.result c.loop-i.given.items seen_argument empty) c.loop-i.invariant
