use Rattle.std.proofs.Common.{◌∙◌, ap, sym, Some}
use Rattle.std.specs.Prelude.{option_map}
use Rattle.name_scope.specs.Seen.{seen_label}
use Rattle.type_steps.specs.Fitting.{var_at}
use Rattle.type_steps.proofs.Labelled.{given_others, given_taken}
use Rattle.type_steps.proofs.arguments.take_labelled.Goals as goal

pub returns-in-Some : goal.returns-in-Some
returns-in-Some c = record {
  taken = ap Some c.var_of.ensures.at ∙ ap (option_map (var_at c.args.given.now)) (sym c.in-Some.is) ∙ given_taken c.args.given.now c.args.labels.now (seen_label c.args.label) c.in_ok-take.field-0 c.in_ok-take.ensures.taken;
  others = given_others c.args.given.now c.args.labels.now c.take.new.self (seen_label c.args.label) c.in_ok-take.ensures.others;
}

pub returns-in-None : goal.returns-in-None
returns-in-None c = record {
  taken = ap (option_map (var_at c.args.given.now)) (sym c.in-None.is) ∙ given_taken c.args.given.now c.args.labels.now (seen_label c.args.label) c.in_ok-take.field-0 c.in_ok-take.ensures.taken;
  others = given_others c.args.given.now c.args.labels.now c.take.new.self (seen_label c.args.label) c.in_ok-take.ensures.others;
}
