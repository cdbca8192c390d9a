use Rattle.std.proofs.Common.{◌++◌, ◌∙◌, List, Option, ap, map, subst, sym}
use Rattle.std.specs.Prelude.{option_map}
use Rattle.script_grammar.specs.View.{listed, view_param}
use Rattle.typing_rules.specs.Arguments.{arguments_taken, parameters_of}
use Rattle.name_scope.specs.Labelled.{placed}
use Rattle.script_values.specs.declared.slots.Given.{Given as AGiven}
use Rattle.script_values.specs.declared.value.Value.{Value as AValue}
use Rattle.expression_eval.specs.Parameters.{AreApart, value_at, view_taken}
use Rattle.expression_eval.proofs.Taking.{places_apart, taken_at_places}
use Rattle.expression_eval.proofs.arguments.taken_by_table.Goals as goal

pub take_all-requires : goal.take_all-requires
take_all-requires c = record {
  apart = subst AreApart (sym (c.deref-2.ensures.value ∙ c.in_ok-places.ensures)) (places_apart (parameters_of (listed (map view_param c.args.params.now))) (map (λ (g : AGiven). g.label) c.deref.result.now));
}

pub returns : goal.returns
returns c =
    let ps = parameters_of (listed (map view_param c.args.params.now)) in
    let gs = c.args.given.items in
    c.in_ok-take_all.ensures
    ∙ ap (λ (l : List (Option AValue)). map view_taken l ++ map (option_map (value_at c.deref_mut.result.now)) c.deref-2.result.now) c.new-taken.ensures.items
    ∙ ap (λ (l : List AGiven). map (option_map (value_at l)) c.deref-2.result.now) c.deref_mut.ensures.value
    ∙ ap (map (option_map (value_at gs))) (c.deref-2.ensures.value ∙ c.in_ok-places.ensures ∙ ap (λ (l : List AGiven). arguments_taken ps (placed 0 (map (λ (g : AGiven). g.label) l))) c.deref.ensures.value)
    ∙ taken_at_places ps gs
