use Rattle.std.proofs.Common.{◌≡◌, ◌++◌, ◌∷◌, [], List, Option, None, ap, ◌∙◌, map}
use Rattle.std.proofs.lemmas.List.{get_or_default}
use Rattle.std.specs.Prelude.{option_map}
use Rattle.script_values.specs.declared.value.Value.{Value as AValue}
use Rattle.expression_eval.specs.Parameters.{value_at, view_taken}
use Rattle.expression_eval.proofs.Taking.{moves_next, taken_push}
use Rattle.expression_eval.proofs.arguments.take_all.Goals as goal

pub loop-place-preserved : goal.loop-place-preserved
loop-place-preserved c =
    let grown : c.push_reserved.new.self.items ≡ c.loop-place.taken.items ++ c.take_value.result ∷ [] = c.push_reserved.ensures.items ∙ ap (λ (l : List (Option AValue)). l ++ c.take_value.result ∷ []) c.in_ok-reserve.ensures.items in
    moves_next c.args.places.now c.loop-place.place-index _ (value_at c.loop-place.given) (value_at c.take_value.new.given) (map view_taken c.loop-place.taken.items) (map view_taken c.push_reserved.new.self.items) (map view_taken c.args.taken.now.items ++ map (option_map (value_at c.args.given.now)) c.args.places.now) (view_taken c.take_value.result)
    c.loop-place.invariant c.loop-place-test.true (get_or_default c.args.places.now c.loop-place.place-index None _ c.loop-place-test.true) c.take_value.ensures.value c.take_value.ensures.others (taken_push c.loop-place.taken.items c.push_reserved.new.self.items c.take_value.result grown)
