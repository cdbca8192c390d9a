use Rattle.std.proofs.Common.{◌≡◌, drop, take}
use Rattle.std.specs.Prelude.{map, option_map}
use Rattle.typing_rules.specs.Arguments.{argument}
use Rattle.script_values.specs.Views.{view_given}
use Rattle.script_values.proofs.Searches.{behind}
use Rattle.script_values.proofs.slots.place_of.Given as goal

abbrev pub invariant-loop-place : goal.invariant-loop-place
invariant-loop-place l = behind (map view_given (take l.place l.given)) (argument (option_map (λ t. t.now) l.label) (map view_given (drop l.place l.given))) ≡ argument (option_map (λ t. t.now) l.label) (map view_given l.given)
