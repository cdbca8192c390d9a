use Rattle.std.proofs.Common.{ℕ, List, arith}
use Rattle.std.specs.Prelude.{map, option_map}
use denote.Bor.{Bor}
use Rattle.typing_rules.specs.Arguments.{argument}
use Rattle.script_values.specs.Views.{view_given}
use Rattle.script_values.proofs.Searches.{arg_found}
use Rattle.script_values.proofs.slots.place_of.Goals as goal

pub returns-then-is_label-clause-found : goal.returns-then-is_label-clause-found
returns-then-is_label-clause-found c = record {
  within = omega arith;
  taken = arg_found (option_map (λ (t : Bor (List ℕ)). t.now) c.args.label) c.args.given.now c.loop-place.place c.index-given-place.result (argument (option_map (λ (t : Bor (List ℕ)). t.now) c.args.label) (map view_given c.args.given.now)) c.loop-place.invariant (omega arith) c.index-given-place.is c.if-is_label.ensures;
}
