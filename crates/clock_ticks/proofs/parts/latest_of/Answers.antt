use Rattle.std.proofs.Common.{rules}
use Rattle.clock_ticks.proofs.Starting.{all_alike}
use Rattle.clock_ticks.proofs.parts.latest_of.Goals as goal

pub returns : goal.returns
returns c = record {
  in_parts = search rules;
  in_demanded = search rules;
  parts = λ j outside. all_alike _ _ _ (c.in_ok-parts.ensures.items_if_clones_equal (λ y e. e)) j;
  demanded = λ j outside. all_alike _ _ _ (c.in_ok-demanded.ensures.items_if_clones_equal (λ y e. e)) j;
}
