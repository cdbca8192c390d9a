use Rattle.std.proofs.Common.{◌≡◌, ◌∙◌, length, pos, arith, ap}
use Rattle.std.proofs.lemmas.List.{length-replicate}
use Rattle.clock_instants.proofs.stretch_room.Spare.new.Goals as goal

pub returns : goal.returns
returns c = record {
  on_left = (let long : length c.in_ok-left.left.items ≡ 2048 = ap length (c.in_ok-left.ensures.items_if_clones_equal (λ y e. e)) ∙ length-replicate 2048 (pos 0) in omega (arith, long));
  on_right = (let long : length c.in_ok-right.right.items ≡ 2048 = ap length (c.in_ok-right.ensures.items_if_clones_equal (λ y e. e)) ∙ length-replicate 2048 (pos 0) in omega (arith, long));
}
