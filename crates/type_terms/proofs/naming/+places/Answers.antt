use Rattle.std.proofs.Common.{arith}
use Rattle.type_terms.proofs.Parts.{part_height}
use Rattle.type_terms.proofs.naming.+places.Goals as goal

pub places-requires-in-loop-part : goal.places-requires-in-loop-part
places-requires-in-loop-part t c =
    let l = part_height _ _ _ c.in-Tuple.is c.deref-part-items.ensures.value _ _ c.loop-part-test.true c.part-item.is (λ _. 0) in
    omega (arith, c.decreases, l)
