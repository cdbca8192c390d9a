use Rattle.std.proofs.lemmas.Int.{to_z-of_z}
use Rattle.std.proofs.Common.{◌≡◌, ◌<◌, Some, None, length, get_or, take, take_all, sym, arith, rules, w16, w32, FitsSigned}
use Rattle.stream_meaning.specs.Arithmetic.{cells_of}
use Rattle.op_mix.specs.Mixings.{front_of}
use Rattle.op_mix.proofs.CellSums.{Summed-more, after_cell, after_none, none_of, room_for_more, some_parts, summed_by}
use Rattle.op_mix.proofs.sum.summed.Goals as goal

pub loop-slot-preserved-in_default : goal.loop-slot-preserved-in_default
loop-slot-preserved-in_default c =
    let within : c.loop-slot.slot-index < length c.args.slots.now = c.loop-slot-test.true in
    let none : get_or c.args.slots.now c.loop-slot.slot-index None ≡ None = none_of _ c.in_default.not-Some in
    let same = after_none c.args.slots.now c.loop-slot.slot-index within none in
    rw same c.loop-slot.invariant

pub added-left-requires-clause-few : goal.added-left-requires-clause-few
added-left-requires-clause-few c = room_for_more c.args.slots.now c.loop-slot.slot-index c.loop-slot.parts c.loop-slot-test.true c.requires c.loop-slot.invariant.parts_is

pub added-right-requires-clause-few : goal.added-right-requires-clause-few
added-right-requires-clause-few c = room_for_more c.args.slots.now c.loop-slot.slot-index c.loop-slot.parts c.loop-slot-test.true c.requires c.loop-slot.invariant.parts_is

pub overflow_add-parts : goal.overflow_add-parts
overflow_add-parts c =
    let few = room_for_more c.args.slots.now c.loop-slot.slot-index c.loop-slot.parts c.loop-slot-test.true c.requires c.loop-slot.invariant.parts_is in
    omega (arith, few)

pub loop-slot-preserved : goal.loop-slot-preserved
loop-slot-preserved c =
    let same = after_cell c.args.slots.now c.loop-slot.slot-index c.in-Some.cell c.loop-slot-test.true c.in-Some.is in
    let fits_left : FitsSigned w32 c.added-left.result = search rules in
    let fits_right : FitsSigned w32 c.added-right.result = search rules in
    let in_left : FitsSigned w16 c.in-Some.cell.left = search rules in
    let in_right : FitsSigned w16 c.in-Some.cell.right = search rules in
    rw (same, to_z-of_z w32 c.added-left.result fits_left, to_z-of_z w32 c.added-right.result fits_right)
    (Summed-more (cells_of (take c.loop-slot.slot-index c.args.slots.now)) c.in-Some.cell _ _ c.added-left.result c.added-right.result c.loop-slot.parts
    c.loop-slot.invariant (rw (to_z-of_z w16 c.in-Some.cell.left in_left) at c.added-left.ensures.is) c.added-left.ensures.fits
    (rw (to_z-of_z w16 c.in-Some.cell.right in_right) at c.added-right.ensures.is) c.added-right.ensures.fits)

pub level-requires-clause-some : goal.level-requires-clause-some
level-requires-clause-some c =
    let front : front_of (cells_of c.args.slots.now) ≡ Some c.in_ok-front.front = sym c.in_ok-front.ensures in
    let all : take c.loop-slot.slot-index c.args.slots.now ≡ c.args.slots.now = take_all c.loop-slot.slot-index c.args.slots.now (omega arith) in
    some_parts (cells_of c.args.slots.now) c.in_ok-front.front _ _ c.loop-slot.parts front (rw all at c.loop-slot.invariant)

pub level-requires-2-clause-some : goal.level-requires-2-clause-some
level-requires-2-clause-some c =
    let front : front_of (cells_of c.args.slots.now) ≡ Some c.in_ok-front.front = sym c.in_ok-front.ensures in
    let all : take c.loop-slot.slot-index c.args.slots.now ≡ c.args.slots.now = take_all c.loop-slot.slot-index c.args.slots.now (omega arith) in
    some_parts (cells_of c.args.slots.now) c.in_ok-front.front _ _ c.loop-slot.parts front (rw all at c.loop-slot.invariant)

pub returns : goal.returns
returns c =
    let front : front_of (cells_of c.args.slots.now) ≡ Some c.in_ok-front.front = sym c.in_ok-front.ensures in
    let all : take c.loop-slot.slot-index c.args.slots.now ≡ c.args.slots.now = take_all c.loop-slot.slot-index c.args.slots.now (omega arith) in
    let fits_left : FitsSigned w16 c.level.result = search rules in
    let fits_right : FitsSigned w16 c.level-2.result = search rules in
    rw (to_z-of_z w16 c.level.result fits_left, to_z-of_z w16 c.level-2.result fits_right, c.level.ensures, c.level-2.ensures)
    (summed_by c.args.normalize (cells_of c.args.slots.now) c.in_ok-front.front _ _ c.loop-slot.parts front (rw all at c.loop-slot.invariant))
