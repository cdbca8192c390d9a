use Rattle.type_terms.proofs.Trails.{trail_pop, trail_inside, trail_done}
use Rattle.type_terms.proofs.table.free_types.Goals as goal

pub free_type-requires : goal.free_type-requires
free_type-requires c = trail_inside c.args.trail.now c.loop-x.x-index c.requires.0 c.loop-x.types c.loop-x-test.true (c.loop-x.invariant c.requires.0 c.requires.1)

pub loop-x-preserved : goal.loop-x-preserved
loop-x-preserved c vs h = trail_pop c.args.trail.now c.loop-x.x-index vs _ _ c.loop-x-test.true (c.loop-x.invariant vs h) c.free_type.ensures

pub returns : goal.returns
returns c vs h = trail_done c.args.trail.now c.loop-x.x-index vs c.loop-x.types c.loop-x-test.false (c.loop-x.invariant vs h)
