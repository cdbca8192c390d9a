use Rattle.type_terms.proofs.Trails.{kind_trail_pop, kind_trail_inside, kind_trail_done}
use Rattle.type_terms.proofs.table.free_kinds.Goals as goal

pub free_kind-requires : goal.free_kind-requires
free_kind-requires c = kind_trail_inside c.args.trail.now c.loop-x.x-index c.requires.0 c.loop-x.kinds c.loop-x-test.true (c.loop-x.invariant c.requires.0 c.requires.1)

pub loop-x-preserved : goal.loop-x-preserved
loop-x-preserved c vs h = kind_trail_pop c.args.trail.now c.loop-x.x-index vs _ _ c.loop-x-test.true (c.loop-x.invariant vs h) c.free_kind.ensures

pub returns : goal.returns
returns c vs h = kind_trail_done c.args.trail.now c.loop-x.x-index vs c.loop-x.kinds c.loop-x-test.false (c.loop-x.invariant vs h)
