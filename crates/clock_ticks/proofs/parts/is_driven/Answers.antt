use Rattle.std.proofs.Common.{◌∙◌, sym}
use Rattle.clock_ticks.proofs.Driving.{other_main, under_sub}
use Rattle.clock_ticks.proofs.parts.is_driven.Goals as goal

pub loop-init : goal.loop-init
loop-init c rank under = (rank, under)

pub loop-preserved : goal.loop-preserved
loop-preserved c rank under =
    let up = c.loop.invariant rank under in
    under_sub c.args.clocks.now c.args.clock c.in-Sub.k c.loop.at (sym c.clock_at.ensures ∙ c.in-Sub.is) up.0 up.1

pub returns-in-Main : goal.returns-in-Main
returns-in-Main c differs rank under =
    let up = c.loop.invariant rank under in
    other_main c.args.clocks.now c.args.clock c.in-Main.m c.loop.at (sym c.clock_at.ensures ∙ c.in-Main.is) differs up.0 up.1
