use Rattle.std.proofs.Common.{◌<◌, ◌≤◌, arith, refl}
use Rattle.clock_threads.specs.Plans.{over}
use Rattle.clock_threads.proofs.Wiring.{wire_back, wire_to}
use Rattle.clock_threads.proofs.wires.wire_of.Goals as goal

pub returns-then-to-clocks : goal.returns-then-to-clocks
returns-then-to-clocks c = λ other.
    let setting = over c.args.plan.now c.args.clocks.now.of other in
    let low : c.main_of-to.result < c.args.clocks.now.running = omega (arith, c.if-to-clocks.true) in
    wire_to setting _ _ _ _ _ _ (c.main_of-from.ensures setting refl refl) (c.main_of-to.ensures setting refl refl) low

pub returns : goal.returns
returns c = λ other.
    let setting = over c.args.plan.now c.args.clocks.now.of other in
    let high : c.args.clocks.now.running ≤ c.main_of-to.result = omega (arith, c.if-to-clocks.false) in
    wire_back setting _ _ _ _ _ _ (c.main_of-from.ensures setting refl refl) (c.main_of-to.ensures setting refl refl) high
