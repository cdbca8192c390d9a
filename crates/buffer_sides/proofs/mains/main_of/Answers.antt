use Rattle.std.proofs.Common.{◌∙◌, arith, sym}
use Rattle.buffer_sides.proofs.Walking.{arrived, walked}
use Rattle.buffer_sides.proofs.mains.main_of.Goals as goal

pub returns-in_default : goal.returns-in_default
returns-in_default c = λ setting plan clocks.
    c.main_number.ensures setting ∙ sym (arrived setting c.loop-depth.depth c.loop-depth.clock c.in_default.not-Sub) ∙ c.loop-depth.invariant setting plan clocks

pub returns : goal.returns
returns c = λ setting plan clocks.
    c.main_number-2.ensures setting ∙ sym (walked setting c.loop-depth.depth c.loop-depth.clock (omega (arith, c.loop-depth-test.false))) ∙ c.loop-depth.invariant setting plan clocks
