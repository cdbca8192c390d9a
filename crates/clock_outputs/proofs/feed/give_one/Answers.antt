use Rattle.std.proofs.Common.{◌∙◌, sym}
use Rattle.clock_outputs.proofs.Gives.{given_none, given_one}
use Rattle.clock_outputs.proofs.feed.give_one.Goals as goal

pub returns-in_default-clause-given : goal.returns-in_default-clause-given
returns-in_default-clause-given g c = given_none g.T.Taps.stands c.args.feed.now c.args.taps.now (sym c.in_default.is ∙ c.in_ok-chunk.ensures.cells)

pub returns-in-Ok-clause-given : goal.returns-in-Ok-clause-given
returns-in-Ok-clause-given g c =
    given_one g.T.Taps.stands c.args.feed.now c.args.taps.now c.give.new.self c.in-Some.chunk c.in-Ok.gave (sym c.in-Some.is ∙ c.in_ok-chunk.ensures.cells) c.in-Ok.ensures.call
