use Rattle.std.proofs.Common.{arith}
use Rattle.node_states.proofs.Seconds.{tick_stays}
use Rattle.node_states.proofs.time.WeekTime.tick_left.Goals as goal

pub returns : goal.returns
returns c = λ start n j stands some within.
    tick_stays n c.args.self.frame c.args.self.place j stands.place some (omega (arith, within, c.args.self.inside))
