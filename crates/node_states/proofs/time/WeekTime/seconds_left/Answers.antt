use Rattle.std.proofs.Common.{arith}
use Rattle.node_states.proofs.Seconds.{seconds_stay}
use Rattle.node_states.proofs.time.WeekTime.seconds_left.Goals as goal

pub returns : goal.returns
returns c = λ start n j stands within.
    seconds_stay n c.args.self.rate c.args.self.samples j c.saturating_mul-later.result c.args.seconds stands.samples c.args.self.within
    (omega (arith, within, c.args.self.within, c.saturating_add.ensures)) c.requires (omega (arith, c.saturating_mul-later.ensures))
