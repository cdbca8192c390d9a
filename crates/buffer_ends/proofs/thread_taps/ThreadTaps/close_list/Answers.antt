use Rattle.std.proofs.Common.{◌⊎◌}
use Rattle.buffer_ends.specs.Ends.{Has}
use Rattle.buffer_ends.proofs.Windows.{ended_stand}
use Rattle.buffer_ends.proofs.thread_taps.ThreadTaps.close_list.Goals as goal

pub returns-clause-stands : goal.returns-clause-stands
returns-clause-stands g c =
    ended_stand (λ b. Has c.args.self.now.puts.items b ⊎ Has c.args.self.now.takes.items b) c.args.self.now.local c.close_one.new.self c.args.buffer c.close_one.result c.requires c.close_one.ensures.closed
