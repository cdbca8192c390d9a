use Rattle.buffer_ends.proofs.Beginnings.{new_stand}
use Rattle.buffer_ends.proofs.thread_taps.ThreadTaps.new.Goals as goal

pub returns-clause-stands : goal.returns-clause-stands
returns-clause-stands g c = new_stand c.args.puts.items c.args.takes.items c.args.local
