use Rattle.std.proofs.Common.{rules}
use denote.Param.Send.{sendable}
use Rattle.clock_threads.proofs.Crossings.{engine_send}
use Rattle.clock_threads.proofs.window.run_window.Goals as goal

pub for_each_mut-requires-send-T : goal.for_each_mut-requires-send-T
for_each_mut-requires-send-T g c = λ κs lives. search (engine_send, sendable) depth 40 fits 20000

pub returns : goal.returns
returns g c = record { ran = λ i d less. let e = (c.for_each_mut.ensures i d less).1 in search rules }
