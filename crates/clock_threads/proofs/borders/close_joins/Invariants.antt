use Rattle.std.proofs.Common.{◌≡◌, length}
use Rattle.std.specs.Prelude.{OnOk}
use Rattle.clock_threads.proofs.Closing.{Closing}
use Rattle.clock_threads.proofs.Logging.{Logging}
use Rattle.clock_threads.proofs.borders.close_joins.Given as goal

abbrev pub invariant-loop-b : goal.invariant-loop-b
invariant-loop-b g l = record {
  tasks : Closing l.wires l.b l.fn.tasks l.tasks;
  many : length l.logs ≡ length l.fn.logs;
  logs : OnOk l.kept (Logging l.wires l.b l.fn.tasks l.fn.logs l.logs);
}
