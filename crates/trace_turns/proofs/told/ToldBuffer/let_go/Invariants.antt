use Rattle.std.proofs.Common.{◌-◌, ◌≡◌, ◌≤◌, ◌+◌, ◌++◌, true, length}
use Rattle.trace_turns.specs.Answering.{blanks}
use Rattle.trace_turns.specs.Marks.{HasLetGo}
use Rattle.trace_turns.specs.contracts.told.ToldBuffer.{the_view}
use Rattle.trace_turns.proofs.told.ToldBuffer.let_go.Given as goal

abbrev pub invariant-loop-self : goal.invariant-loop-self
invariant-loop-self l = record {
  go : HasLetGo l.fn.self (the_view l.self-inside);
  read : l.self-inside.read ≡ true;
  put_low : l.self-inside.put_at ≤ length l.self-inside.puts.items;
  take_low : l.self-inside.take_at ≤ length l.self-inside.takes.items;
  got_low : l.self-inside.got ≤ l.self-inside.put;
  opened_low : l.self-inside.opened ≤ l.self-inside.put;
  count : l.self-inside.put ≡ l.self-inside.gone + length l.self-inside.held.items;
  size : l.self-inside.put ≡ length (blanks l.self-inside.gone ++ l.self-inside.held.items);
}

abbrev pub decreases-loop-self : goal.decreases-loop-self
decreases-loop-self l = l.self-inside.got - l.self-inside.gone
