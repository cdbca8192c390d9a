-- The time of a clock.
use Rattle.std.specs.Prelude.{◌≡◌, ℕ, ◌+◌, ◌/◌, ◌%◌}
use Rattle.node_states.specs.declared.time.WeekTime.{WeekTime}

-- this is the time of instant n of a clock that began at second `start`: the second of the week, and how many samples
-- of it and how many instants of the tick are over
pub record TimeStands (start n : ℕ) (time : WeekTime) : Type 0 where
  pub second : time.second.second ≡ (start + n / time.rate) % 604800
  pub samples : time.samples ≡ n % time.rate
  pub place : time.place ≡ n % time.frame
