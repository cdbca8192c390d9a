-- A text with its times.
use Rattle.std.specs.Prelude.{ℕ}
use Rattle.trace_records.specs.Clocks.{Log}

-- the text of a trace, which tells for each buffer and window how puts and takes were answered; with how many ticks
-- each window has, and how many ticks there are in all
pub record TimedText : Type 0 where
  pub text : ℕ → Log
  pub window : ℕ
  pub ticks : ℕ

-- the three as one record: a text, its windows of W ticks each, and its N ticks in all
abbrev pub timed : (text : ℕ → Log) → (W N : ℕ) → TimedText
timed text W N = record { text = text; window = W; ticks = N }
