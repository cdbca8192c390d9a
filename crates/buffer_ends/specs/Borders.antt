-- The border between two windows: a buffer's ends at two clocks are closed together.
use Rattle.std.specs.Prelude.{◌≡◌, ℕ, ◌<◌, List, map, length, slice_index_or, slice_set}
use Rattle.buffer_queue.specs.Window.{Window, Closes, is_chunk}
use Rattle.buffer_ends.specs.Sides.{Side}
use Rattle.buffer_ends.specs.Local.{Answers}

-- at this place of `sides`, a clock's list of buffer ends, stands the end `side`
pub record HasAt (sides : List Side) (place : ℕ) (side : Side) : Type 0 where
  pub within : place < length sides
  pub is : (d : Side) → slice_index_or sides place d ≡ side

-- among a clock's buffer ends is one of this buffer, with this open window (the calls since the ends last met)
pub record HasEnd (sides : List Side) (buffer : ℕ) (window : Window) : Type 0 where
  pub place : ℕ
  pub at : HasAt sides place (record { buffer = buffer; window = window })

-- One of a clock's buffer ends, that of this buffer, closed its window `old` and opened the window `new`; the clock's
-- other ends stay. `sides` are all its ends before, and `after` those afterwards.
pub record Turned (sides after : List Side) (buffer : ℕ) (old new : Window) : Type 0 where
  pub place : ℕ
  pub at : HasAt sides place (record { buffer = buffer; window = old })
  pub are : after ≡ slice_set sides place (record { buffer = buffer; window = new })

-- The two ends of this buffer met and closed their window. One is among the ends of a clock that puts (`puts`), and
-- one among those of a clock that takes (`takes`). `log` tells which calls of the window succeeded.
pub record WasClosed (buffer : ℕ) (puts puts_after takes takes_after : List Side) (log : Answers) : Type 0 where
  pub put : Window
  pub take : Window
  pub next_put : Window
  pub next_take : Window
  pub puts_turned : Turned puts puts_after buffer put next_put
  pub takes_turned : Turned takes takes_after buffer take next_take
  pub closes : Closes put take put.queue next_put next_take
  pub log_puts : log.puts ≡ map is_chunk put.answers
  pub log_takes : log.takes ≡ map is_chunk take.answers

-- Both ends of this buffer are there and hold the same queue: one in `puts`, a clock's ends that put, and one in
-- `takes`, a clock's ends that take.
pub record HaveEnds (puts takes : List Side) (buffer : ℕ) : Type 0 where
  pub put : Window
  pub take : Window
  pub puts_there : HasEnd puts buffer put
  pub takes_there : HasEnd takes buffer take
  pub queue : put.queue ≡ take.queue

-- The two ends of one buffer, `put` and `take`, close their window together, and `next_put` and `next_take` are they
-- in the next one. `log` tells which puts and takes of the closed window succeeded.
pub record ClosesSides (put take next_put next_take : Side) (log : Answers) : Type 0 where
  pub closes : Closes put.window take.window put.window.queue next_put.window next_take.window
  pub put_buffer : next_put.buffer ≡ put.buffer
  pub take_buffer : next_take.buffer ≡ take.buffer
  pub log_puts : log.puts ≡ map is_chunk put.window.answers
  pub log_takes : log.takes ≡ map is_chunk take.window.answers
