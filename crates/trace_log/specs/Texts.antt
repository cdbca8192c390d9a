-- The one text of a trace.
use Rattle.std.specs.Prelude.{◌≡◌, ◌<◌, ◌≤◌, ◌+◌, ◌-◌, ◌*◌, ◌/◌, ◌%◌, ℕ, zero, suc, Bool, List, [], ◌∷◌, ◌++◌, map, length, codes, decimal, if◌then◌else◌, slice_index_or}
use Rattle.buffer_ends.specs.Local.{Answers, no_answers}
use Rattle.trace_log.specs.Values.{TraceValue}

-- the letter of one answer in a trace, as a byte: `one` for true, which is accepted or got, and `other` for false
abbrev pub letter : ℕ → ℕ → Bool → ℕ
letter one other answer = if answer then one else other

-- the letters of a buffer's answers, `one` for true and `other` for false; a stroke where there is no answer
unfoldable pub letters : ℕ → ℕ → List Bool → List ℕ
letters one other [] = codes "-"
letters one other (a ∷ more) = map (letter one other) (a ∷ more)

-- line 0 of a trace: its ticks, the ticks of a window, and how many buffers it has
unfoldable pub header : ℕ → ℕ → ℕ → List ℕ
header ticks window buffers = codes "liq trace 1 " ++ decimal ticks ++ codes " " ++ decimal window ++ codes " "
    ++ decimal buffers ++ codes "\n"

-- the line of a window of a buffer: A and F for puts, G and E for takes
unfoldable pub line : ℕ → ℕ → Answers → List ℕ
line window buffer log = codes "window " ++ decimal window ++ codes " buffer " ++ decimal buffer
    ++ codes " puts " ++ letters 65 70 log.puts ++ codes " takes " ++ letters 71 69 log.takes ++ codes "\n"

-- how many windows so many ticks have; the last one may be shorter
abbrev pub window_count : ℕ → ℕ → ℕ
window_count ticks window = (ticks + (window - 1)) / window

-- What buffer number `buffer` answered in window number `window`, by the answers of each buffer, window by window.
-- There are no answers where there is no such window.
abbrev pub log_at : List (List Answers) → ℕ → ℕ → Answers
log_at buffers buffer window = slice_index_or (slice_index_or buffers buffer []) window no_answers

-- the line of place k after line 0, where there are `many` buffers: window by window, and in each buffer by buffer
unfoldable pub place_line : List (List Answers) → ℕ → ℕ → List ℕ
place_line buffers many k = line (k / many) (k % many) (log_at buffers (k % many) (k / many))

-- the first k lines after line 0, where there are `many` buffers
unfoldable pub lines_below : List (List Answers) → ℕ → ℕ → List ℕ
lines_below buffers many zero = []
lines_below buffers many (suc k) = lines_below buffers many k ++ place_line buffers many k

-- how many lines a trace has after line 0
abbrev pub places_of : TraceValue → ℕ
places_of t = window_count t.ticks t.window * length t.buffers

-- the text of a trace
unfoldable pub trace_text : TraceValue → List ℕ
trace_text t = header t.ticks t.window (length t.buffers) ++ lines_below t.buffers (length t.buffers) (places_of t)

-- the numbers in line 0 of a trace are within the bounds: its ticks, the ticks of a window, and how many buffers it
-- has
pub record InBounds (ticks window buffers : ℕ) : Type 0 where
  pub ticks_most : ticks ≤ 1000000000
  pub window_least : 1 ≤ window
  pub window_most : window ≤ 1000000
  pub buffers_most : buffers ≤ 4096

-- A trace is one that has a text: its numbers are within the bounds, and each of its buffers has as many windows as its
-- ticks make
pub record IsTrace (t : TraceValue) : Type 0 where
  pub bounds : InBounds t.ticks t.window (length t.buffers)
  pub logs : (b : ℕ) → b < length t.buffers → length (slice_index_or t.buffers b []) ≡ window_count t.ticks t.window
