-- The first line of a text that is outside the form of a trace.
use Rattle.std.specs.Prelude.{◌≡◌, ◌<◌, ◌*◌, ◌/◌, ◌%◌, ℕ, zero, suc, List, [], ◌++◌}
use Rattle.buffer_ends.specs.Local.{Answers}
use Rattle.trace_log.specs.Texts.{header, line, window_count, InBounds}

-- A text is the first lines of a trace after line 0, as many as the number says, whatever their answers. Of `many`
-- buffers each has one line in each window, in order.
pub data Lines (many : ℕ) : ℕ → List ℕ → Type 0 where
  no_lines : Lines many zero []
  one_line_more : (k : ℕ) (text : List ℕ) (log : Answers) → Lines many k text
      → Lines many (suc k) (text ++ line (k / many) (k % many) log)

-- the text begins with a trace's line for this window and this buffer, whatever its answers
abbrev pub HasLine : ℕ → ℕ → List ℕ → Type 0
HasLine window buffer text = (log : Answers) × (rest : List ℕ) × (text ≡ line window buffer log ++ rest)

-- A text does not begin with the line of a trace that is due there, whatever its answers. Due is line number k, counted
-- from the one after line 0, and the trace has `many` buffers, each with a line in each window.
abbrev pub NoLine : ℕ → ℕ → List ℕ → Type 0
NoLine many k text = (log : Answers) (rest : List ℕ) → text ≡ line (k / many) (k % many) log ++ rest → ⊥

-- Line `at` is the first of a text that is outside the form of a trace: it is line 0, or a wrong one where a line is
-- due, or anything after the last line.
pub data StopsAt (text : List ℕ) : ℕ → Type 0 where
  first : ((n w b : ℕ) (rest : List ℕ) → InBounds n w b → text ≡ header n w b ++ rest → ⊥) → StopsAt text zero
  inside : (n w b k : ℕ) (front rest : List ℕ) → InBounds n w b → Lines b k front → text ≡ header n w b ++ front ++ rest
      → k < window_count n w * b → NoLine b k rest → StopsAt text (suc k)
  past_lines : (n w b : ℕ) (front rest : List ℕ) → InBounds n w b → Lines b (window_count n w * b) front
      → text ≡ header n w b ++ front ++ rest
      → (rest ≡ [] → ⊥) → StopsAt text (suc (window_count n w * b))

-- A text has the form of a trace: line 0 with numbers within the bounds, and then one line for each buffer in each
-- window
pub record IsText (text : List ℕ) : Type 0 where
  pub ticks : ℕ
  pub window : ℕ
  pub buffers : ℕ
  pub lines : List ℕ
  pub bounds : InBounds ticks window buffers
  pub form : Lines buffers (window_count ticks window * buffers) lines
  pub is : text ≡ header ticks window buffers ++ lines

-- Reading of a text has come past line 0 and k lines after it, and `rest` follows them. They have the form of a trace
-- of so many `ticks` with so many buffers, in windows of `window` ticks.
pub record Stands (text : List ℕ) (ticks window buffers k : ℕ) (rest : List ℕ) : Type 0 where
  pub lines : List ℕ
  pub form : Lines buffers k lines
  pub is : text ≡ header ticks window buffers ++ lines ++ rest
