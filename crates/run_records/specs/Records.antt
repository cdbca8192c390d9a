-- The record of a run: what its buffers answered. It is lawful, or that of rounds on one thread.
use Rattle.std.specs.Prelude.{◌≡◌, ◌⊎◌, ◌<◌, ◌≤◌, ◌*◌, ℕ, zero, suc, min, Bool, true, false, Option, Some, None, List, [], ◌∷◌, ◌++◌, length, slice_get, slice_index_or, nat_eq, nat_lt, if◌then◌else◌}
use Rattle.std.specs.List.{flat_map}
use Rattle.std.specs.Option.{option_map_or}
use Rattle.frame_core.specs.declared.cell.Cell.{Cell}
use Rattle.frame_core.specs.Legal.{IsHistory}
use Rattle.frame_core.specs.Calls.{Call, takes_of, puts_to, Answer}
use Rattle.frame_core.specs.Calls.Call.{Took, Given}
use Rattle.stream_meaning.specs.Instants.{Setting, answered}
use Rattle.stream_meaning.specs.Calls.{IsBegin, calls_of_tick, joined_upto, joined_between}
use Rattle.run_records.specs.Buffers.{feeder, reader}

-- One window of a buffer: its puts, each the chunk or nothing where the buffer was full, and its takes, each a chunk or
-- nothing where it was empty.
abbrev pub Window : Type 0
Window = List (Option (List Cell)) × List (Option (List Cell))

-- What the buffers of a plan answered in a run, which no script determines: for each buffer its windows, one after
-- another.
pub record Run : Type 0 where
  pub buffers : List (List Window)

-- the windows of one buffer in the record of a run, each with its puts and its takes
abbrev pub windows_of : Run → (buffer : ℕ) → List Window
windows_of run buffer = slice_index_or run.buffers buffer []

-- what a buffer answered to its puts in a run, window after window: the chunk where it was accepted, or nothing where
-- the buffer was full
abbrev pub puts_of : Run → (buffer : ℕ) → List (Option (List Cell))
puts_of run buffer = flat_map (λ (window : Window). window.0) (windows_of run buffer)

-- what the takes of a buffer got in a run, window after window: a chunk, or nothing where it was empty
abbrev pub answers_of : Run → (buffer : ℕ) → List Answer
answers_of run buffer = flat_map (λ (window : Window). window.1) (windows_of run buffer)

-- a setting in which the takes of each buffer get what they got in a run
abbrev pub setting_in : Setting → Run → Setting
setting_in setting run = answered setting (answers_of run)

-- a setting in which the takes of each buffer get what they got in a run, and after that the answers of `rest`
abbrev pub setting_then : Setting → Run → (rest : ℕ → List Answer) → Setting
setting_then setting run rest = answered setting (λ buffer. answers_of run buffer ++ rest buffer)

-- how many chunks a buffer holds at most
abbrev pub capacity_of : Setting → (buffer : ℕ) → ℕ
capacity_of setting buffer = option_map_or (λ plan. plan.capacity) (slice_get setting.plan.buffers buffer) 0

-- those of these calls that take from or put to one buffer, in their order
abbrev pub on : (buffer : ℕ) → List Call → List Call
on buffer [] = []
on buffer (Took other answer ∷ calls) = if nat_eq buffer other then Took other answer ∷ on buffer calls
    else on buffer calls
on buffer (Given other chunk accepted ∷ calls) = if nat_eq buffer other
    then Given other chunk accepted ∷ on buffer calls else on buffer calls

-- These calls on a list of at most `capacity` chunks, in this order, lead from `queue` to `rest`. A take gets the first
-- chunk, and nothing only where there is none; a put adds a chunk at the end, and is refused only where the list is
-- full.
abbrev pub Follows : (capacity : ℕ) → List (List Cell) → List Call → List (List Cell) → Type 0
Follows capacity queue [] rest = queue ≡ rest
Follows capacity queue (Took buffer None ∷ calls) rest = (queue ≡ []) × Follows capacity queue calls rest
Follows capacity queue (Took buffer (Some chunk) ∷ calls) rest = (behind : List (List Cell)) × (queue ≡ chunk ∷ behind)
    × Follows capacity behind calls rest
Follows capacity queue (Given buffer chunk true ∷ calls) rest = (length queue < capacity)
    × Follows capacity (queue ++ chunk ∷ []) calls rest
Follows capacity queue (Given buffer chunk false ∷ calls) rest = (length queue ≡ capacity)
    × Follows capacity queue calls rest

-- the tick with which window j begins, where windows have W ticks and the last one ends with the run, after N ticks
abbrev pub start : (W N j : ℕ) → ℕ
start W N j = min N (j * W)

-- the calls of tick t of clock m, its takes and its puts; `accepted m t b` says whether its put to buffer b is accepted
abbrev pub ticks_of : Setting → (accepted : ℕ → ℕ → ℕ → Bool) → (m t : ℕ) → List Call
ticks_of setting accepted m t = calls_of_tick setting (accepted m t) m t

-- the calls of tick t of clock m, if clocks 0 to `clocks - 1` run; a clock that does not run makes no call, and
-- `accepted m t b` says whether its put to buffer b is accepted
abbrev pub calls_in : Setting → (clocks : ℕ) → (accepted : ℕ → ℕ → ℕ → Bool) → (m t : ℕ) → List Call
calls_in setting clocks accepted m t = if nat_lt m clocks then ticks_of setting accepted m t else []

-- The first `count` windows of a buffer in a run of N ticks in windows of W: each has the puts of the clock that feeds
-- it, and the takes of the clock that reads it. Clocks 0 to `clocks - 1` run; `accepted m t b` says whether the put of
-- clock m to buffer b in tick t is accepted.
abbrev pub windows_in : Setting → (clocks : ℕ) → (accepted : ℕ → ℕ → ℕ → Bool) → (buffer W N count : ℕ) → List Window
windows_in setting clocks accepted buffer W N zero = []
windows_in setting clocks accepted buffer W N (suc j) =
    windows_in setting clocks accepted buffer W N j
    ++ (
      puts_to buffer (joined_between (calls_in setting clocks accepted (feeder setting buffer)) (start W N j)
          (start W N (suc j))),
      takes_of buffer (joined_between (calls_in setting clocks accepted (reader setting buffer)) (start W N j)
          (start W N (suc j))),
    ) ∷ []

-- The run is a lawful record of N ticks of each of clocks 0 to `clocks - 1`, in windows of W ticks. Each buffer's
-- windows hold the puts and the takes of these ticks and are one history of a bounded queue. A buffer with both ends in
-- one clock answers this clock's calls, in their order, as a bounded list does.
pub record AreWindows (setting : Setting) (clocks W N : ℕ) (run : Run) : Type 0 where
  pub buffers : length run.buffers ≡ length setting.plan.buffers
  pub accepted : (m t buffer : ℕ) → Bool
  pub count : ℕ
  pub whole : start W N count ≡ N
  pub tight : (j : ℕ) → j < count → start W N j < N
  pub are : (buffer : ℕ) → buffer < length setting.plan.buffers
      → windows_of run buffer ≡ windows_in (setting_in setting run) clocks accepted buffer W N count
  pub legal : (buffer : ℕ) → buffer < length setting.plan.buffers
      → (rest : List (List Cell)) × IsHistory (capacity_of setting buffer) [] (windows_of run buffer) rest
  pub in_order : (buffer : ℕ) → buffer < length setting.plan.buffers → feeder setting buffer ≡ reader setting buffer
      → (rest : List (List Cell))
      × Follows (capacity_of setting buffer) []
      (on buffer (joined_upto (calls_in (setting_in setting run) clocks accepted (feeder setting buffer)) N)) rest

-- the calls of N rounds, in each of which clocks 0 to `clocks - 1` make one tick, in this order; `accepted m t b` says
-- whether the put of clock m to buffer b in tick t is accepted
abbrev pub rounds_of : Setting → (accepted : ℕ → ℕ → ℕ → Bool) → (clocks N : ℕ) → List Call
rounds_of setting accepted clocks N = joined_upto (λ t. joined_upto (λ m. ticks_of setting accepted m t) clocks) N

-- The run is that of N rounds on one thread, in each of which clocks 0 to `clocks - 1` make one tick. Each buffer has
-- one window, and answers the calls, in the order of the rounds, as a bounded list does.
pub record IsRounds (setting : Setting) (clocks N : ℕ) (run : Run) : Type 0 where
  pub buffers : length run.buffers ≡ length setting.plan.buffers
  pub accepted : (m t buffer : ℕ) → Bool
  pub are : (buffer : ℕ) → buffer < length setting.plan.buffers
      → windows_of run buffer ≡ (
        puts_to buffer (rounds_of (setting_in setting run) accepted clocks N),
        takes_of buffer
            (rounds_of (setting_in setting run) accepted clocks N),
      ) ∷ []
  pub in_order : (buffer : ℕ) → buffer < length setting.plan.buffers
      → (rest : List (List Cell))
      × Follows (capacity_of setting buffer) [] (on buffer (rounds_of (setting_in setting run) accepted clocks N)) rest

-- The calls of `round` whole rounds of clocks 0 to `clocks - 1`, and then of the ticks of the clocks below `clock` in
-- the next one. `accepted m t b` says whether the put of clock m to buffer b in tick t is accepted.
abbrev pub rounds_to : Setting → (accepted : ℕ → ℕ → ℕ → Bool) → (clocks round clock : ℕ) → List Call
rounds_to setting accepted clocks round clock = rounds_of setting accepted clocks round
    ++ joined_upto (λ m. ticks_of setting accepted m round) clock

-- how many ticks clock m has made, where `rounds` rounds are whole, and in the next one the clocks below `clock` have
-- made their tick
abbrev pub made_by : (rounds clock m : ℕ) → ℕ
made_by rounds clock m = if nat_lt m clock then suc rounds else rounds

-- how many ticks clock m has made after `round` whole rounds and the ticks of the clocks below `clock`, if no clock
-- makes more than `total`
abbrev pub ticks_by : (total round clock m : ℕ) → ℕ
ticks_by total round clock m = min total (made_by round clock m)

-- The run is that of rounds on one thread that were broken off, maybe in the middle of the tick of one clock. Whatever
-- answers follow, its calls are a prefix of those of N rounds of clocks 0 to `clocks - 1`: those of all ticks before
-- that one, and a prefix of those of that tick. Each buffer answers them as a bounded list does.
pub record AreRoundsBegun (setting : Setting) (clocks N : ℕ) (run : Run) : Type 0 where
  pub buffers : length run.buffers ≡ length setting.plan.buffers
  pub calls : List Call
  pub round : ℕ
  pub clock : ℕ
  pub begun : (rest : ℕ → List Answer) → (accepted : ℕ → ℕ → ℕ → Bool)
      × IsBegin calls (rounds_of (setting_then setting run rest) accepted clocks N)
  pub turn : (rest : ℕ → List Answer) → (accepted : ℕ → ℕ → ℕ → Bool)
      × IsBegin (rounds_to (setting_then setting run rest) accepted clocks round clock) calls
      × IsBegin calls (rounds_to (setting_then setting run rest) accepted clocks round (suc clock))
  pub are : (buffer : ℕ) → buffer < length setting.plan.buffers
      → windows_of run buffer ≡ (puts_to buffer calls, takes_of buffer calls) ∷ []
  pub in_order : (buffer : ℕ) → buffer < length setting.plan.buffers
      → (rest : List (List Cell)) × Follows (capacity_of setting buffer) [] (on buffer calls) rest

-- Of the ticks from s to e, without e, a clock made those before `made` and began those before `tried`: no more, or one
-- more, in which it stopped.
pub record IsWithin (s e made tried : ℕ) : Type 0 where
  pub least : s ≤ made
  pub most : tried ≤ e
  pub no_fewer : made ≤ tried
  pub one_more : tried ≤ suc made

-- The record of a run in windows that was broken off. So many windows were closed, and clock m made `made m` ticks and
-- tried at most one more, in which it stopped; none is past the next window. Those that did not stop made as many;
-- where one stopped, they ended this window; where none did, each stands at its border. Since the last closing clock m
-- made the calls `since m`: those of its ticks, and a beginning of those of the one in which it stopped, whatever
-- answers follow. All windows of a buffer, the open one too, are one history; and the calls on a buffer with both ends
-- in one clock stand in that clock's order.
pub record AreWindowsBegun (setting : Setting) (clocks W N : ℕ) (run : Run) : Type 0 where
  pub buffers : length run.buffers ≡ length setting.plan.buffers
  pub accepted : (m t buffer : ℕ) → Bool
  pub closed : ℕ
  pub made : ℕ → ℕ
  pub tried : ℕ → ℕ
  pub since : ℕ → List Call
  pub within : (m : ℕ) → IsWithin (start W N closed) (start W N (suc closed)) (made m) (tried m)
  pub level : (m n : ℕ) → m < clocks → n < clocks → tried m ≡ made m → tried n ≡ made n → made m ≡ made n
  pub ended : (m n : ℕ) → m < clocks → tried n ≡ suc (made n) → tried m ≡ made m → made m ≡ start W N (suc closed)
  pub border : ((m : ℕ) → m < clocks → tried m ≡ made m) → (m : ℕ) → m < clocks
      → (made m ≡ start W N closed) ⊎ (made m ≡ start W N (suc closed))
  pub whole : (rest : ℕ → List Answer) (m : ℕ)
      → IsBegin (joined_between (calls_in (setting_then setting run rest) clocks accepted m) (start W N closed)
      (made m)) (since m)
  pub begun : (rest : ℕ → List Answer) (m : ℕ)
      → IsBegin (since m) (joined_between (calls_in (setting_then setting run rest) clocks accepted m)
      (start W N closed) (tried m))
  pub are : (rest : ℕ → List Answer) (buffer : ℕ) → buffer < length setting.plan.buffers
      → windows_of run buffer
      ≡ windows_in (setting_then setting run rest) clocks accepted buffer W N closed
      ++ (puts_to buffer (since (feeder setting buffer)), takes_of buffer (since (reader setting buffer))) ∷ []
  pub legal : (buffer : ℕ) → buffer < length setting.plan.buffers
      → (chunks : List (List Cell)) × IsHistory (capacity_of setting buffer) [] (windows_of run buffer) chunks
  pub in_order : (rest : ℕ → List Answer) (buffer : ℕ) → buffer < length setting.plan.buffers
      → feeder setting buffer ≡ reader setting buffer
      → (chunks : List (List Cell))
      × Follows (capacity_of setting buffer) []
      (on buffer (joined_upto (calls_in (setting_then setting run rest) clocks accepted (feeder setting buffer))
      (start W N closed) ++ since (feeder setting buffer))) chunks
