-- Passes over the clocks, in which each of them makes its ticks as far as it can.
use Rattle.std.specs.Prelude.{◌≡◌, ◌<◌, ◌≤◌, ℕ, suc, Bool, true, List, [], ◌∷◌, ◌++◌, length, map}
use Rattle.frame_core.specs.declared.cell.Cell.{Cell}
use Rattle.frame_core.specs.Frames.{somes}
use Rattle.frame_core.specs.Calls.{Call, puts_to, Answer}
use Rattle.stream_meaning.specs.Instants.{Setting, answered}
use Rattle.stream_meaning.specs.Calls.{answers_in}
use Rattle.run_records.specs.Outputs.{first_calls}
use Rattle.run_records.specs.Buffers.{feeder, reader}
use Rattle.run_records.specs.Ordered.{IsOrdered, made as counted, text_of_window}
use Rattle.run_records.specs.Records.{AreWindows, Run, answers_of, capacity_of, setting_in, start, windows_of}
use Rattle.trace_records.specs.Clocks.{AreAnswered, AreInOrder, HasReplayed, Log, Waits, got_in, put_by, takes_in}
use Rattle.trace_records.specs.Told.{are_legal}

-- the text is what a trace tells of this run: of each window of each buffer, which puts were accepted and which takes
-- got a chunk
abbrev pub IsTold : Setting → (text : ℕ → Log) → Run → Type 0
IsTold base text run = (b : ℕ) → b < length base.plan.buffers → map text_of_window (windows_of run b) ≡ text b

-- The text of a trace is that of some lawful record of N ticks in windows of W ticks, whose ticks can be ordered so
-- that no chunk is got before it was put.
pub record IsOrderedText (base : Setting) (clocks W N : ℕ) (text : ℕ → Log) : Type 0 where
  pub run : Run
  pub lawful : AreWindows base clocks W N run
  pub told : IsTold base text run
  pub ordered : IsOrdered (setting_in base run) clocks lawful.accepted N

-- no answers for any buffer: what follows calls after which no take is answered
abbrev pub nothing : ℕ → List Answer
nothing b = []

-- the answers that the takes of buffer b got among these calls, and then those of `rest`
abbrev pub got_then : List Call → (rest : ℕ → List Answer) → ℕ → List Answer
got_then calls rest b = answers_in b calls ++ rest b

-- these are the calls of the first n ticks of clock m, if its takes get the answers that these calls got, whatever
-- answers follow
abbrev pub IsMadeBy : Setting → (m n : ℕ) → (accepted : ℕ → ℕ → Bool) → List Call → Type 0
IsMadeBy base m n accepted calls = (rest : ℕ → List Answer)
    → calls ≡ first_calls (answered base (got_then calls rest)) accepted m n

-- the calls of the first t ticks of clock m, whose answers are those that these calls got
abbrev pub ticks_in : Setting → (accepted : ℕ → ℕ → Bool) → List Call → (m t : ℕ) → List Call
ticks_in base accepted calls m t = first_calls (answered base (got_then calls nothing)) accepted m t

-- Clock m has made its first n ticks, of N in windows of W, by these calls, as the text of a trace tells; each lawful
-- record with this text has the same calls. `chunks b` are those that were put to buffer b, and `accepted t b` says
-- whether the put of tick t to b was accepted.
pub record ClockIsAt (base : Setting) (clocks W N : ℕ) (text : ℕ → Log) (chunks : ℕ
    → List (List Cell)) (m n : ℕ) (calls : List Call) (accepted : ℕ → ℕ → Bool) : Type 0 where
  pub within : n ≤ N
  pub are : IsMadeBy base m n accepted calls
  pub replayed : HasReplayed base text W N m n chunks (got_then calls nothing) accepted
  pub forced : (run : Run) (lawful : AreWindows base clocks W N run) → IsTold base text run
      → calls ≡ first_calls (answered base (answers_of run)) (lawful.accepted m) m n

-- `order` is a list of pairs of a clock and its tick: it has the first `made m` ticks of each clock m, in their order,
-- and each chunk that a tick got was put in an earlier one. `ticks m t` are the calls of the first t ticks of clock m.
pub record AreOrdered (base : Setting) (clocks : ℕ) (ticks : ℕ → ℕ → List Call) (made : ℕ
    → ℕ) (order : List (ℕ × ℕ)) : Type 0 where
  pub all : (m : ℕ) → m < clocks → counted m order ≡ made m
  pub each : (before behind : List (ℕ × ℕ)) (m t : ℕ) → order ≡ before ++ (m, t) ∷ behind
      → (m < clocks) × (t ≡ counted m before)
  pub earlier : (before behind : List (ℕ × ℕ)) (m t b : ℕ) → order ≡ before ++ (m, t) ∷ behind
      → b < length base.plan.buffers → reader base b ≡ m
      → got_in b (ticks m (suc t)) ≤ put_by b (ticks (feeder base b) (counted (feeder base b) before))

-- A replay of the text of a trace, of N ticks in windows of W, has come so far: each clock m has made `made m` ticks,
-- all in some order in which no chunk is got before it was put. `chunks b` are those that were put to buffer b.
pub record AreAt (base : Setting) (clocks W N : ℕ) (text : ℕ → Log) (made : ℕ → ℕ) (chunks : ℕ
    → List (List Cell)) : Type 0 where
  pub calls : ℕ → List Call
  pub accepted : ℕ → ℕ → ℕ → Bool
  pub clock : (m : ℕ) → m < clocks → ClockIsAt base clocks W N text chunks m (made m) (calls m) (accepted m)
  pub kept : (b : ℕ) → b < length base.plan.buffers → chunks b ≡ somes (puts_to b (calls (feeder base b)))
  pub order : List (ℕ × ℕ)
  pub ordered : AreOrdered base clocks (λ m t. ticks_in base (accepted m) (calls m) m t) made order

-- tick n of clock m cannot be made yet: one of its takes is to get a chunk, by the text of a trace, that another clock
-- has not put; `chunks b` are those that were put to buffer b so far
pub record IsHalted (base : Setting) (text : ℕ → Log) (chunks : ℕ → List (List Cell)) (m n : ℕ) : Type 0 where
  pub given : ℕ → List Answer
  pub accepted : ℕ → ℕ → Bool
  pub front : List Call
  pub behind : List Call
  pub call : Call
  pub at : first_calls (answered base given) accepted m (suc n) ≡ front ++ call ∷ behind
  pub answered_front : AreAnswered base text chunks front
  pub order_front : AreInOrder base front
  pub waits : Waits base text chunks front call

-- Clock m has made its first n ticks, of N in windows of W, as the text of a trace tells. `chunks b` are those of
-- buffer b before, and `others b` those after: what the clock put, if it feeds b, and otherwise the same.
pub record HasCome (base : Setting) (W N : ℕ) (text : ℕ → Log) (m n : ℕ) (chunks others : ℕ
    → List (List Cell)) : Type 0 where
  pub calls : List Call
  pub accepted : ℕ → ℕ → Bool
  pub within : n ≤ N
  pub are : IsMadeBy base m n accepted calls
  pub replayed : HasReplayed base text W N m n chunks (got_then calls nothing) accepted
  pub fed : (b : ℕ) → b < length base.plan.buffers → feeder base b ≡ m → others b ≡ somes (puts_to b calls)
  pub kept : (b : ℕ) → b < length base.plan.buffers → (feeder base b ≡ m → ⊥) → others b ≡ chunks b

-- Clock m was run from its first tick on, as the text of a trace tells, and made n ticks: all N, or those before one
-- with a take that waits for a chunk. `chunks b` are those of buffer b before, and `others b` those after.
pub record HasTurned (base : Setting) (W N : ℕ) (text : ℕ → Log) (m n : ℕ) (chunks others : ℕ
    → List (List Cell)) : Type 0 where
  pub come : HasCome base W N text m n chunks others
  pub halted : n < N → IsHalted base text chunks m n

-- clock m cannot make its N ticks, in windows of W, as the text of a trace tells them, whatever is put into the buffers
-- after these chunks; `chunks b` are those of buffer b so far
pub record IsRefused (base : Setting) (W N : ℕ) (text : ℕ → Log) (chunks : ℕ → List (List Cell)) (m : ℕ) : Type 0 where
  pub none : (others : ℕ → List (List Cell)) (given : ℕ → List Answer) (accepted : ℕ → ℕ → Bool)
      → ((b : ℕ) → b < length base.plan.buffers → (rest : List (List Cell)) × (others b ≡ chunks b ++ rest))
      → HasReplayed base text W N m N others given accepted → ⊥

-- the text of a trace has as many windows of each buffer as N ticks have in windows of W ticks, the last one maybe
-- shorter
pub record IsFormed (buffers W N : ℕ) (text : ℕ → Log) : Type 0 where
  pub count : ℕ
  pub whole : start W N count ≡ N
  pub tight : (j : ℕ) → j < count → start W N j < N
  pub many : (b : ℕ) → b < buffers → length (text b) ≡ count

-- The text of a trace is legal by itself: each window of each buffer is one that a queue can answer so, and nothing is
-- taken from a buffer whose reader's clock does not run.
pub record IsLegalText (base : Setting) (clocks : ℕ) (text : ℕ → Log) : Type 0 where
  pub windows : (b : ℕ) → b < length base.plan.buffers → are_legal (capacity_of base b) 0 (text b) ≡ true
  pub unread : (b : ℕ) → b < length base.plan.buffers → clocks ≤ reader base b → takes_in (text b) ≡ []
