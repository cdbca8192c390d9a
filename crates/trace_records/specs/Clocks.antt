-- A clock whose buffers answer what a text tells.
use Rattle.std.specs.Prelude.{◌≡◌, ◌<◌, ◌≤◌, ◌+◌, ◌⊎◌, ℕ, Bool, true, false, Some, None, List, [], ◌∷◌, ◌++◌, length, map, take, is_some, slice_get}
use Rattle.std.specs.List.{flat_map}
use Rattle.frame_core.specs.declared.cell.Cell.{Cell}
use Rattle.frame_core.specs.Frames.{somes}
use Rattle.frame_core.specs.Calls.{Call, Took, Given, takes_of, puts_to, Answer}
use Rattle.stream_meaning.specs.Instants.{Setting, answered}
use Rattle.run_records.specs.Parting.{IsSameCall}
use Rattle.run_records.specs.Outputs.{first_calls}
use Rattle.run_records.specs.Buffers.{feeder, reader}
use Rattle.run_records.specs.Records.{capacity_of, start}

-- what the text of a trace tells of one buffer: of each window which puts were accepted, and which takes got a chunk
abbrev pub Log : Type 0
Log = List (List Bool × List Bool)

-- which puts of a buffer were accepted, window after window
abbrev pub puts_in : Log → List Bool
puts_in log = flat_map (λ (window : List Bool × List Bool). window.0) log

-- which takes of a buffer got a chunk, window after window
abbrev pub takes_in : Log → List Bool
takes_in log = flat_map (λ (window : List Bool × List Bool). window.1) log

-- the list `front` begins the list `whole`: it is a prefix of it
pub record IsFront {A : Type 0} (front whole : List A) : Type 0 where
  pub rest : List A
  pub are : whole ≡ front ++ rest

-- one of two lists is a prefix of the other
abbrev pub Agree : {A : Type 0} → List A → List A → Type 0
Agree one other = IsFront one other ⊎ IsFront other one

-- buffer b joins two clocks: one main clock feeds it, and another reads it
abbrev pub Joins : Setting → ℕ → Type 0
Joins base b = feeder base b ≡ reader base b → ⊥

-- These calls are answered as the text tells, from its first answers on; what they got of a buffer b that joins two
-- clocks are the first of `chunks b`, those that were put into it.
pub record AreAnswered (base : Setting) (text : ℕ → Log) (chunks : ℕ
    → List (List Cell)) (calls : List Call) : Type 0 where
  pub puts : (b : ℕ) → b < length base.plan.buffers → IsFront (map is_some (puts_to b calls)) (puts_in (text b))
  pub takes : (b : ℕ) → b < length base.plan.buffers → IsFront (map is_some (takes_of b calls)) (takes_in (text b))
  pub got : (b : ℕ) → b < length base.plan.buffers → Joins base b → IsFront (somes (takes_of b calls)) (chunks b)

-- how many chunks these calls put into buffer b, accepted ones alone
abbrev pub put_by : ℕ → List Call → ℕ
put_by b calls = length (somes (puts_to b calls))

-- how many chunks of buffer b these calls got
abbrev pub got_in : ℕ → List Call → ℕ
got_in b calls = length (somes (takes_of b calls))

-- the answer of a call is that of a list of at most `capacity` chunks, to which the chunks `put` were put and of which
-- `got` were got before
abbrev pub Suits : (capacity : ℕ) → (put : List (List Cell)) → (got : ℕ) → Call → Type 0
Suits capacity put got (Took b None) = length put ≡ got
Suits capacity put got (Took b (Some chunk)) = slice_get put got ≡ Some chunk
Suits capacity put got (Given b chunk true) = length put < capacity + got
Suits capacity put got (Given b chunk false) = length put ≡ capacity + got

-- the number of the buffer on which a call is
abbrev pub buffer_of : Call → ℕ
buffer_of (Took b answer) = b
buffer_of (Given b chunk accepted) = b

-- the calls of a clock on each buffer that it both feeds and reads come in an order in which a list of its capacity
-- answers them so
pub record AreInOrder (base : Setting) (calls : List Call) : Type 0 where
  pub each : (front behind : List Call) (call : Call) → calls ≡ front ++ call ∷ behind
      → buffer_of call < length base.plan.buffers → feeder base (buffer_of call) ≡ reader base (buffer_of call)
      → Suits (capacity_of base (buffer_of call)) (somes (puts_to (buffer_of call) front))
      (got_in (buffer_of call) front) call

-- Clock m has made n of N ticks in windows of W. By the start of each window j that it reached, its calls are just as
-- many as the text tells of the windows before j: puts to a buffer that it feeds, and takes from one that it reads.
-- `calls t` are those of its first t ticks.
pub record AreWhole (base : Setting) (text : ℕ → Log) (W N m n : ℕ) (calls : ℕ → List Call) : Type 0 where
  pub puts : (j b : ℕ) → start W N j ≤ n → j ≤ length (text b) → b < length base.plan.buffers → feeder base b ≡ m
      → length (puts_to b (calls (start W N j))) ≡ length (puts_in (take j (text b)))
  pub takes : (j b : ℕ) → start W N j ≤ n → j ≤ length (text b) → b < length base.plan.buffers → reader base b ≡ m
      → length (takes_of b (calls (start W N j))) ≡ length (takes_in (take j (text b)))

-- Clock m has made its first n ticks, of N in windows of W, as the text of a trace tells. `given b` is what the takes
-- from buffer b got, and `accepted t b` whether its put of tick t was accepted. `chunks b` are those that were put to
-- b, where b joins two clocks.
pub record HasReplayed (base : Setting) (text : ℕ → Log) (W N m n : ℕ) (chunks : ℕ → List (List Cell)) (given : ℕ
    → List Answer) (accepted : ℕ → ℕ → Bool) : Type 0 where
  pub answered_so : AreAnswered base text chunks (first_calls (answered base given) accepted m n)
  pub in_order : AreInOrder base (first_calls (answered base given) accepted m n)
  pub whole : AreWhole base text W N m n (λ t. first_calls (answered base given) accepted m t)

-- This call, with its answer, can come after those of `front`: all answers begin those that the text of a trace tells,
-- and a buffer with both ends in one clock answers as a list.
pub record CanCome (base : Setting) (text : ℕ → Log) (front : List Call) (call : Call) : Type 0 where
  pub puts : (b : ℕ) → b < length base.plan.buffers
      → IsFront (map is_some (puts_to b (front ++ call ∷ []))) (puts_in (text b))
  pub takes : (b : ℕ) → b < length base.plan.buffers
      → IsFront (map is_some (takes_of b (front ++ call ∷ []))) (takes_in (text b))
  pub suits : buffer_of call < length base.plan.buffers → feeder base (buffer_of call) ≡ reader base (buffer_of call)
      → Suits (capacity_of base (buffer_of call)) (somes (puts_to (buffer_of call) front))
      (got_in (buffer_of call) front) call

-- whatever its answer, this call cannot come after those of `front`, as the text of a trace tells the answers
abbrev pub NeverComes : (base : Setting) (text : ℕ → Log) (front : List Call) → Call → Type 0
NeverComes base text front call = (other : Call) → IsSameCall call other → CanCome base text front other → ⊥

-- After the calls `front` this one is a take that is to get a chunk, as the text of a trace tells; another clock puts
-- that chunk, and it is not there yet. `chunks b` are those that were put to buffer b so far.
pub record Waits (base : Setting) (text : ℕ → Log) (chunks : ℕ
    → List (List Cell)) (front : List Call) (call : Call) : Type 0 where
  pub buffer : ℕ
  pub known : buffer < length base.plan.buffers
  pub take : call ≡ Took buffer None
  pub joins : Joins base buffer
  pub gets : (answer : Answer) → CanCome base text front (Took buffer answer) → is_some answer ≡ true
  pub missing : length (chunks buffer) ≤ got_in buffer front
