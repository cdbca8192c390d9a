-- Buffers that answer as a text tells, and what they stand for.
use Rattle.std.specs.Prelude.{◌≡◌, ◌<◌, ◌≤◌, ◌+◌, ◌&&◌, ℕ, zero, suc, Bool, true, false, Some, None, List, [], ◌∷◌, ◌++◌, length, drop, map, take, is_some, slice_get, slice_index_or, refl}
use Rattle.std.specs.Coded.{Coded, code_by, coded×, coded_ℕ, coded_bool, coded_list}
use Rattle.frame_core.specs.Coded.{cell_coded}
use Rattle.frame_core.specs.declared.cell.Cell.{Cell}
use Rattle.frame_core.specs.Frames.{somes}
use Rattle.frame_core.specs.Calls.{Call, Took, takes_of, puts_to}
use Rattle.run_records.specs.Parting.{IsSameCall}
use Rattle.std.proofs.Common.{◌∙◌, ap, sym, append_assoc, append-nil, arith}
use Rattle.trace_turns.specs.declared.told.Taken.{Taken}
use Rattle.trace_turns.specs.declared.told.Taken.TheVariants.{Chunk as GotChunk, Empty as IsEmpty, Waits as MustWait, Lost as IsLost, Never as NoTake}
use Rattle.trace_turns.specs.declared.told.Put.{Put}
use Rattle.trace_turns.specs.declared.told.Put.TheVariants.{Accepted as IsAccepted, Full as IsFull, Never as NoPut}
use Rattle.trace_turns.specs.declared.course.Course.{Course}
use Rattle.trace_turns.specs.declared.course.Course.TheVariants.{Goes, Waits, Fails}
use Rattle.trace_records.specs.Clocks.{IsFront, Suits, buffer_of, got_in}

-- n chunks without a cell: they stand in the places of those that a buffer let go
abbrev pub blanks : ℕ → List (List Cell)
blanks zero = []
blanks (suc n) = [] ∷ blanks n

-- A buffer in the run of one clock: the answers of its puts and takes that are told, whether the clock feeds it and
-- reads it, how many puts and takes came in this run, how many chunks were got, how many were there when the run began,
-- and the chunks that were put so far. The first `gone` of them were let go, and lists without a cell stand in their
-- places.
pub record BufferState : Type 0 where
  pub capacity : ℕ
  pub puts : List Bool
  pub takes : List Bool
  pub fed : Bool
  pub read : Bool
  pub put_at : ℕ
  pub take_at : ℕ
  pub got : ℕ
  pub opened : ℕ
  pub chunks : List (List Cell)
  pub gone : ℕ

-- a code of a buffer's state by nested pairs, so that states are coded as numbers are
abbrev pub state_coded : Coded BufferState
state_coded = code_by (ℕ × (List Bool × (List Bool × (Bool × (Bool × (ℕ × (ℕ × (ℕ × (ℕ × (List (List Cell) × ℕ))))))))))
    (coded× coded_ℕ (coded× (coded_list coded_bool)
    (coded× (coded_list coded_bool)
    (coded× coded_bool (coded× coded_bool
    (coded× coded_ℕ (coded× coded_ℕ
    (coded× coded_ℕ (coded× coded_ℕ (coded× (coded_list (coded_list cell_coded)) coded_ℕ))))))))))
    (λ s. (
      s.capacity,
      (
        s.puts,
        (s.takes, (s.fed, (s.read, (s.put_at, (s.take_at, (s.got, (s.opened, (s.chunks, s.gone)))))))),
      ),
    ))
    (λ p. record {
      capacity = p.0;
      puts = p.1.0;
      takes = p.1.1.0;
      fed = p.1.1.1.0;
      read = p.1.1.1.1.0;
      put_at = p.1.1.1.1.1.0;
      take_at = p.1.1.1.1.1.1.0;
      got = p.1.1.1.1.1.1.1.0;
      opened = p.1.1.1.1.1.1.1.1.0;
      chunks = p.1.1.1.1.1.1.1.1.1.0;
      gone = p.1.1.1.1.1.1.1.1.1.1;
    }) (λ _. refl)

-- whether one clock both feeds and reads a buffer, so that it must answer as a bounded list does
abbrev pub is_list : BufferState → Bool
is_list s = s.fed && s.read

-- the right answer of a take from a buffer that one clock feeds and reads: true, for a chunk, if one is left, and
-- otherwise false
abbrev pub IsRightTake : BufferState → Bool → Type 0
IsRightTake s true = s.got < length s.chunks
IsRightTake s false = length s.chunks ≡ s.got

-- the right answer of a put to a buffer that one clock feeds and reads: true, for accepted, if there is room, and
-- otherwise false
abbrev pub IsRightPut : BufferState → Bool → Type 0
IsRightPut s true = length s.chunks < s.capacity + s.got
IsRightPut s false = length s.chunks ≡ s.capacity + s.got

-- How a take leaves a buffer, by what it met: it got the next chunk; it was answered as empty; it waits for a chunk
-- that is not there yet; its chunk was let go; or no answer can be right. Only the first two change the state.
abbrev pub TakesOn : BufferState → Taken → BufferState → Type 0
TakesOn before (GotChunk chunk) after =
    (slice_get before.takes before.take_at ≡ Some true) × (slice_get before.chunks before.got ≡ Some chunk)
    × (before.gone ≤ before.got)
    × (after ≡ record before { take_at = suc before.take_at; got = suc before.got })
TakesOn before IsEmpty after =
    (slice_get before.takes before.take_at ≡ Some false) × (is_list before ≡ true → IsRightTake before false)
    × (after ≡ record before { take_at = suc before.take_at })
TakesOn before MustWait after =
    (slice_get before.takes before.take_at ≡ Some true) × (length before.chunks ≤ before.got) × (is_list before ≡ false)
    × (after ≡ before)
TakesOn before IsLost after = (before.got < before.gone) × (after ≡ before)
TakesOn before NoTake after =
    ((gets : Bool) → slice_get before.takes before.take_at ≡ Some gets
    → (is_list before ≡ true → IsRightTake before gets) → ⊥) × (after ≡ before)

-- How a put of this chunk leaves a buffer, by what it met: it was accepted; it found the buffer full and gave the
-- chunk back; or no answer can be right. Only the first two change the state.
abbrev pub PutsOn : BufferState → List Cell → Put → BufferState → Type 0
PutsOn before chunk IsAccepted after =
    (slice_get before.puts before.put_at ≡ Some true) × (is_list before ≡ true → IsRightPut before true)
    × (after ≡ record before { put_at = suc before.put_at; chunks = before.chunks ++ chunk ∷ [] })
PutsOn before chunk (IsFull back) after =
    (back ≡ chunk) × (slice_get before.puts before.put_at ≡ Some false)
    × (is_list before ≡ true → IsRightPut before false)
    × (after ≡ record before { put_at = suc before.put_at })
PutsOn before chunk NoPut after =
    ((accepts : Bool) → slice_get before.puts before.put_at ≡ Some accepts
    → (is_list before ≡ true → IsRightPut before accepts) → ⊥) × (after ≡ before)

-- s is the state of buffer b after these calls of a run. Their puts and takes had the first answers that the trace
-- tells, as many as s counts. They got the first chunks of s, and put those after the first `opened`. If one clock
-- feeds and reads the buffer, each call was answered as a bounded list answers it.
pub record StandsFor (s : BufferState) (b : ℕ) (calls : List Call) : Type 0 where
  pub puts : map is_some (puts_to b calls) ≡ take s.put_at s.puts
  pub put_low : s.put_at ≤ length s.puts
  pub takes : map is_some (takes_of b calls) ≡ take s.take_at s.takes
  pub take_low : s.take_at ≤ length s.takes
  pub got : somes (takes_of b calls) ≡ take s.got s.chunks
  pub got_low : s.got ≤ length s.chunks
  pub opened_low : s.opened ≤ length s.chunks
  pub fed : drop s.opened s.chunks ≡ somes (puts_to b calls)
  pub list_opens : is_list s ≡ true → s.opened ≡ 0
  pub in_order : is_list s ≡ true → (front behind : List Call) (call : Call) → calls ≡ front ++ call ∷ behind
      → buffer_of call ≡ b
      → Suits s.capacity (somes (puts_to b front)) (got_in b front) call

-- each buffer's state is what these calls of the run led to: its counts and its chunks; `states` has it by number
abbrev pub AllStand : List BufferState → List Call → Type 0
AllStand states calls = (b : ℕ) (d : BufferState) → b < length states → StandsFor (slice_index_or states b d) b calls

-- this call, with its answer, can follow the calls `front`: all answers begin those that the trace tells of each
-- buffer, and a buffer that one clock feeds and reads answers as a bounded list
pub record CanComeBy (states : List BufferState) (front : List Call) (call : Call) : Type 0 where
  pub puts : (b : ℕ) (d : BufferState) → b < length states
      → IsFront (map is_some (puts_to b (front ++ call ∷ []))) (slice_index_or states b d).puts
  pub takes : (b : ℕ) (d : BufferState) → b < length states
      → IsFront (map is_some (takes_of b (front ++ call ∷ []))) (slice_index_or states b d).takes
  pub suits : (d : BufferState) → buffer_of call < length states
      → is_list (slice_index_or states (buffer_of call) d) ≡ true
      → Suits (slice_index_or states (buffer_of call) d).capacity (somes (puts_to (buffer_of call) front))
      (got_in (buffer_of call) front) call

-- The states of the buffers are those after the calls before one, a take that is to get a chunk, by the trace. Another
-- clock puts that chunk, and has not put it yet.
pub record HasWaited (states : List BufferState) (calls : List Call) : Type 0 where
  pub front : List Call
  pub behind : List Call
  pub buffer : ℕ
  pub are : calls ≡ front ++ Took buffer None ∷ behind
  pub stand : AllStand states front
  pub known : buffer < length states
  pub gets : (d : BufferState)
      → slice_get (slice_index_or states buffer d).takes (slice_index_or states buffer d).take_at ≡ Some true
  pub missing : (d : BufferState) → length (slice_index_or states buffer d).chunks
      ≤ (slice_index_or states buffer d).got
  pub joins : (d : BufferState) → is_list (slice_index_or states buffer d) ≡ false

-- The states of the buffers are those after the calls before one to which no answer is right: the trace tells none, or
-- one that a bounded list would not give, where one clock feeds and reads the buffer.
pub record HasFailed (states : List BufferState) (calls : List Call) : Type 0 where
  pub front : List Call
  pub behind : List Call
  pub call : Call
  pub are : calls ≡ front ++ call ∷ behind
  pub stand : AllStand states front
  pub none : (other : Call) → IsSameCall call other → CanComeBy states front other → ⊥

-- The states of the buffers are those after these calls of a run, as far as the calls could be answered. The course
-- says how far: all of them; or those before a take that waits for a chunk; or those before a call to which no answer
-- is right.
abbrev pub TapsStand : Course → List BufferState → List Call → Type 0
TapsStand Goes states calls = AllStand states calls
TapsStand Waits states calls = HasWaited states calls
TapsStand Fails states calls = HasFailed states calls

-- What calls keep of a buffer's state: its capacity, the answers that are told, its ends and what it began with. The
-- counts of puts, takes and got chunks only grow, and chunks are only added behind.
pub record SameBuffer (before after : BufferState) : Type 0 where
  pub capacity : after.capacity ≡ before.capacity
  pub puts : after.puts ≡ before.puts
  pub takes : after.takes ≡ before.takes
  pub fed : after.fed ≡ before.fed
  pub read : after.read ≡ before.read
  pub opened : after.opened ≡ before.opened
  pub gone : after.gone ≡ before.gone
  pub put_on : before.put_at ≤ after.put_at
  pub take_on : before.take_at ≤ after.take_at
  pub got_on : before.got ≤ after.got
  pub there : (rest : List (List Cell)) × (after.chunks ≡ before.chunks ++ rest)

-- What calls keep of the states of all buffers: how many there are, and of each its capacity, the answers that are
-- told, its ends and what it began with. Its counts only grow, and chunks are only added behind.
pub record SameBuffers (before after : List BufferState) : Type 0 where
  pub many : length after ≡ length before
  pub each : (k : ℕ) (d : BufferState) → k < length before
      → SameBuffer (slice_index_or before k d) (slice_index_or after k d)

-- without a call the states stay as they are
pub same_buffers_refl : (bs : List BufferState) → SameBuffers bs bs
same_buffers_refl bs = record {
  many = refl;
  each = λ k d h. record {
    capacity = refl;
    puts = refl;
    takes = refl;
    fed = refl;
    read = refl;
    opened = refl;
    gone = refl;
    put_on = omega arith;
    take_on = omega arith;
    got_on = omega arith;
    there = ([], sym (append-nil (slice_index_or bs k d).chunks));
  };
}

-- what calls leave as it is, and further calls after them, is left so by all of them
pub same_buffers_trans : (bs cs ds : List BufferState) → SameBuffers bs cs → SameBuffers cs ds → SameBuffers bs ds
same_buffers_trans bs cs ds a b = record {
  many = b.many ∙ a.many;
  each = λ k d h. let x = a.each k d h in let y = b.each k d (omega (arith, a.many, h)) in
      record {
        capacity = y.capacity ∙ x.capacity;
        puts = y.puts ∙ x.puts;
        takes = y.takes ∙ x.takes;
        fed = y.fed ∙ x.fed;
        read = y.read ∙ x.read;
        opened = y.opened ∙ x.opened;
        gone = y.gone ∙ x.gone;
        put_on = (let one = x.put_on in let two = y.put_on in omega (arith, one, two));
        take_on = (let one = x.take_on in let two = y.take_on in omega (arith, one, two));
        got_on = (let one = x.got_on in let two = y.got_on in omega (arith, one, two));
        there = (
          x.there.0 ++ y.there.0,
          y.there.1 ∙ ap (λ (l : List (List Cell)). l
              ++ y.there.0) x.there.1 ∙ append_assoc (slice_index_or bs k d).chunks x.there.0 y.there.0,
        );
      };
}

-- the chunks with which a buffer begins a run of a clock: none if the clock feeds it, which `true` says, and otherwise
-- those that are there
abbrev pub chunks_at : Bool → List (List Cell) → List (List Cell)
chunks_at true chunks = []
chunks_at false chunks = chunks

-- how many of the chunks with which a buffer begins a run were let go: none if the clock feeds it, which `true` says,
-- and otherwise as many as before
abbrev pub gone_at : Bool → ℕ → ℕ
gone_at true gone = 0
gone_at false gone = gone

-- The state of a buffer at the beginning of a run of a clock, with all counts of calls 0. `fed` and `read` say whether
-- the clock feeds it and reads it; if it does not feed it, the chunks that are there stay.
abbrev pub begun : BufferState → (fed read : Bool) → BufferState
begun s fed read = record {
  capacity = s.capacity;
  puts = s.puts;
  takes = s.takes;
  fed = fed;
  read = read;
  put_at = 0;
  take_at = 0;
  got = 0;
  opened = length (chunks_at fed s.chunks);
  chunks = chunks_at fed s.chunks;
  gone = gone_at fed s.gone;
}
