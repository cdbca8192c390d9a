-- What clauses see of the sinks in memory, and what a call makes of them.
use Rattle.std.specs.Prelude.{ℕ, ◌+◌, ◌-◌, ◌^◌, List, [], ◌∷◌, ◌++◌, take, length, min, Option, Some, None, if◌then◌else◌, nat_eq, nat_le}
use Rattle.liq_base.specs.Pieces.{SinkTold}

-- A count of calls or faults and one more, up to the most that a u64 holds.
abbrev pub one_more : ℕ → ℕ
one_more count = min (count + 1) (2 ^ 64 - 1)

-- After how many bytes the append of number `call` is to fail, by a list of such calls with their bytes; `None` if it
-- is not on it. Of a call that stands twice the first place counts.
abbrev pub listed : List (ℕ × ℕ) → ℕ → Option ℕ
listed [] call = None
listed (fail ∷ fails) call = if nat_eq fail.0 call then Some fail.1 else listed fails call

-- After how many bytes an append of `size` bytes stops, with `left` bytes of room: at a listed place within piece and
-- room, at 0 for want of room, or nowhere (`None`).
abbrev pub stop : Option ℕ → ℕ → ℕ → Option ℕ
stop (Some at) left size = Some (min at (min size left))
stop None left size = if nat_le size left then None else Some 0

-- The bytes that a sink takes of a piece: those before the place at which it stops, or all where it does not stop.
abbrev pub taken_at : Option ℕ → List ℕ → List ℕ
taken_at (Some at) piece = take at piece
taken_at None piece = piece

-- All that a byte sink in memory keeps: its bytes, its room, the appends that are to fail (number and bytes taken), and
-- how many calls were made and failed.
pub record SinkState : Type 0 where
  pub held : List ℕ
  pub room : ℕ
  pub fails : List (ℕ × ℕ)
  pub calls : ℕ
  pub faults : ℕ

-- A byte sink in memory that was just made, with this room and with these appends that are to fail.
abbrev pub empty_sink : ℕ → List (ℕ × ℕ) → SinkState
empty_sink room fails = record { held = []; room = room; fails = fails; calls = 0; faults = 0 }

-- After how many bytes the next append, of this piece, stops: because it is listed to fail, or for want of room; `None`
-- if it is taken whole.
abbrev pub stops : SinkState → List ℕ → Option ℕ
stops sink piece = stop (listed sink.fails sink.calls) (sink.room - length sink.held) (length piece)

-- The count of faults of a sink after an append that stopped early (one more) or was taken whole (`None`: as before).
abbrev pub faults_after : Option ℕ → ℕ → ℕ
faults_after None faults = faults
faults_after (Some at) faults = one_more faults

-- A byte sink in memory after an append of this piece: it holds what it took of it, and counts the call, and the fault
-- if it stopped early.
abbrev pub appended : SinkState → List ℕ → SinkState
appended sink piece = record {
  held = sink.held ++ taken_at (stops sink piece) piece;
  room = sink.room;
  fails = sink.fails;
  calls = one_more sink.calls;
  faults = faults_after (stops sink piece) sink.faults;
}

-- What a byte sink in memory without a name tells of itself: its bytes, the number of its appends and its faults.
abbrev pub sink_told : SinkState → SinkTold
sink_told sink = record {
  held = Some sink.held;
  name = None;
  room = None;
  appends = Some sink.calls;
  faults = sink.faults;
}

-- All that a sink keeps which a shelf in memory made: its name, and the byte sink behind it.
pub record NamedState : Type 0 where
  pub name : List ℕ
  pub sink : SinkState

-- What a sink of a shelf in memory tells of itself: its bytes, name, room left, number of appends and faults.
abbrev pub named_told : NamedState → SinkTold
named_told named = record {
  held = Some named.sink.held;
  name = Some named.name;
  room = Some (named.sink.room - length named.sink.held);
  appends = Some named.sink.calls;
  faults = named.sink.faults;
}

-- All that a sink in memory keeps which never fails: its name, its bytes and for how many bytes it was made.
pub record SureState : Type 0 where
  pub name : List ℕ
  pub held : List ℕ
  pub room : ℕ

-- What a sink in memory that never fails tells of itself: its bytes, its name and its room left. It does not tell its
-- appends.
abbrev pub sure_told : SureState → SinkTold
sure_told sure = record {
  held = Some sure.held;
  name = Some sure.name;
  room = Some (sure.room - length sure.held);
  appends = None;
  faults = 0;
}
