-- The sinks of outputs, each of which may owe a last zero byte. Of a sink within, what it tells is said.
use Rattle.std.specs.Prelude.{◌≡◌, ◌⊎◌, ℕ, zero, suc, ◌+◌, ◌-◌, Bool, true, false, Option, Some, None, List, [], ◌∷◌, ◌++◌, length, slice_get, if◌then◌else◌}
use Rattle.liq_base.specs.Pieces.{HasRoom, SinkTold, TookPiece}
use Rattle.stations.specs.Outputs.{OutputPart}
use Rattle.station_render.specs.Sinks.{HoldsFront}
use Rattle.station_render.specs.declared.output_sink.OutputSink.{OutputSink}

-- the room that is left in bytes, with one byte kept back for the last zero byte; `None` where the room is not told
abbrev pub but_one : Option ℕ → Option ℕ
but_one None = None
but_one (Some room) = Some (room - 1)

-- the room that is left for samples: one byte is kept back if the bytes of the samples are odd in number, for the last
-- zero byte
abbrev pub but_one_if : (odd : Bool) → Option ℕ → Option ℕ
but_one_if false room = room
but_one_if true room = but_one room

-- whether there is room for one byte more; true where the room is not told
abbrev pub has_one : Option ℕ → Bool
has_one None = true
has_one (Some zero) = false
has_one (Some (suc room)) = true

-- What an output owes its file, as a number: 0 for nothing, 1 for a last zero byte without room, 2 for one with room.
-- `odd` says whether its sample bytes are odd in number, and the Option is the room left, if told.
abbrev pub owed_by : (odd : Bool) → Option ℕ → ℕ
owed_by false room = 0
owed_by true room = if has_one room then 2 else 1

-- for how many bytes a sink was created: those that it holds and those for which it has room left, where it tells both
abbrev pub size_by : (held : Option (List ℕ)) (left : Option ℕ) → Option ℕ
size_by None left = None
size_by (Some held) None = None
size_by (Some held) (Some left) = Some (length held + left)

-- for how many bytes a sink was created, by what it tells; None where it does not tell enough
abbrev pub size_of : SinkTold → Option ℕ
size_of sink = size_by sink.held sink.room

-- a number that may be missing, coded as one number: 0 for none, and otherwise the number and one
abbrev pub told_number : Option ℕ → ℕ
told_number None = 0
told_number (Some number) = suc number

-- a name that may be missing, coded as a list: empty for none, and otherwise a 0 in front of its bytes
abbrev pub told_name : Option (List ℕ) → List ℕ
told_name None = []
told_name (Some name) = 0 ∷ name

-- What identifies an output's sink and never changes, coded as one list: what it owes, its size, and its name. `odd`
-- says whether its sample bytes are odd in number.
abbrev pub known : (odd : Bool) → SinkTold → List ℕ
known odd sink = owed_by odd sink.room ∷ told_number (size_of sink) ∷ told_name sink.name

-- What an output's sink tells, from what the plain sink within it tells. A zero byte that it owes (where `odd` holds)
-- is taken from the room, and as its name stands a code that never changes.
abbrev pub told_by : (odd : Bool) → SinkTold → SinkTold
told_by odd sink = record {
  held = sink.held;
  name = Some (known odd sink);
  room = but_one_if odd sink.room;
  appends = sink.appends;
  faults = sink.faults;
}

-- what an output's sink tells, where `told` says what the plain sink within tells
abbrev pub output_told : {O : Type 0} → (told : O → SinkTold) → OutputSink O → SinkTold
output_told told output = told_by output.odd (told output.sink)

-- the zero byte that ends an output's file if the bytes of its samples are odd in number; otherwise no byte
abbrev pub last_byte : (odd : Bool) → List ℕ
last_byte false = []
last_byte true = 0 ∷ []

-- A sink took the zero byte that ends a file where `odd` says that its sample bytes are odd in number; otherwise it is
-- as it was. `old` and `new` are what it tells before and after.
abbrev pub HasEnded : (odd : Bool) → (old new : SinkTold) → Type 0
HasEnded false old new = new ≡ old
HasEnded true old new = TookPiece (0 ∷ []) old new

-- Each sink of an output that owes a last zero byte has room for it. `groups` has the sinks of each clock, and `told`
-- says what a sink tells.
abbrev pub HaveRooms : {O : Type 0} → (told : O → SinkTold) → List (List (OutputSink O)) → Type 0
HaveRooms told groups = (m k : ℕ) (group : List (OutputSink _)) (output : OutputSink _)
    → slice_get groups m ≡ Some group → slice_get group k ≡ Some output → output.odd ≡ true
    → HasRoom (told output.sink).room 1

-- The plain sink within an output's sink has the name and holds just the bytes `least` of this output. `most` is these
-- with the zero byte that is still owed after an odd number of sample bytes. `told` says what the plain sink tells.
pub record HoldsBody {O : Type 0} (told : O → SinkTold) (part : OutputPart) (output : OutputSink O) : Type 0 where
  pub named : (told output.sink).name ≡ Some part.name
  pub holds : (told output.sink).held ≡ Some part.least
  pub whole : part.most ≡ part.least ++ last_byte output.odd

-- what the plain sink within an output's sink tells
abbrev pub inner : {O : Type 0} → (told : O → SinkTold) → OutputSink O → SinkTold
inner told output = told output.sink

-- A sink is as it was, or it took some bytes in one piece. `old` and `new` are what it tells before and after.
abbrev pub MayHaveTaken : (old new : SinkTold) → Type 0
MayHaveTaken old new = (new ≡ old) ⊎ ((taken : List ℕ) × TookPiece taken old new)

-- The plain sink within an output's sink has the name of this part of a file and holds a beginning of its bytes
-- `most`. It holds at least its bytes `least`, unless it failed. `told` says what the plain sink tells.
abbrev pub HoldsSoMuch : {O : Type 0} → (told : O → SinkTold) → OutputPart → OutputSink O → Type 0
HoldsSoMuch told part output = HoldsFront part (told output.sink)
