-- What a shelf lists of the sinks that it made and closed, and the sinks that stand for it.
use Rattle.std.specs.Prelude.{◌≡◌, ◌⊎◌, ◌≤◌, ℕ, suc, ◌+◌, ◌%◌, List, Option, Some, IsSome, length}
use Rattle.std.specs.Option.{ForSome}
use Rattle.liq_base.specs.Pieces.{SinkTold}
use Rattle.liq_base.specs.Shelves.{Closing, ShelfTold}
use Rattle.stream_meaning.specs.Instants.{Setting}
use Rattle.stations.specs.Streams.{body_size, file_bytes}
use Rattle.station_render.specs.OutputSinks.{HasEnded, size_of}
use Rattle.station_render.specs.declared.output_sink.OutputSink.{OutputSink}

-- a shelf tells its files or its list of closed ones, so that each of its sinks tells its name and bytes
abbrev pub TellsSinks : ShelfTold → Type 0
TellsSinks shelf = IsSome shelf.files ⊎ IsSome shelf.closed

-- A sink tells that it was created for `size` bytes, and that it got just `pieces` pieces, one for each append.
pub record IsMeasured (size pieces : ℕ) (sink : SinkTold) : Type 0 where
  pub size_is : size_of sink ≡ Some size
  pub pieces_are : sink.appends ≡ Some pieces

-- a sink tells for how many bytes it was created, and that it got at least `least` pieces
pub record AreTold (least : ℕ) (sink : SinkTold) : Type 0 where
  pub size_told : IsSome (size_of sink)
  pub pieces : ℕ
  pub pieces_are : sink.appends ≡ Some pieces
  pub enough : least ≤ pieces

-- a sink that did not fail holds a whole WAV header: 44 bytes at least
abbrev pub HasHeader : SinkTold → Type 0
HasHeader sink = sink.faults ≡ 0 → ForSome sink.held (λ held. 44 ≤ length held)

-- An output's sink tells all that the shelf's list of closed files will say of it: this name, its size, a piece at
-- least, and a whole header unless it failed. Where the shelf keeps no such list (`closed` is None), nothing is said.
abbrev pub WillClose : {O : Type 0} → (told : O → SinkTold) → (closed : Option (List Closing)) → List ℕ → OutputSink O
    → Type 0
WillClose told closed name output = ForSome closed (λ before. ((told output.sink).name ≡ Some name)
    × (AreTold 1 (told output.sink) × HasHeader (told output.sink)))

-- This entry of the shelf's list of closed files says what the sink last told: its name, its size, how many bytes and
-- pieces it got, and no fault.
pub record EndsAs (closing : Closing) (last : SinkTold) : Type 0 where
  pub named : last.name ≡ Some closing.name
  pub size_is : size_of last ≡ Some closing.room
  pub held : List ℕ
  pub holds : last.held ≡ Some held
  pub long : length held ≡ closing.bytes
  pub pieces_are : last.appends ≡ Some closing.pieces
  pub sound : closing.faults ≡ 0

-- This entry, `closing`, is what the shelf will list when an output's sink is closed, after it got the zero byte that
-- it owes, if any. `told` says what a sink tells. Where the shelf keeps no such list (`closed` is None), nothing is
-- said.
abbrev pub WillList : {O : Type 0} → (told : O → SinkTold) → (closed : Option (List Closing)) → Closing → OutputSink O
    → Type 0
WillList told closed closing output = ForSome closed (λ before. (last : SinkTold)
    → HasEnded output.odd (told output.sink) last → EndsAs closing last)
