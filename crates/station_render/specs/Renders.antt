-- What stands behind the outputs of a plan while they are rendered.
use Rattle.std.specs.Prelude.{◌≡◌, ◌<◌, ℕ, suc, Bool, ◌+◌, ◌*◌, ◌%◌, List, [], ◌∷◌, ◌++◌, Option, Some, length, map, slice_get}
use Rattle.std.specs.Option.{ForSome}
use Rattle.liq_base.specs.Pieces.{HasRoom, SinkTold}
use Rattle.liq_base.specs.Shelves.{Closing, ShelfTold}
use Rattle.plan_core.specs.declared.plan.Plan.{Plan}
use Rattle.plan_core.specs.declared.sink.SinkPlan.{SinkPlan}
use Rattle.plan_core.specs.declared.sink.SinkPlan.TheVariants.{Output, Feed}
use Rattle.clock_infer.specs.declared.clock_map.ClockMap.{ClockMap}
use Rattle.clock_infer.specs.declared.clock_map.NodeClock.{NodeClock}
use Rattle.clock_infer.specs.declared.clock_map.NodeClock.TheVariants.{Main, Sub}
use Rattle.frame_core.specs.Calls.{Answer}
use Rattle.stream_meaning.specs.Instants.{Setting, answered, clock_of}
use Rattle.run_records.specs.Buffers.{main_of as main_clock}
use Rattle.stations.specs.Outputs.{OutputFile, OutputPart, after_making}
use Rattle.stations.specs.Streams.{body_size, file_bytes, front_bytes, header_for, output_bytes}
use Rattle.station_render.specs.Listed.{AreTold, IsMeasured, TellsSinks}
use Rattle.station_render.specs.OutputSinks.{but_one_if, owed_by}
use Rattle.station_render.specs.Sinks.{AreCreated, HoldsFront, HoldsPart, HoldsWhole, WasAdded}
use Rattle.station_render.specs.declared.output_sink.OutputSink.{OutputSink}

-- an output of a plan: its name, the node that it writes, and whether its samples have 24 bits (`wide`) or 16
pub record Written : Type 0 where
  pub name : List ℕ
  pub node : ℕ
  pub wide : Bool

-- the outputs among the sinks of a plan, in their order; a sink that feeds a buffer is left out
abbrev pub written : List SinkPlan → List Written
written [] = []
written (Output name node fallible wide ∷ sinks) = record { name = name; node = node; wide = wide } ∷ written sinks
written (Feed buffer node ∷ sinks) = written sinks

-- the main clock in which the node of a sink lies, by its number; 0 stands for a sub-clock, in which no sink lies
abbrev pub main_of : NodeClock → ℕ
main_of (Main m) = m
main_of (Sub k) = 0

-- the numbers of the main clocks that drive these outputs, in the order of the outputs
abbrev pub order_of : Setting → List Written → List ℕ
order_of setting outputs = map (λ output. main_of (clock_of setting output.node)) outputs

-- the whole WAV file of an output after so many ticks: its name and all its bytes
abbrev pub file_of : Setting → (ticks : ℕ) → Written → OutputFile
file_of setting ticks output = record { name = output.name; bytes = file_bytes setting output.wide ticks output.node }

-- the WAV file of an output after so many ticks, without the zero byte that ends a file of odd length
abbrev pub body_of : Setting → (ticks : ℕ) → Written → OutputFile
body_of setting ticks output = record { name = output.name; bytes = output_bytes setting output.wide ticks output.node }

-- the bounds of what an output's file holds once all ticks were made: at least all but its last zero byte, and at most
-- all
abbrev pub end_of : Setting → (ticks : ℕ) → Written → OutputPart
end_of setting ticks output = record {
  name = output.name;
  least = output_bytes setting output.wide ticks output.node;
  most = file_bytes setting output.wide ticks output.node;
}

-- the bounds of what an output's file holds in the middle of a run: at least the bytes of the ticks that its clock
-- made, and at most those of the ticks that it tried. For clock m, `made m` and `tried m` count these ticks.
abbrev pub front_file : Setting → (ticks : ℕ) → (made tried : ℕ → ℕ) → Written → OutputPart
front_file setting ticks made tried output = record {
  name = output.name;
  least = front_bytes setting output.wide ticks (made (main_clock setting output.node)) output.node;
  most = front_bytes setting output.wide ticks (tried (main_clock setting output.node)) output.node;
}

-- what an output owes after so many bytes of samples, as a number: 2 (a last zero byte, with room for it) if the count
-- is odd, and otherwise 0
abbrev pub debt_of : (size : ℕ) → ℕ
debt_of size = 2 * (size % 2)

-- What the shelf's list of closed files says of an output that was written whole, in so many ticks: its name, its size
-- as reserved and as written, and no fault. There is a piece for the header and for each tick, and maybe one for the
-- last zero byte.
abbrev pub closing_of : Setting → (ticks : ℕ) → Written → Closing
closing_of setting ticks output = record {
  name = output.name;
  room = length (file_bytes setting output.wide ticks output.node);
  bytes = length (file_bytes setting output.wide ticks output.node);
  pieces = suc ticks + body_size setting output.wide ticks output.node % 2;
  faults = 0;
}

-- how many bytes an output's file has if its samples take `body` bytes: 44 of the header, those of the samples, and a
-- zero byte where these are odd in number
abbrev pub whole_size : (body : ℕ) → ℕ
whole_size body = 44 + body + body % 2

-- A sink is ready for the first tick of this output: it holds the file's header as its one piece, and was created for
-- just the bytes of the file. So it has room for the samples, and for the zero byte that it owes. `told` says what a
-- sink tells, the shelf whether it tells so much, and `ticks` is how many ticks follow.
pub record IsReady {O : Type 0} (told : O
    → SinkTold) (shelf : ShelfTold) (setting : Setting) (ticks : ℕ) (output : Written) (sink : OutputSink O) : Type 0
  where
    pub holds : TellsSinks shelf → HoldsWhole (record {
      name = output.name;
      bytes = header_for setting output.wide ticks output.node;
    }) (told sink.sink)
    pub measured : ForSome shelf.closed
        (λ before. IsMeasured (whole_size (body_size setting output.wide ticks output.node)) 1 (told sink.sink))
    pub room : HasRoom (but_one_if sink.odd (told sink.sink).room) (body_size setting output.wide ticks output.node)
    pub owes : owed_by sink.odd (told sink.sink).room ≡ debt_of (body_size setting output.wide ticks output.node)

-- The sink of this output has got all `ticks` ticks: it holds all its bytes but for the zero byte that it owes. They
-- came in a piece for the header and one for each tick. `told` says what a sink tells, and the shelf whether it tells
-- so much.
pub record IsWhole {O : Type 0} (told : O
    → SinkTold) (shelf : ShelfTold) (setting : Setting) (ticks : ℕ) (output : Written) (sink : OutputSink O) : Type 0
  where
    pub holds : TellsSinks shelf → HoldsWhole (body_of setting ticks output) (told sink.sink)
    pub measured : ForSome shelf.closed
        (λ before. IsMeasured (whole_size (body_size setting output.wide ticks output.node)) (1 + ticks)
        (told sink.sink))
    pub owes : owed_by sink.odd (told sink.sink).room ≡ debt_of (body_size setting output.wide ticks output.node)

-- The sink of this output in the middle of a run holds the bytes of the ticks that its clock made, and maybe some of
-- those that it tried; or it failed with fewer. For clock m, `made m` and `tried m` count these ticks. `told` says
-- what a sink tells, and the shelf whether it tells so much.
pub record IsPart {O : Type 0} (told : O → SinkTold) (shelf : ShelfTold) (setting : Setting) (ticks : ℕ) (made tried : ℕ
    → ℕ) (output : Written) (sink : OutputSink O) : Type 0 where
  pub holds : TellsSinks shelf → HoldsFront (front_file setting ticks made tried output) (told sink.sink)
  pub measured : ForSome shelf.closed (λ before. AreTold 1 (told sink.sink))

-- A rendering made some ticks: outputs were `created`, and each one's sink holds at least the bytes of the ticks
-- `made` and at most those `tried`, or failed. `order` has the clock of each output, `groups` the sinks of each clock,
-- and `answers` those of the run before any `rest`. `shelf` is as before, and `created_now` its list of created names
-- afterwards.
pub record AreBegun {O : Type 0} (told : O → SinkTold) (shelf : ShelfTold) (setting : Setting) (answers : (ℕ
    → List Answer) → ℕ → List Answer) (ticks : ℕ) (made tried : ℕ → ℕ)
    (order : List ℕ) (groups : List (List (OutputSink O))) (created_now : Option (List (List ℕ))) : Type 0 where
  pub created : List Written
  pub others : List Written
  pub all : written setting.plan.sinks ≡ created ++ others
  pub made_are : created_now ≡ after_making (map (λ output. output.name) created) shelf.created
  pub parts : (rest : ℕ → List Answer)
      → AreCreated (IsPart told shelf (answered setting (answers rest)) ticks made tried) created order groups

-- A sink was created for a file with this name, and holds `bytes`, the file's header, as its one piece. It has room
-- for `body` bytes of samples, and for the zero byte that it owes after an odd number. `told` says what a sink tells,
-- and the shelf whether it tells so much.
pub record IsOpened {O : Type 0} (told : O
    → SinkTold) (shelf : ShelfTold) (name bytes : List ℕ) (body : ℕ) (sink : OutputSink O) : Type 0 where
  pub holds : TellsSinks shelf → HoldsWhole (record { name = name; bytes = bytes }) (told sink.sink)
  pub measured : ForSome shelf.closed (λ before. IsMeasured (whole_size body) 1 (told sink.sink))
  pub room : HasRoom (but_one_if sink.odd (told sink.sink).room) body
  pub owes : owed_by sink.odd (told sink.sink).room ≡ debt_of body

-- A sink was created for a file of this name and these `bytes`, and then a write failed: it holds a beginning of them.
-- `told` says what a sink tells, and the shelf whether it tells so much.
pub record IsCutShort {O : Type 0} (told : O
    → SinkTold) (shelf : ShelfTold) (name bytes : List ℕ) (sink : OutputSink O) : Type 0 where
  pub holds : TellsSinks shelf → HoldsPart (record { name = name; bytes = bytes }) (told sink.sink)
  pub measured : ForSome shelf.closed (λ before. AreTold 1 (told sink.sink))
  pub failed : 0 < (told sink.sink).faults

-- A sink of this name was created for an output of this clock, and `Is` holds of it. From `before` to `after` the
-- shelf's list of created names grew by the name, and from `order_old` to `order_new` the list of the outputs' clocks
-- by the clock. `old` and `new` are the sinks of each clock; the sink was put behind its clock's others.
pub record WasCreated {O : Type 0} (Is : OutputSink O
    → Type 0) (clock : ℕ) (name : List ℕ) (before after : Option (List (List ℕ))) (order_old order_new : List ℕ)
    (old new : List (List (OutputSink O))) : Type 0 where
  pub sink : OutputSink O
  pub order_is : order_new ≡ order_old ++ clock ∷ []
  pub added : WasAdded clock sink old new
  pub made_is : after ≡ after_making (name ∷ []) before
  pub is : Is sink

-- No sink was created. `before` and `after` are the shelf's lists of created names, `order_old` and `order_new` have
-- the clock of each output, and `old` and `new` the sinks of each clock: all stay.
pub record NoneCreated {O : Type 0} (before after : Option (List (List ℕ))) (order_old order_new : List ℕ)
    (old new : List (List (OutputSink O))) : Type 0 where
  pub order_is : order_new ≡ order_old
  pub same : new ≡ old
  pub made_none : after ≡ before

-- each output of a plan has its node in a main clock that runs, so that some engine writes it
abbrev pub AreMain : Plan → ClockMap → Type 0
AreMain plan clocks = (k : ℕ) (name : List ℕ) (node : ℕ) (fallible wide : Bool)
    → slice_get plan.sinks k ≡ Some (Output name node fallible wide)
    → (m : ℕ) × (m < clocks.running) × (slice_get clocks.of node ≡ Some (Main m))
