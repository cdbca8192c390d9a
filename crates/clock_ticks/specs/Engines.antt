-- An engine's parts, and for what they stand.
use Rattle.std.specs.Prelude.{◌≡◌, ◌≤◌, ◌*◌, ℕ, suc, Bool, false, Option, Some, None, List, [], ◌∷◌, All, length, map, nat_eq, slice_get, take, if◌then◌else◌}
use Rattle.liq_base.specs.declared.limits.TheConstants.{MAX_NODES}
use Rattle.liq_base.specs.Pieces.{SinkTold}
use Rattle.plan_core.specs.declared.plan.Plan.{Plan}
use Rattle.plan_core.specs.Plans.{AreNodes, IsWellFormed}
use Rattle.plan_core.specs.declared.sink.SinkPlan.{SinkPlan}
use Rattle.plan_core.specs.declared.sink.SinkPlan.TheVariants.{Output, Feed}
use Rattle.clock_infer.specs.declared.clock_map.ClockMap.{ClockMap}
use Rattle.clock_infer.specs.declared.clock_map.NodeClock.{NodeClock}
use Rattle.clock_infer.specs.declared.clock_map.NodeClock.TheVariants.{Main}
use Rattle.clock_infer.specs.Answers.{IsClockMap}
use Rattle.frame_core.specs.Calls.{Call, Answer}
use Rattle.stream_meaning.specs.Instants.{Setting, lies_in, sub_of, with_rest}
use Rattle.stream_meaning.specs.Sinks.{block_length, cues, gaps, is_wide, kind_of}
use Rattle.stream_meaning.specs.Calls.{IsBegin, IsUnread, after_calls, calls_of_tick}
use Rattle.clock_outputs.specs.declared.port.Port.{Port}
use Rattle.clock_outputs.specs.declared.feed.FeedPort.{FeedPort}
use Rattle.nested_instants.specs.Clocks.{AreOwnRoots}
use Rattle.clock_ticks.specs.Standing.{IsClockState, ClockStateStands}
use Rattle.clock_ticks.specs.Hearings.{Hearing}
use Rattle.clock_ticks.specs.Cues.{mark_of}
use Rattle.clock_ticks.specs.declared.cues.CueList.{CueList}
use Rattle.clock_ticks.specs.declared.fault.TickFault.{TickFault}
use Rattle.clock_ticks.specs.declared.engine.EngineParts.{EngineParts}

-- what an engine plays, as a setting: its plan, clocks, files and start second, and buffers that answered nothing yet
abbrev pub setting_of : EngineParts → Setting
setting_of parts = record {
  plan = parts.scene.plan.now;
  library = parts.scene.library.now;
  clocks = parts.scene.clocks.now;
  start = parts.start.second;
  answers = λ buffer. [];
}

-- the outputs of main clock m among these sinks, which are counted from i: their numbers and nodes
abbrev pub outputs_from : Setting → (m i : ℕ) → List SinkPlan → List (ℕ × ℕ)
outputs_from setting m i [] = []
outputs_from setting m i (Output name node fallible wide ∷ sinks) =
    if lies_in setting (Main m) node then (i, node) ∷ outputs_from setting m (suc i) sinks
    else outputs_from setting m (suc i) sinks
outputs_from setting m i (Feed buffer node ∷ sinks) = outputs_from setting m (suc i) sinks

-- the outputs of main clock m in a plan, in the order of its sinks, by their numbers among the sinks and their nodes
abbrev pub outputs_of : Setting → ℕ → List (ℕ × ℕ)
outputs_of setting m = outputs_from setting m 0 setting.plan.sinks

-- the key of an output, by its port, which is the engine's part for it: its number among the sinks of the plan, and the
-- node that it plays
abbrev pub output_of : Port → ℕ × ℕ
output_of port = (port.sink, port.node)

-- the feeds of main clock m among these sinks, by the buffer that each fills and the node that it plays
abbrev pub feeds_from : Setting → (m : ℕ) → List SinkPlan → List (ℕ × ℕ)
feeds_from setting m [] = []
feeds_from setting m (Output name node fallible wide ∷ sinks) = feeds_from setting m sinks
feeds_from setting m (Feed buffer node ∷ sinks) =
    if lies_in setting (Main m) node then (buffer, node) ∷ feeds_from setting m sinks else feeds_from setting m sinks

-- the feeds of main clock m in a plan, in the order of its sinks, by the buffer that each fills and the node that it
-- plays
abbrev pub feeds_of : Setting → ℕ → List (ℕ × ℕ)
feeds_of setting m = feeds_from setting m setting.plan.sinks

-- the key of a feed: the buffer that it fills, and the node that it plays
abbrev pub feed_of : FeedPort → ℕ × ℕ
feed_of feed = (feed.buffer, feed.node)

-- the engine `parts` after a tick: with the states, outputs, feeds and marks of `other`, so many ticks made, and the
-- fault that stopped it, if one did
abbrev pub after_tick : EngineParts → (other : EngineParts) → (ticks : ℕ) → Option TickFault → EngineParts
after_tick parts other ticks stopped = record {
  scene = parts.scene;
  clock = parts.clock;
  start = parts.start;
  own = parts.own;
  state = other.state;
  ports = other.ports;
  feeds = other.feeds;
  cues = other.cues;
  ticks = ticks;
  stopped = stopped;
}

-- these are the clocks of a plan's nodes, by the plan's clock map
pub record AreClocksOf (plan : Plan) (clocks : List NodeClock) : Type 0 where
  pub map : ClockMap
  pub assigned : IsClockMap plan map
  pub are : clocks ≡ map.of

-- The parts of an engine fit together. Its plan is well formed, and there is a state and a clock for each node. Its
-- outputs and feeds are those of its clock in the plan, with room for a tick, and each output has a list of marks
-- (where tracks begin).
pub record AreParts (parts : EngineParts) : Type 0 where
  pub plan : IsWellFormed parts.scene.plan.now
  pub nodes : AreNodes parts.scene.plan.now.nodes
  pub frame : parts.scene.plan.now.frame ≤ 65536
  pub few : length parts.scene.plan.now.nodes ≤ MAX_NODES
  pub in_clocks : length parts.scene.clocks.now ≡ length parts.scene.plan.now.nodes
  pub clocks : AreClocksOf parts.scene.plan.now parts.scene.clocks.now
  pub state : IsClockState parts.scene parts.state
  pub in_own : length parts.own.items ≡ length parts.scene.plan.now.nodes
  pub own : AreOwnRoots (setting_of parts) parts.own.items
  pub outputs : map output_of parts.ports.items ≡ outputs_of (setting_of parts) parts.clock
  pub kinds : All (λ port. port.kind ≡ kind_of (setting_of parts) port.node) parts.ports.items
  pub widths : All (λ port. port.wide ≡ is_wide (setting_of parts) port.sink) parts.ports.items
  pub rooms : All (λ port. parts.scene.plan.now.frame * block_length port.wide port.kind
      ≤ port.piece.room) parts.ports.items
  pub feeds : map feed_of parts.feeds.items ≡ feeds_of (setting_of parts) parts.clock
  pub frames : All (λ feed. parts.scene.plan.now.frame ≤ feed.frame.room) parts.feeds.items
  pub lists : length parts.cues.lists.items ≡ length parts.ports.items

-- an engine, as contracts see it: its parts, and the sinks of its outputs
pub record Engine (S : Type 0) : Type 0 where
  pub parts : EngineParts
  pub outs : List S

-- what each engine is: its parts fit together, and each output has a sink
pub record IsWhole {S : Type 0} (engine : Engine S) : Type 0 where
  pub parts : AreParts engine.parts
  pub sinks : length engine.outs ≡ length engine.parts.ports.items

-- An engine has made so many ticks without a fault, in which its readers took exactly these answers, by buffer. Its
-- state is what the ticks imply, whatever answers follow. Buffers that its clock does not read have no answers. If it
-- keeps its marks (where tracks begin), or made no tick, it has those of the ticks.
pub record EngineStands (parts : EngineParts) (ticks : ℕ) (answers : ℕ → List Answer) : Type 0 where
  pub made : parts.ticks ≡ ticks
  pub runs : parts.stopped ≡ None
  pub others : (buffer : ℕ) → IsUnread (setting_of parts) (Main parts.clock) buffer → answers buffer ≡ []
  pub state : (rest : ℕ → List Answer)
      → ClockStateStands (with_rest (setting_of parts) answers rest)
      (sub_of (with_rest (setting_of parts) answers rest)) (Main parts.clock)
      (ticks * parts.scene.plan.now.frame) answers parts.state
  pub gaps_are : (rest : ℕ → List Answer) (k : ℕ) (port : Port) → slice_get parts.ports.items k ≡ Some port
      → port.gaps ≡ gaps (with_rest (setting_of parts) answers rest) port.node ticks
  pub cues_are : (parts.cues.keeping ≡ false → ticks ≡ 0)
      → (rest : ℕ → List Answer) (k : ℕ) (port : Port) (list : CueList) → slice_get parts.ports.items k ≡ Some port
      → slice_get parts.cues.lists.items k ≡ Some list
      → list.marks.items ≡ map mark_of (cues (with_rest (setting_of parts) answers rest) port.node ticks)

-- An engine stopped in tick t after the calls `made`, and before that tick its readers had taken these answers, by
-- buffer. The calls are the first ones of the tick's, whatever answers follow. The ticks, gaps and marks that it had
-- before tick t are still known.
pub record EngineStopped (parts : EngineParts) (t : ℕ) (answers : ℕ → List Answer) (made : List Call) : Type 0 where
  pub ticks_are : parts.ticks ≡ t
  pub fault : TickFault
  pub stopped : parts.stopped ≡ Some fault
  pub accepted : ℕ → Bool
  pub begun : (rest : ℕ → List Answer)
      → IsBegin made (calls_of_tick (with_rest (setting_of parts) (after_calls answers made) rest) accepted parts.clock
      t)
  pub gaps_are : (rest : ℕ → List Answer) (k : ℕ) (port : Port) → slice_get parts.ports.items k ≡ Some port
      → port.gaps_before ≡ gaps (with_rest (setting_of parts) answers rest) port.node t
  pub cues_are : (parts.cues.keeping ≡ false → t ≡ 0) → (rest : ℕ → List Answer) (k : ℕ) (port : Port) (list : CueList)
      → slice_get parts.ports.items k ≡ Some port
      → slice_get parts.cues.lists.items k ≡ Some list
      → take list.before list.marks.items ≡ map mark_of (cues (with_rest (setting_of parts) answers rest) port.node t)

-- The bytes that the sink with number `sink` holds, if it tells them (`told`). `outputs` has the number and the node of
-- each output, and `outs` the sink of each, in the same order. None stands where there is no such output.
abbrev pub held_in : {S : Type 0} → (S → SinkTold) → (outputs : List (ℕ × ℕ)) → List S → ℕ → Option (List ℕ)
held_in told [] outs sink = None
held_in told (output ∷ outputs) [] sink = None
held_in told (output ∷ outputs) (out ∷ outs) sink = if nat_eq output.0 sink then (told out).held
    else held_in told outputs outs sink

-- the bytes that each output of an engine holds, by its number among the sinks of the plan; `told` is what a sink tells
-- of its bytes
abbrev pub held_of : {S : Type 0} → (S → SinkTold) → Engine S → ℕ → Option (List ℕ)
held_of told engine = held_in told (outputs_of (setting_of engine.parts) engine.parts.clock) engine.outs

-- what a tick changes in an engine: its states, outputs, feeds and marks, with the first instant of its next tick and
-- its taps, which are its way to the buffers
abbrev pub hearing_of : {T : Type 0} → EngineParts → T → Hearing T
hearing_of parts taps = record {
  state = parts.state;
  ports = parts.ports.items;
  feeds = parts.feeds.items;
  cues = parts.cues;
  start = parts.ticks * parts.scene.plan.now.frame;
  taps = taps;
}
