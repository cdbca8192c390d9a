-- What a search of turns begins with, and what it finds.
use Rattle.std.specs.Prelude.{◌≡◌, ◌≤◌, ℕ, List, [], length}
use Rattle.buffer_ends.specs.Local.{Answers}
use Rattle.stream_meaning.specs.Settings.{IsSetting}
use Rattle.trace_log.specs.Texts.{IsTrace}
use Rattle.trace_records.specs.Clocks.{Log}
use Rattle.trace_turns.specs.declared.course.TurnMade.{TurnMade}
use Rattle.trace_turns.specs.declared.ends.Ends.{Ends}
use Rattle.trace_turns.specs.declared.station.Sides.{Sides}
use Rattle.trace_turns.specs.declared.station.Station.{Station}
use Rattle.trace_turns.specs.Answering.{BufferState}
use Rattle.trace_turns.specs.Logs.{AreNew}
use Rattle.trace_turns.specs.Orders.{AreTurns, no_chunks, no_ticks}
use Rattle.trace_turns.specs.Thin.{AreKept}
use Rattle.trace_turns.specs.Turns.{AreFit, AreSides, base_at, chunks_of}

-- A trace may be judged: `logs` is what was read of it, for each buffer of the plan; the states of the buffers are new,
-- with its answers, and no turn is noted. `of` has the main clocks of each buffer's feed and reader, and `ends` says
-- where the windows, of `window` ticks, end.
pub record MayJudge (station : Station) (of : Sides) (ends : List Ends) (window ticks : ℕ) (logs : List (List Answers))
    (turns : List TurnMade) (states : List BufferState) : Type 0 where
  pub setting : IsSetting (base_at station) station.clocks.now
  pub trace : IsTrace (record { ticks = ticks; window = window; buffers = logs })
  pub buffers : length logs ≡ length station.plan.now.buffers
  pub sides : AreSides (base_at station) of.feeders.items of.readers.items
  pub size : length states ≡ length station.plan.now.buffers
  pub long : length ends ≡ length station.plan.now.buffers
  pub none : turns ≡ []
  pub new : AreNew station.plan.now.buffers logs (length station.plan.now.buffers) states ends

-- A clock may be run from its first tick on: the buffers tell the answers of some text of a trace, and have freed no
-- chunk. `of` has the main clocks of each buffer's feed and reader, and `ends` says where the text's windows end.
pub record MayRun (station : Station) (of : Sides) (ends : List Ends) (window ticks : ℕ)
    (states : List BufferState) : Type 0 where
  pub some : 1 ≤ window
  pub few : ticks ≤ 1000000000
  pub setting : IsSetting (base_at station) station.clocks.now
  pub sides : AreSides (base_at station) of.feeders.items of.readers.items
  pub long : length ends ≡ length states
  pub kept : AreKept states
  pub text : (text : ℕ → Log) × AreFit (base_at station) window ticks text states ends

-- A search for an order of turns, the runs of single clocks, may begin: the buffers tell the answers of some text of a
-- trace, and hold no chunk and never did; no turn is noted. `of` has the main clocks of each buffer's feed and reader,
-- and `ends` says where the text's windows end.
pub record MaySearch (station : Station) (of : Sides) (ends : List Ends) (window ticks : ℕ) (turns : List TurnMade)
    (states : List BufferState) : Type 0 where
  pub some : 1 ≤ window
  pub few : ticks ≤ 1000000000
  pub setting : IsSetting (base_at station) station.clocks.now
  pub sides : AreSides (base_at station) of.feeders.items of.readers.items
  pub long : length ends ≡ length states
  pub none : turns ≡ []
  pub kept : AreKept states
  pub empty : (b : ℕ) → chunks_of states b ≡ []
  pub text : (text : ℕ → Log) × AreFit (base_at station) window ticks text states ends

-- by these turns, the runs of single clocks one after another, all ticks are made, for each text that the buffers tell
abbrev pub AreFound : Station → List Ends → (window ticks : ℕ) → List BufferState → List TurnMade → Type 0
AreFound station ends window ticks states turns = (text : ℕ → Log)
    → AreFit (base_at station) window ticks text states ends
    → AreTurns (base_at station) station.clocks.now.running window ticks text turns no_ticks no_chunks

-- each text that the buffers told before, with windows that end as `ends` says, they tell after
abbrev pub TellOn : Station → List Ends → (window ticks : ℕ) → (before after : List BufferState) → Type 0
TellOn station ends window ticks before after = (text : ℕ → Log)
    → AreFit (base_at station) window ticks text before ends → AreFit (base_at station) window ticks text after ends
