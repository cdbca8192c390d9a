-- What a feed takes of its node in a tick, and gives at the tick's end.
use Rattle.std.specs.Prelude.{◌≡◌, ◌≤◌, ◌+◌, ◌++◌, ℕ, All, Bool, Option, Some, None, List, [], slice_get, length}
use Rattle.frame_core.specs.Slots.{Slot}
use Rattle.frame_core.specs.Calls.{Adds, Call}
use Rattle.stream_meaning.specs.Arithmetic.{cells_of}
use Rattle.stream_meaning.specs.Calls.{IsBegin, given, joined_upto}
use Rattle.clock_outputs.specs.declared.feed.FeedPort.{FeedPort}

-- A feed, which puts the cells of a node into a buffer, at the start of a tick. It holds no cells, and its room for
-- cells stays.
abbrev pub unfed : FeedPort → FeedPort
unfed feed = record {
  buffer = feed.buffer;
  node = feed.node;
  frame = record { cells = []; room = feed.frame.room };
}

-- A feed, which puts the cells of a node into a buffer, after these slots more of its node. The cells in the slots go
-- behind those that it holds.
abbrev pub fed : FeedPort → List Slot → FeedPort
fed feed slots = record {
  buffer = feed.buffer;
  node = feed.node;
  frame = record { cells = feed.frame.cells ++ cells_of slots; room = feed.frame.room };
}

-- a feed, which collects the cells of a node for a buffer, has room for as many more as there are slots
abbrev pub HasFeedRoom : ℕ → FeedPort → Type 0
HasFeedRoom slots feed = length feed.frame.cells + slots ≤ feed.frame.room

-- each of these feeds, which collect the cells of nodes for buffers, has room for as many more cells as there are slots
abbrev pub AllHaveFeedRoom : ℕ → List FeedPort → Type 0
AllHaveFeedRoom slots feeds = All (λ feed. HasFeedRoom slots feed) feeds

-- The call by which a feed, if there is one, puts its cells into its buffer at the end of a tick; without cells it
-- makes none. `accepted b` says whether buffer b accepts them.
abbrev pub given_by : (accepted : ℕ → Bool) → Option FeedPort → List Call
given_by accepted None = []
given_by accepted (Some feed) = given feed.buffer feed.frame.cells (accepted feed.buffer)

-- each feed has a buffer of its own: no two feeds in the list put cells into one buffer
pub record HaveOwnBuffers (feeds : List FeedPort) : Type 0 where
  pub each : (j k : ℕ) (one other : FeedPort) → slice_get feeds j ≡ Some one → slice_get feeds k ≡ Some other
      → one.buffer ≡ other.buffer → j ≡ k

-- At the end of a tick a feed put its cells into its buffer by one call, or had none. The taps are all ends of buffers
-- in this clock, before and after. `stands` says which calls a state of the taps stands for; the call is added to
-- these.
pub record HasGiven {T : Type 0} (stands : T → List Call
    → Type 0) (feed : FeedPort) (taps_old taps_new : T) : Type 0 where
  pub more : List Call
  pub taps : Adds stands taps_old taps_new more
  pub accepted : Bool
  pub is : more ≡ given feed.buffer feed.frame.cells accepted

-- At the end of a tick the first `below` feeds put their cells into their buffers, in order. The taps are all ends of
-- buffers in this clock, before and after. `stands` says which calls a state of the taps stands for; the puts are added
-- to these.
pub record HaveGiven {T : Type 0} (stands : T → List Call
    → Type 0) (feeds : List FeedPort) (below : ℕ) (taps_old taps_new : T) : Type 0 where
  pub more : List Call
  pub taps : Adds stands taps_old taps_new more
  pub accepted : ℕ → Bool
  pub are : HaveOwnBuffers feeds → more ≡ joined_upto (λ k. given_by accepted (slice_get feeds k)) below

-- Memory was refused at the end of a tick: some feeds, from the first one on, put their cells into their buffers. The
-- taps are all ends of buffers in this clock, before and after. `stands` says which calls a state of the taps stands
-- for; the puts are added to these.
pub record HaveGivenSome {T : Type 0} (stands : T → List Call
    → Type 0) (feeds : List FeedPort) (taps_old taps_new : T) : Type 0 where
  pub made : List Call
  pub taps : Adds stands taps_old taps_new made
  pub accepted : ℕ → Bool
  pub begins : HaveOwnBuffers feeds
      → IsBegin made (joined_upto (λ k. given_by accepted (slice_get feeds k)) (length feeds))
