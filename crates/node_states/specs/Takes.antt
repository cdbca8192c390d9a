-- The takes of a reader at the start of a tick, whatever answers come behind them.
use Rattle.std.specs.Prelude.{◌≡◌, ℕ, suc, true, List, ◌++◌, ◌%◌, length, map, nat_eq}
use Rattle.frame_core.specs.Slots.{Slot}
use Rattle.frame_core.specs.Calls.{Adds, Call, Took, Answer}
use Rattle.op_leaf.specs.Readers.{Reader, after_takes, at_start, reader_takes}
use Rattle.stream_meaning.specs.Operators.{Reads}
use Rattle.stream_meaning.specs.Instants.{Setting, Moment, next_answers, reading_after}
use Rattle.node_states.specs.declared.state.NodeState.{NodeState}
use Rattle.node_states.specs.States.{StateStands, reading_by}

-- By the first takes of a tick, which got `more`, the reader of this buffer came from `before` to `now`, whatever
-- answers follow. The clock's ends of buffers were `taps_old` before and are `taps_new` now; `stands taps calls` states
-- that they are those after these calls.
pub record IsTaking {T : Type 0} (stands : T → List Call
    → Type 0) (buffer : ℕ) (before now : Reader) (taps_old taps_new : T) : Type 0 where
  pub more : List Answer
  pub taps : Adds stands taps_old taps_new (map (Took buffer) more)
  pub takes : (rest : List Answer) → reader_takes (more ++ rest) before ≡ more ++ reader_takes rest now
  pub holds : (rest : List Answer) → after_takes (more ++ rest) before ≡ after_takes rest now

-- By all takes of a tick, which got `more`, the reader of this buffer came from `before` to `now`; it has not begun the
-- tick yet. The clock's ends of buffers were `taps_old` before and are `taps_new` now; `stands taps calls` states that
-- they are those after these calls.
pub record HasHeld {T : Type 0} (stands : T → List Call
    → Type 0) (buffer : ℕ) (before now : Reader) (taps_old taps_new : T) : Type 0 where
  pub more : List Answer
  pub taps : Adds stands taps_old taps_new (map (Took buffer) more)
  pub takes : (rest : List Answer) → reader_takes (more ++ rest) before ≡ more
  pub holds : (rest : List Answer) → after_takes (more ++ rest) before ≡ now

-- The reader of this buffer made all takes of a tick, which got `more`, and then began it: so it came from `before` to
-- `now`. The clock's ends of buffers were `taps_old` before and are `taps_new` now; `stands taps calls` states that
-- they are those after these calls.
pub record HasTaken {T : Type 0} (stands : T → List Call
    → Type 0) (buffer : ℕ) (before now : Reader) (taps_old taps_new : T) : Type 0 where
  pub more : List Answer
  pub taps : Adds stands taps_old taps_new (map (Took buffer) more)
  pub takes : (rest : List Answer) → reader_takes (more ++ rest) before ≡ more
  pub begun : (rest : List Answer) → at_start (more ++ rest) before ≡ now

-- The reader of this buffer, in the state `before`, made some of the takes of a tick, from the first on, when a fault
-- broke it off; they got `more`. The clock's ends of buffers were `taps_old` before and are `taps_new` now;
-- `stands taps calls` states that they are those after these calls.
pub record IsTaken {T : Type 0} (stands : T → List Call
    → Type 0) (buffer : ℕ) (before : Reader) (taps_old taps_new : T) : Type 0 where
  pub more : List Answer
  pub taps : Adds stands taps_old taps_new (map (Took buffer) more)
  pub begins : (rest : List Answer) → (left : List Answer) × (reader_takes (more ++ rest) before ≡ more ++ left)

-- node i, which reads this buffer, has begun the tick after this past: it took the answers `more`, after those of
-- `front`
pub record HasBegunAt (setting : Setting) (sub : ℕ → ℕ
    → List Slot) (past : List Moment) (i buffer : ℕ) (front more : List Answer) (state : NodeState) : Type 0 where
  pub stands : StateStands setting sub past (suc (length past)) i (Reads buffer) state
  pub takes : reader_takes (next_answers (setting.answers buffer) (reading_after setting i buffer past))
      (reading_after setting i buffer past).reader ≡ more
  pub taken : (reading_by setting i buffer past (suc (length past))).taken ≡ length (front ++ more)

-- The reader of this buffer has begun a tick, from the state `before` to `now`: whatever past it stood for, in which it
-- had taken some answers, it has taken the next ones, `more`. The clock's ends of buffers were `taps_old` before and
-- are `taps_new` now; `stands taps calls` states that they are those after these calls.
pub record HasBegun {T : Type 0} (stands : T → List Call
    → Type 0) (buffer : ℕ) (before now : NodeState) (taps_old taps_new : T) : Type 0 where
  pub more : List Answer
  pub taps : Adds stands taps_old taps_new (map (Took buffer) more)
  pub begun : (setting : Setting) (sub : ℕ → ℕ → List Slot) (past : List Moment) (i : ℕ) (front rest : List Answer)
      → StateStands setting sub past (length past) i (Reads buffer) before
      → nat_eq (length past % setting.plan.frame) 0 ≡ true
      → setting.answers buffer ≡ (front ++ more) ++ rest → (reading_after setting i buffer past).taken ≡ length front
      → HasBegunAt setting sub past i buffer front more now

-- The reader of this buffer, in the state `before`, has made some of the takes of a tick, from the first on, whatever
-- past it stood for; they got `more`. The clock's ends of buffers were `taps_old` before and are `taps_new` now;
-- `stands taps calls` states that they are those after these calls.
pub record HasTakenSome {T : Type 0} (stands : T → List Call
    → Type 0) (buffer : ℕ) (before : NodeState) (taps_old taps_new : T) : Type 0 where
  pub more : List Answer
  pub taps : Adds stands taps_old taps_new (map (Took buffer) more)
  pub begins : (setting : Setting) (sub : ℕ → ℕ → List Slot) (past : List Moment) (i : ℕ) (front rest : List Answer)
      → StateStands setting sub past (length past) i (Reads buffer) before
      → setting.answers buffer ≡ (front ++ more) ++ rest → (reading_after setting i buffer past).taken ≡ length front
      → (left : List Answer) ×
      (reader_takes (next_answers (setting.answers buffer) (reading_after setting i buffer past))
      (reading_after setting i buffer past).reader ≡ more ++ left)
