-- When a buffer between two clocks has room for every put, whatever the order within a window.
use Rattle.std.specs.Prelude.{◌≡◌, ◌⊎◌, ◌<◌, ◌≤◌, ◌+◌, ◌*◌, ◌++◌, ℕ, zero, suc, Bool, true, false, Option, Some, None, is_some, List, [], ◌∷◌, length, drop, slice_get}
use Rattle.frame_core.specs.declared.cell.Cell.{Cell}
use Rattle.frame_core.specs.Calls.{Answer}
use Rattle.op_leaf.specs.Readers.{Reader, at_start, read_by, reader_takes}
use Rattle.plan_core.specs.declared.node.Node.{Node}
use Rattle.clock_infer.specs.declared.clock_map.NodeClock.TheVariants.{Main}
use Rattle.stream_meaning.specs.Operators.{Reads}
use Rattle.stream_meaning.specs.Instants.{Setting, clock_of, demanded, first_instants, moment_after, offer, sub_of, work_at}
use Rattle.run_records.specs.Buffers.{reader}
use Rattle.run_records.specs.Records.{Window}

-- whether one of these answers is nothing: a refused put, or a take that got no chunk
abbrev pub has_none : List (Option (List Cell)) → Bool
has_none [] = false
has_none (None ∷ answers) = true
has_none (Some chunk ∷ answers) = has_none answers

-- The takes from a buffer keep pace with its puts. `owed` is by how many the puts may still outnumber the takes when
-- the first window begins, at most D. Each window has at most W puts, and leaves to the next at most `owed` and its
-- takes, less its puts; if one of its takes found the buffer empty, it leaves any number up to D.
abbrev pub KeepPace : (W D owed : ℕ) → List Window → Type 0
KeepPace W D owed [] = owed ≤ D
KeepPace W D owed (window ∷ windows) =
    (length window.0 ≤ W) × (owed ≤ D) × (left : ℕ)
    × ((has_none window.1 ≡ true) ⊎ (length window.0 + left ≤ length window.1 + owed)) × KeepPace W D left windows

-- A reader owes so many takes between two ticks, at most D: for as many ticks it may take nothing. Either it plays and
-- holds less than `owed + 1` frames, the cells of a tick each; or it does not play, has not gathered its prefill, and
-- owes D.
abbrev pub Owes : (D : ℕ) → Reader → (owed : ℕ) → Type 0
Owes D reader owed = (owed ≤ D)
    × (((reader.playing ≡ true) × (length reader.cells < suc owed * reader.frame))
    ⊎ ((reader.playing ≡ false) × (length reader.cells < reader.prefill) × (owed ≡ D)))

-- each chunk among these answers has at most `frame` cells
abbrev pub AreSmall : (frame : ℕ) → List Answer → Type 0
AreSmall frame [] = Unit {0}
AreSmall frame (None ∷ answers) = AreSmall frame answers
AreSmall frame (Some chunk ∷ answers) = (length chunk ≤ frame) × AreSmall frame answers

-- a reader after one tick, in which it took the first of these answers, as many as it needs, and gave a frame, the
-- cells of a tick, or all that it held
abbrev pub ticked : List Answer → Reader → Reader
ticked answers reader = read_by reader.frame (at_start answers reader)

-- those of these answers that a reader has not taken after one tick
abbrev pub untaken : List Answer → Reader → List Answer
untaken answers reader = drop (length (reader_takes answers reader)) answers

-- what the takes of n ticks of a reader get, out of these answers in their order; in each tick it gives a frame, the
-- cells of a tick, or all that it holds
abbrev pub takes_in : (n : ℕ) → List Answer → Reader → List Answer
takes_in zero answers reader = []
takes_in (suc n) answers reader = reader_takes answers reader
    ++ takes_in n (untaken answers reader) (ticked answers reader)

-- a reader after n ticks, in each of which it took the first of the answers that were left, as many as it needs, and
-- gave a frame, the cells of a tick, or all that it held
abbrev pub reader_after : (n : ℕ) → List Answer → Reader → Reader
reader_after zero answers reader = reader
reader_after (suc n) answers reader = reader_after n (untaken answers reader) (ticked answers reader)

-- those of these answers that a reader has not taken after n ticks
abbrev pub answers_after : (n : ℕ) → List Answer → Reader → List Answer
answers_after zero answers reader = answers
answers_after (suc n) answers reader = answers_after n (untaken answers reader) (ticked answers reader)

-- These windows are of at most W ticks each: a put a tick at most, and the takes of a reader that gives a frame of
-- cells in each tick, or all that it holds.
abbrev pub AreTicks : (W : ℕ) → List Answer → Reader → List Window → Type 0
AreTicks W answers reader [] = Unit {0}
AreTicks W answers reader (window ∷ windows) =
    (n : ℕ) × (n ≤ W) × (length window.0 ≤ n) × (window.1 ≡ takes_in n answers reader)
    × AreTicks W (answers_after n answers reader) (reader_after n answers reader) windows

-- In n ticks, with these takes, a reader came to `after` and kept pace. For `owed` ticks it might take nothing before,
-- and for `left` after, at most D. Together n and `left` are at most `owed` and the number of its takes, unless a take
-- found the buffer empty. Its prefill and its frame, how many cells it gives in a tick, are the same.
pub record KeepsPace (D n : ℕ) (reader after : Reader) (takes : List Answer) (owed : ℕ) : Type 0 where
  pub left : ℕ
  pub owes : Owes D after left
  pub takes_enough : (has_none takes ≡ true) ⊎ (n + left ≤ length takes + owed)
  pub prefill : after.prefill ≡ reader.prefill
  pub frame : after.frame ≡ reader.frame

-- Node i, which is `node`, reads this buffer and lies in main clock m. It is demanded at each instant at which it
-- offers a cell, so it gives each cell that it offers.
pub record IsDrawn (setting : Setting) (buffer m i : ℕ) (node : Node) : Type 0 where
  pub found : slice_get setting.plan.nodes i ≡ Some node
  pub does : work_at setting i node ≡ Reads buffer
  pub lies : clock_of setting i ≡ Main m
  pub reads : reader setting buffer ≡ m
  pub drawn : (n : ℕ) → is_some
      (offer (moment_after setting (sub_of setting) (Main m) (first_instants setting (sub_of setting) (Main m) n)) i)
      ≡ true
      → demanded (moment_after setting (sub_of setting) (Main m) (first_instants setting (sub_of setting) (Main m) n)) i
      ≡ true
