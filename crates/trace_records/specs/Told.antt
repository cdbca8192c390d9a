-- A window of a buffer that is told by its answers alone.
use Rattle.std.specs.Prelude.{◌≡◌, ◌≤◌, ◌+◌, ◌-◌, ◌&&◌, ◌⊎◌, ℕ, suc, Bool, true, false, Option, List, [], ◌∷◌, ◌++◌, length, map, is_some, take, nat_le, nat_lt, if◌then◌else◌}
use Rattle.std.specs.List.{list_all}
use Rattle.frame_core.specs.Legal.{Legal}

-- Some window of a queue of at most `capacity` chunks, which holds `opening` of them at first, is legal and has these
-- answers: of its puts, true for an accepted chunk, and of its takes, true for a chunk that was got. The chunks are any
-- things of type X.
pub record IsToldLegal (X : Type 0) (capacity opening : ℕ) (puts takes : List Bool) : Type 0 where
  pub queue : List X
  pub rest : List X
  pub given : List (Option X)
  pub taken : List (Option X)
  pub opens : length queue ≡ opening
  pub puts_are : map is_some given ≡ puts
  pub takes_are : map is_some taken ≡ takes
  pub legal : Legal capacity rest queue given taken

-- how many of these answers are true: puts that were accepted, or takes that got a chunk
abbrev pub yes : List Bool → ℕ
yes [] = 0
yes (true ∷ answers) = suc (yes answers)
yes (false ∷ answers) = yes answers

-- P holds at each false answer, a refused put or an empty take, of the number of true answers before it
abbrev pub AtNo : List Bool → (ℕ → Type 0) → Type 0
AtNo answers P = (before after : List Bool) → answers ≡ before ++ false ∷ after → P (yes before)

-- What the answers of a legal window meet: no more chunks are got than were there or put, and no more are left than the
-- queue may hold; a refused put has as many chunks before it as fill the queue, and an empty take those of the opening;
-- and of a refused put and an empty take one comes long before the other: the queue is emptied or filled between them.
pub record Fits (capacity opening : ℕ) (puts takes : List Bool) : Type 0 where
  pub least : yes takes ≤ opening + yes puts
  pub most : opening + yes puts ≤ capacity + yes takes
  pub fulls : AtNo puts (λ put. capacity ≤ opening + put)
  pub empties : AtNo takes (λ got. opening ≤ got)
  pub apart : AtNo puts (λ put. AtNo takes (λ got. (opening + put ≤ got) ⊎ (got + capacity ≤ opening + put)))

-- A place among the takes: how many got a chunk before it, how many chunks a refused put must have before it, and the
-- takes from the place on.
pub record Passed : Type 0 where
  pub got : ℕ
  pub floor : ℕ
  pub left : List Bool

-- The place among these takes up to which they come before a refused put that has `count` chunks before it: that of the
-- first empty take with as many before it. An empty take with fewer leaves the queue to be filled again. Before these
-- takes `got` chunks were got, and a refused put must have `floor` chunks before it.
abbrev pub passed : (capacity count got floor : ℕ) → List Bool → Passed
passed capacity count got floor [] = record { got = got; floor = floor; left = [] }
passed capacity count got floor (true ∷ takes) = passed capacity count (suc got) floor takes
passed capacity count got floor (false ∷ takes) =
    if nat_lt got count then passed capacity count got (got + capacity) takes else record {
      got = got;
      floor = floor;
      left = false ∷ takes;
    }

-- Whether each refused put of a window has enough chunks before it: from a place among the takes on, which `got` and
-- `floor` describe, and from a put with `count` chunks before it on.
abbrev pub refusals_fit : (capacity count got floor : ℕ) → (puts takes : List Bool) → Bool
refusals_fit capacity count got floor [] takes = true
refusals_fit capacity count got floor (true ∷ puts) takes = refusals_fit capacity (suc count) got floor puts takes
refusals_fit capacity count got floor (false ∷ puts) takes =
    nat_le (passed capacity count got floor takes).floor count
    && refusals_fit capacity count (passed capacity count got floor takes).got
    (passed capacity count got floor takes).floor puts (passed capacity count got floor takes).left

-- whether the first `count` of these answers are true, or all where there are fewer
abbrev pub begins_true : ℕ → List Bool → Bool
begins_true count answers = list_all (λ answer. answer) (take count answers)

-- Whether a queue of at most `capacity` chunks, which holds `opening` at first, can answer the puts and takes of a
-- window so, in some order; true is an accepted put, or a take that got a chunk.
abbrev pub is_legal : (capacity opening : ℕ) → (puts takes : List Bool) → Bool
is_legal capacity opening puts takes =
    nat_le (yes takes) (opening + yes puts) && (nat_le (opening + yes puts) (capacity + yes takes)
    && (begins_true opening takes && refusals_fit capacity opening 0 capacity puts takes))

-- whether a queue of at most `capacity` chunks, which holds `opening` at first, can answer these windows of a buffer
-- so, one after another
abbrev pub are_legal : (capacity opening : ℕ) → List (List Bool × List Bool) → Bool
are_legal capacity opening [] = true
are_legal capacity opening (window ∷ windows) = is_legal capacity opening window.0 window.1
    && are_legal capacity ((opening + yes window.0) - yes window.1) windows
