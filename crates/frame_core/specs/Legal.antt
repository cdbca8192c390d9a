-- One window of a bounded queue: its puts, its takes and what it leaves; and windows one after another.
use Rattle.std.specs.Prelude.{◌≡◌, ℕ, ◌<◌, List, [], ◌∷◌, ◌++◌, length, Option, Some, None}

-- The puts and takes of one window fit some common order on a bounded queue. A put is the item that was accepted, or
-- None where the queue was full; a take is the item got, or None where it was empty. The queue has `capacity` items at
-- most, begins with `queue` and ends with `rest`.
pub data Legal {X : Type 0} (capacity : ℕ) (rest : List X) : List X → List (Option X) → List (Option X) → Type 0 where
  all_done : Legal capacity rest rest [] []
  accepted : {queue : List X} {x : X} {puts takes : List (Option X)} → length queue < capacity →
      Legal capacity rest (queue ++ x ∷ []) puts takes → Legal capacity rest queue (Some x ∷ puts) takes
  put_refused : {queue : List X} {puts takes : List (Option X)} → length queue ≡ capacity →
      Legal capacity rest queue puts takes → Legal capacity rest queue (None ∷ puts) takes
  got : {queue : List X} {x : X} {puts takes : List (Option X)} →
      Legal capacity rest queue puts takes → Legal capacity rest (x ∷ queue) puts (Some x ∷ takes)
  empty : {puts takes : List (Option X)} →
      Legal capacity rest [] puts takes → Legal capacity rest [] puts (None ∷ takes)

-- Windows one after another fit a bounded queue of at most `capacity` items. The puts and takes of each window are
-- legal from the items that the one before it left. The first begins with `queue`, and the last leaves `rest`.
abbrev pub IsHistory : {X : Type 0} → ℕ → List X → List (List (Option X) × List (Option X)) → List X → Type 0
IsHistory capacity queue [] rest = queue ≡ rest
IsHistory {X} capacity queue (window ∷ windows) rest =
    (left : List X) × Legal capacity left queue window.0 window.1 × IsHistory capacity left windows rest
