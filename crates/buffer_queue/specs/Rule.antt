-- What the two passes of a queue know, and the rule over them.
use Rattle.std.specs.Prelude.{◌≡◌, ℕ, ◌+◌, ◌≤◌, true, false, List, [], ◌∷◌, ◌++◌, length}
use mathlib.Core.Option.{some}
use lib.ListN.{get_elem?}
use Rattle.frame_core.specs.declared.cell.Cell.{Cell}
use Rattle.frame_core.specs.Order.{Move, puts_of, gots_of, Ordered, last_or, left_by}
use Rattle.buffer_queue.specs.declared.rule.View.{View}

-- a chunk of a queue, as the list of its cells
abbrev pub Cells : Type 0
Cells = List Cell

-- what a pass, the right to use a queue, knows if it may neither put nor take: nothing
abbrev pub idle : View
idle = record { capacity = 0; puts = false; takes = false; opening = []; put = []; since = []; got = [] }

-- what the first pass of a new queue knows: it may both put and take, and nothing was put or got
abbrev pub newcomer : View
newcomer = record { capacity = 0; puts = true; takes = true; opening = []; put = []; since = []; got = [] }

-- The chunks that a queue holds, by what a pass `v` that may both put and take knows. They are those of the window's
-- opening and the puts, without the ones got.
abbrev pub contents_of : View → List Cells
contents_of v = left_by v.opening v.put v.got

-- What a pass knows that puts into a queue of at most n chunks, when the next window opens. It opens with what the
-- queue holds, by `v`, which the pass of both roles knew before.
abbrev pub putter : ℕ → View → View
putter n v = record {
  capacity = n;
  puts = true;
  takes = false;
  opening = contents_of v;
  put = [];
  since = [];
  got = [];
}

-- What a pass knows that takes from a queue of at most n chunks, when the next window opens. It opens with what the
-- queue holds, by `v`, which the pass of both roles knew before.
abbrev pub taker : ℕ → View → View
taker n v = record { capacity = n; puts = false; takes = true; opening = []; put = []; since = contents_of v; got = [] }

-- what a pass, the right to use a queue, knows that is joined from two: from v, which puts, the opening and the puts,
-- and from w, which takes, the chunks got
abbrev pub both : View → View → View
both v w = record {
  capacity = v.capacity;
  puts = true;
  takes = true;
  opening = v.opening;
  put = v.put;
  since = w.since;
  got = w.got;
}

-- What the pass at this port, `v`, knows of a queue is right. The queue has this capacity, its window opened with the
-- chunks `queue`, and since then it had these moves. A pass that puts is at the port `writer` and knows the puts; one
-- that takes is at `reader` and knows the chunks got.
abbrev pub FitsView : ℕ → ℕ → ℕ → List Cells → List (Move Cells) → ℕ → View → Type 0
FitsView capacity writer reader queue moves port v =
    (v.puts ≡ true → (port ≡ writer) × (v.capacity ≡ capacity) × (v.opening ≡ queue) × (v.put ≡ puts_of moves))
    × (v.takes ≡ true → (port ≡ reader) × (v.capacity ≡ capacity) × (v.since ≡ queue) × (v.got ≡ gots_of moves))

-- The rule of a queue that holds `items`, where `views` is what its passes, the rights to use it, know. Some order of
-- the accepted puts and of the chunks got leads from the opening of the window to these items. What the passes know is
-- that of this order.
abbrev pub Holds : List Cells → List View → Type 0
Holds items views =
    (capacity : ℕ) × (writer : ℕ) × (reader : ℕ) × (queue : List Cells) × (moves : List (Move Cells))
    × (length queue ≤ capacity) × Ordered capacity queue moves items
    × ((port : ℕ) (v : View) → get_elem? views port ≡ some v → FitsView capacity writer reader queue moves port v)

-- A pass knew `v` and put chunk x, and then it knows `w`: the same, with x added to its puts, and with how many chunks
-- the put left in the queue.
abbrev pub IsPut : View → Cells → View → Type 0
IsPut v x w = (n : ℕ) × (w ≡ record v { put = v.put ++ (x, n) ∷ [] })

-- A pass knew `v` and got chunk x by a take, and then it knows `w`: the same, with x added to the chunks got, and with
-- how many chunks the take left in the queue.
abbrev pub IsGot : View → Cells → View → Type 0
IsGot v x w = (n : ℕ) × (w ≡ record v { got = v.got ++ (x, n) ∷ [] })

-- What a pass that knows `v` learns if the queue, which holds `items`, is full. The last accepted put, or else the
-- opening, left as many chunks as the queue may hold. At least so many were there at the opening or put since.
abbrev pub Fills : View → List Cells → Type 0
Fills v items =
    length items ≡ v.capacity → (last_or (length v.opening) v.put ≡ v.capacity)
    × (v.capacity ≤ length v.opening + length v.put)

-- What a pass that knows `v` learns if the queue, which holds `items`, is empty: the last chunk got, or else the
-- opening, left none, and at least as many were got as were there at the opening
abbrev pub Drains : View → List Cells → Type 0
Drains v items = length items ≡ 0 → (last_or (length v.since) v.got ≡ 0) × (length v.since ≤ length v.got)

-- What a pass that both puts and takes, and knows `v`, learns of a window of a queue that holds `items`. Its puts and
-- its takes are those of one order, which leads from the opening to these items.
abbrev pub Whole : View → List Cells → Type 0
Whole v items =
    (moves : List (Move Cells)) × (length v.opening ≤ v.capacity) × Ordered v.capacity v.opening moves items
    × (puts_of moves ≡ v.put) × (gots_of moves ≡ v.got) × (v.since ≡ v.opening)
