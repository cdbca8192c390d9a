-- What a clause sees of a queue and of its ends: which queue it is, and the window that is open.
use Rattle.std.specs.Prelude.{◌≡◌, ℕ, ◌+◌, ◌≤◌, Bool, true, false, List, [], ◌∷◌, ◌++◌, length, Option, Some, None, refl}
use Rattle.std.specs.Coded.{Coded, code_by, coded×, coded_ℕ, coded_list, coded_option}
use Rattle.atomic_table.specs.Seated.{TableId, table_id_coded}
use Rattle.frame_core.specs.Coded.{cell_coded}
use Rattle.frame_core.specs.declared.cell.Cell.{Cell}
use Rattle.frame_core.specs.declared.chunk.Gave.{Gave}
use Rattle.frame_core.specs.declared.chunk.Gave.TheVariants.{Accepted, Full}
use Rattle.frame_core.specs.Frames.{somes}
use Rattle.frame_core.specs.Legal.{Legal}

-- The window of one end: of which queue, the chunks with which it opened, how many chunks the last move of this end
-- left in the queue, or else the opening, and the answers so far, each a chunk that was moved or None.
pub record Window : Type 0 where
  pub queue : TableId
  pub opening : List (List Cell)
  pub left : ℕ
  pub answers : List (Option (List Cell))

-- a code of windows as numbers, by nested pairs: it shows that two windows with one code are equal
abbrev pub window_coded : Coded Window
window_coded =
    code_by (TableId × (List (List Cell) × (ℕ × List (Option (List Cell)))))
    (coded× table_id_coded (coded× (coded_list (coded_list cell_coded))
    (coded× coded_ℕ (coded_list (coded_option (coded_list cell_coded))))))
    (λ w. (w.queue, (w.opening, (w.left, w.answers)))) (λ p. record {
      queue = p.0;
      opening = p.1.0;
      left = p.1.1.0;
      answers = p.1.1.1;
    }) (λ _. refl)

-- how many chunks a queue may hold
abbrev pub capacity_of : TableId → ℕ
capacity_of queue = queue.slots

-- an end whose window has just opened with these chunks
abbrev pub opened : TableId → List (List Cell) → Window
opened queue chunks = record { queue = queue; opening = chunks; left = length chunks; answers = [] }

-- whether an answer moved a chunk
abbrev pub is_chunk : Option (List Cell) → Bool
is_chunk (Some chunk) = true
is_chunk None = false

-- the window of an end before and after an answer that moved this chunk
pub record Moves (before : Window) (chunk : List Cell) (after : Window) : Type 0 where
  pub queue : after.queue ≡ before.queue
  pub opening : after.opening ≡ before.opening
  pub answers : after.answers ≡ before.answers ++ Some chunk ∷ []

-- the window of an end before and after an answer that moved nothing
pub record Stays (before after : Window) : Type 0 where
  pub queue : after.queue ≡ before.queue
  pub opening : after.opening ≡ before.opening
  pub left : after.left ≡ before.left
  pub answers : after.answers ≡ before.answers ++ None ∷ []

-- The queue was full: the last accepted put of the window, or its opening, left as many chunks as the capacity, and the
-- opening and the accepted chunks together are no fewer.
pub record IsFull (window : Window) : Type 0 where
  pub left : window.left ≡ capacity_of window.queue
  pub many : capacity_of window.queue ≤ length window.opening + length (somes window.answers)

-- The queue was empty: the last chunk got in the window, or its opening, left none, and every chunk of the opening was
-- got.
pub record IsEmpty (window : Window) : Type 0 where
  pub left : window.left ≡ 0
  pub taken : length window.opening ≤ length (somes window.answers)

-- what a put of this chunk answers, with the window of its end before and after it: accepted, and the chunk was moved,
-- or full, and the chunk comes back
abbrev pub Puts : Window → List Cell → Window → Gave → Type 0
Puts before chunk after Accepted = Moves before chunk after
Puts before chunk after (Full back) = (back ≡ chunk) × IsFull before × Stays before after

-- what a take answers, with the window of its end before and after it: a chunk, which was moved, or nothing, where the
-- queue was empty
abbrev pub Takes : Window → Window → Option (List Cell) → Type 0
Takes before after None = IsEmpty before × Stays before after
Takes before after (Some chunk) = Moves before chunk after

-- The windows of a queue's two ends, `put` and `take`, were closed: their answers are one legal window of the queue.
-- Both ends open the next window, `next_put` and `next_take`, with the chunks that are left; `queue` is of the same
-- capacity.
pub record Closes (put take : Window) (queue : TableId) (next_put next_take : Window) : Type 0 where
  pub rest : List (List Cell)
  pub legal : Legal (capacity_of put.queue) rest put.opening put.answers take.answers
  pub opening : take.opening ≡ put.opening
  pub puts_next : next_put ≡ opened queue rest
  pub takes_next : next_take ≡ opened queue rest
  pub capacity : capacity_of queue ≡ capacity_of put.queue
