-- What becomes of the three lanes of a ring.
use Rattle.std.proofs.Common.{◌≡◌, ◌≤◌, ◌+◌, ◌-◌, ◌∙◌, ◌++◌, ℕ, ℤ, List, length, take, drop, min, arith, ap, sym, append-nil}
use Rattle.std.proofs.lemmas.List.{drop_all, length-append}
use Rattle.circular_buffer.specs.Buffer.{Buffer, buffer, keep_last}
use Rattle.frame_core.specs.declared.cell.Cell.{Cell}
use Rattle.frame_core.specs.declared.cell.CellMark.{CellMark}
use Rattle.frame_core.specs.Chunks.{cells_in}
use Rattle.cell_ring.specs.Rings.{Ring}
use Rattle.frame_core.proofs.Chunks.{cells-append, cells-drop, length-cells}

-- the ring of three lanes
abbrev pub ring_of : Buffer ℤ → Buffer ℤ → Buffer CellMark → Ring
ring_of left right marks = record { cells = cells_in left.items right.items marks.items; room = marks.capacity }

pub ring_same : (left right : Buffer ℤ) (marks : Buffer CellMark) (xs ys : List ℤ) (ms : List CellMark) (a b room : ℕ)
    → left ≡ buffer xs a → right ≡ buffer ys b → marks ≡ buffer ms room → ring_of left right marks ≡ record { cells = cells_in xs ys ms; room = room }
ring_same left right marks xs ys ms a b room l r m =
    ap (λ x. ring_of x right marks) l ∙ ap (λ y. ring_of (buffer xs a) y marks) r ∙ ap (λ z. ring_of (buffer xs a) (buffer ys b) z) m

pub held : (left right : Buffer ℤ) (marks : Buffer CellMark) (ring : Ring) → length left.items ≡ length marks.items → length right.items ≡ length marks.items
    → ring_of left right marks ≡ ring → length ring.cells ≡ length marks.items
held left right marks ring l r is = sym (ap (λ (s : Ring). length s.cells) is) ∙ length-cells left.items right.items marks.items l r

-- a ring that holds all that was appended
pub keep_whole : {X : Type 0} (n : ℕ) (xs : List X) → length xs ≤ n → keep_last n xs ≡ xs
keep_whole n xs fits = let none : length xs - n ≡ 0 = omega (arith, fits) in ap (λ m. drop m xs) none

pub lane_more : {X : Type 0} (old now : Buffer X) (more : List X) → length old.items + length more ≤ old.capacity
    → now ≡ buffer (keep_last old.capacity (old.items ++ more)) old.capacity → now ≡ buffer (old.items ++ more) old.capacity
lane_more old now more fits is =
    is ∙ ap (λ l. buffer l old.capacity) (keep_whole old.capacity (old.items ++ more) (omega (arith, length-append old.items more, fits)))

-- cells are appended
pub more_cells : (left right new_left new_right : Buffer ℤ) (marks new_marks : Buffer CellMark) (xs ys : List ℤ) (ms : List CellMark) (cells : List Cell) (ring : Ring)
    → length left.items ≡ length marks.items → length right.items ≡ length marks.items → ring_of left right marks ≡ ring → cells_in xs ys ms ≡ cells
    → new_left ≡ buffer (left.items ++ xs) left.capacity → new_right ≡ buffer (right.items ++ ys) right.capacity → new_marks ≡ buffer (marks.items ++ ms) marks.capacity
    → ring_of new_left new_right new_marks ≡ record { cells = ring.cells ++ cells; room = ring.room }
more_cells left right new_left new_right marks new_marks xs ys ms cells ring l r is made nl nr nm =
    ring_same new_left new_right new_marks (left.items ++ xs) (right.items ++ ys) (marks.items ++ ms) left.capacity right.capacity marks.capacity nl nr nm
    ∙ ap (λ cs. record { cells = cs; room = marks.capacity }) (cells-append left.items right.items marks.items xs ys ms l r)
    ∙ ap (λ cs. record { cells = cells_in left.items right.items marks.items ++ cs; room = marks.capacity }) made
    ∙ ap (λ (s : Ring). record { cells = s.cells ++ cells; room = s.room }) is

-- cells are gone
pub less_cells : (left right new_left new_right : Buffer ℤ) (marks new_marks : Buffer CellMark) (n : ℕ) (ring : Ring)
    → length left.items ≡ length marks.items → length right.items ≡ length marks.items → ring_of left right marks ≡ ring
    → new_left ≡ buffer (drop n left.items) left.capacity → new_right ≡ buffer (drop n right.items) right.capacity → new_marks ≡ buffer (drop n marks.items) marks.capacity
    → ring_of new_left new_right new_marks ≡ record { cells = drop n ring.cells; room = ring.room }
less_cells left right new_left new_right marks new_marks n ring l r is nl nr nm =
    ring_same new_left new_right new_marks (drop n left.items) (drop n right.items) (drop n marks.items) left.capacity right.capacity marks.capacity nl nr nm
    ∙ ap (λ cs. record { cells = cs; room = marks.capacity }) (cells-drop n left.items right.items marks.items l r)
    ∙ ap (λ (s : Ring). record { cells = drop n s.cells; room = s.room }) is

-- a lane is read into a slice
pub read_all : (m : ℕ) (xs old now : List ℤ) → m ≡ min (length old) (length xs) → length old ≤ length xs → now ≡ take m xs ++ drop m old → now ≡ take (length old) xs
read_all m xs old now least fits is =
    let all : m ≡ length old = omega (arith, least, fits) in
    is ∙ ap (λ n. take n xs ++ drop n old) all ∙ ap (λ l. take (length old) xs ++ l) (drop_all (length old) old (omega arith)) ∙ append-nil (take (length old) xs)

pub read_rest : (m : ℕ) (lane now : Buffer ℤ) (old : List ℤ) (n : ℕ) → m ≡ min (length old) (length lane.items) → length old ≡ n → n ≤ length lane.items
    → now ≡ buffer (drop m lane.items) lane.capacity → now ≡ buffer (drop n lane.items) lane.capacity
read_rest m lane now old n least long fits is =
    let all : m ≡ n = omega (arith, least, long, fits) in
    is ∙ ap (λ k. buffer (drop k lane.items) lane.capacity) all
