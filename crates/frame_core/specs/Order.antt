-- The accepted puts and the items got of a bounded queue in one order, with the number of items that each left, and
-- the answers of each end.
use Rattle.std.specs.Prelude.{◌≡◌, ℕ, ◌<◌, Bool, true, false, List, [], ◌∷◌, ◌++◌, length, map, drop, Option, Some, None}

-- a move of a queue: an item that was put or got, and how many items the queue held afterwards
pub data Move (X : Type 0) : Type 0 where
  Put : X → ℕ → Move X
  Got : X → ℕ → Move X

-- the items that these moves of a queue put, each with how many items the queue held afterwards
abbrev pub puts_of : {X : Type 0} → List (Move X) → List (X × ℕ)
puts_of [] = []
puts_of (Put x left ∷ moves) = (x, left) ∷ puts_of moves
puts_of (Got x left ∷ moves) = puts_of moves

-- the items that these moves of a queue got, each with how many items the queue held afterwards
abbrev pub gots_of : {X : Type 0} → List (Move X) → List (X × ℕ)
gots_of [] = []
gots_of (Put x left ∷ moves) = gots_of moves
gots_of (Got x left ∷ moves) = (x, left) ∷ gots_of moves

-- these moves are possible one after another on a queue: from the items `queue` they lead to `rest`, items come out as
-- they went in, and never more than `capacity` are held
abbrev pub Ordered : {X : Type 0} → ℕ → List X → List (Move X) → List X → Type 0
Ordered capacity queue [] rest = queue ≡ rest
Ordered capacity queue (Put x left ∷ moves) rest =
    (length queue < capacity) × (left ≡ length (queue ++ x ∷ [])) × Ordered capacity (queue ++ x ∷ []) moves rest
Ordered {X} capacity queue (Got x left ∷ moves) rest =
    (behind : List X) × (queue ≡ x ∷ behind) × (left ≡ length behind) × Ordered capacity behind moves rest

-- how many items the last of these moves left in the queue, or `before` without a move
abbrev pub last_or : {X : Type 0} → ℕ → List (X × ℕ) → ℕ
last_or before [] = before
last_or before (move ∷ moves) = last_or move.1 moves

-- One end's answers fit its moves, each an item with how many the queue held afterwards: true answers are the moves in
-- order. A false one stands where the last count was `stop`, the capacity for puts and 0 for takes. `before` is the
-- first count.
abbrev pub Fits : {X : Type 0} → ℕ → ℕ → List Bool → List (X × ℕ) → Type 0
Fits stop before [] [] = Unit {0}
Fits stop before [] (move ∷ moves) = ⊥
Fits stop before (true ∷ answers) [] = ⊥
Fits stop before (true ∷ answers) (move ∷ moves) = Fits stop move.1 answers moves
Fits stop before (false ∷ answers) moves = (before ≡ stop) × Fits stop before answers moves

-- one end's answers with their items: that of the next move for a true answer, and none for a false one
abbrev pub answers_of : {X : Type 0} → List Bool → List (X × ℕ) → List (Option X)
answers_of [] moves = []
answers_of (false ∷ answers) moves = None ∷ answers_of answers moves
answers_of (true ∷ answers) [] = []
answers_of (true ∷ answers) (move ∷ moves) = Some move.0 ∷ answers_of answers moves

-- the items that a queue holds in the end, if it began with the items `queue` and had these puts and gets
abbrev pub left_by : {X : Type 0} → List X → List (X × ℕ) → List (X × ℕ) → List X
left_by queue puts gots = drop (length gots) (queue ++ map (λ move. move.0) puts)
