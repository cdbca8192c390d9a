-- What a node makes of the lanes of its children over a stretch.
use Rattle.std.specs.Prelude.{◌≡◌, ◌<◌, ◌≤◌, ◌+ℤ◌, Bool, true, false, Option, Some, None, List, [], ◌∷◌, Vec, ℕ, suc, ℤ, pos, is_some, length, map, nat_lt, replicate, slice_get, take, if◌then◌else◌}
use Rattle.std.specs.declared.alloc.Global.{Global}
use Rattle.std.specs.Option.{option_map_or}
use Rattle.std.specs.List.{range_with_len}
use Rattle.std.specs.Simd.Lanes.{zip2}
use Rattle.frame_core.specs.declared.cell.Cell.{Cell}
use Rattle.frame_core.specs.Slots.{Slot}
use Rattle.op_leaf.specs.Lanes.{IsLane}
use Rattle.sample_kernels.specs.Samples.{clamped, half_of, mean_of, scaled}
use Rattle.stream_meaning.specs.declared.part.Part.{Part}
use Rattle.stream_meaning.specs.Instants.{part_at}
use Rattle.stream_meaning.specs.Arithmetic.{Mixing, Adds, Scales, Halves, Doubles, Passes, cells_of, total_by}

-- For each node, by its number, its lane: a buffer in memory with its samples over a stretch of instants, on one side
-- (left or right).
abbrev pub Lanes : Type 0
Lanes = List (Vec ℤ Global)

-- The whole buffer of node i for its samples over a stretch of instants, on one side. It may be longer than the
-- stretch, and is empty where the node has none.
abbrev pub lane_at : Lanes → ℕ → List ℤ
lane_at lanes i = option_map_or (λ lane. lane.items) (slice_get lanes i) []

-- The buffer of node i, on one side, has room for its samples over any stretch of instants, which has at most 2048.
abbrev pub HasLane : Lanes → ℕ → Type 0
HasLane lanes i = 2048 ≤ length (lane_at lanes i)

-- The first `count` samples of a node's buffer `lane`, over a stretch of that many instants; silence where it is
-- shorter than the stretch.
abbrev pub heard_of : List ℤ → (count : ℕ) → List ℤ
heard_of lane count = if nat_lt (length lane) count then replicate count (pos 0) else take count lane

-- The samples of node i over the first `count` instants of a stretch, on one side; silence where it has no buffer for
-- them.
abbrev pub samples_of : Lanes → (i count : ℕ) → List ℤ
samples_of lanes i count = heard_of (lane_at lanes i) count

-- Whether node i offers a cell (a pair of samples), by what each node did at one instant.
abbrev pub offers_in : List Part → ℕ → Bool
offers_in parts i = is_some (part_at parts i).slot

-- What a mixer needs of its child over a stretch of `count` instants. `slots j` has what each node offers at instant j.
-- If the child gives, by `gives`, it goes on within a track, with the left and right samples that `lefts` and `rights`
-- have of it. If not, it offers nothing at any of these instants.
pub record IsHeard (slots : ℕ → ℕ → Slot) (gives : ℕ → Bool) (lefts rights : ℕ
    → List ℤ) (count child : ℕ) : Type 0 where
  pub given : gives child ≡ true → IsLane (λ j. slots j child) count (lefts child) (rights child)
  pub silent : gives child ≡ false → (j : ℕ) → j < count → slots j child ≡ None

-- What a mixer needs of its children over a stretch of `count` instants. `slots j` has what each node offers at instant
-- j. Each child that gives, by `gives`, goes on within a track, with the samples that `lefts` and `rights` have of it.
-- Each other offers nothing at any of these instants.
abbrev pub AreHeard : (slots : ℕ → ℕ → Slot) → (gives : ℕ → Bool) → (lefts rights : ℕ → List ℤ) → (count : ℕ)
    → (children : List ℕ) → Type 0
AreHeard slots gives lefts rights count [] = Unit {0}
AreHeard slots gives lefts rights count (child ∷ children) = IsHeard slots gives lefts rights count child
    × AreHeard slots gives lefts rights count children

-- For each of the first `count` instants of a stretch the sum of the samples of the cells that these children offer.
-- `side` takes the left or the right sample of a cell, and `slots j` has what each node offers at instant j.
abbrev pub sums_of : (Cell → ℤ) → (slots : ℕ → ℕ → Slot) → (count : ℕ) → (children : List ℕ) → List ℤ
sums_of side slots count children = map (λ j. total_by side (cells_of (map (slots j) children)))
    (range_with_len 0 count)

-- The sums of one side over a stretch, one for each instant, to which the samples of further children are added. Only
-- those that give, by `gives`, are added, and `lanes` has the samples of each node over the stretch.
abbrev pub summed_lanes : (gives : ℕ → Bool) → (lanes : ℕ → List ℤ) → (sums : List ℤ) → (children : List ℕ) → List ℤ
summed_lanes gives lanes sums [] = sums
summed_lanes gives lanes sums (child ∷ children) = summed_lanes gives lanes (if gives child
    then zip2 ◌+ℤ◌ sums (lanes child) else sums) children

-- How many of these children give a cell, by `gives`, which says it of each node.
abbrev pub many_give : (ℕ → Bool) → List ℕ → ℕ
many_give gives [] = 0
many_give gives (child ∷ children) = if gives child then suc (many_give gives children) else many_give gives children

-- The first of these children that gives a cell, by `gives`, which says it of each node; `None` where none does.
abbrev pub first_that_gives : (ℕ → Bool) → List ℕ → Option ℕ
first_that_gives gives [] = None
first_that_gives gives (child ∷ children) = if gives child then Some child else first_that_gives gives children

-- The samples of an `add` of `parts` children over a stretch, from the sum at each instant: the mean where it is
-- normalized (`true`), or else the sum cut to the range of a sample.
abbrev pub levels_of : Bool → ℕ → List ℤ → List ℤ
levels_of true parts sums = zip2 mean_of sums (replicate (length sums) parts)
levels_of false parts sums = map clamped sums

-- The left samples of a node that changes one child, from the `left` and `right` samples of that child over a stretch:
-- times a factor, the mean of both sides, or as they are.
abbrev pub changed_left : Mixing → List ℤ → List ℤ → List ℤ
changed_left (Adds normalize) left right = left
changed_left (Scales millionths) left right = map (scaled millionths) left
changed_left Halves left right = zip2 half_of left right
changed_left Doubles left right = left
changed_left Passes left right = left

-- The right samples of a node that changes one child, from the `left` and `right` samples of that child over a stretch:
-- times a factor, zeros for a mono result, the left ones, or as they are.
abbrev pub changed_right : Mixing → List ℤ → List ℤ → List ℤ
changed_right (Adds normalize) left right = right
changed_right (Scales millionths) left right = map (scaled millionths) right
changed_right Halves left right = replicate (length left) (pos 0)
changed_right Doubles left right = left
changed_right Passes left right = right
