-- Kernels over lanes make the lanes of mixes.
use Rattle.std.proofs.Common.{◌≡◌, ◌<◌, ◌∙◌, ◌++◌, ℕ, ℤ, suc, Bool, true, false, not, pos, ◌+ℤ◌, Some, None, List, [], ◌∷◌, cond, length, map, replicate, arith, refl, ap, sym, subst}
use Rattle.std.specs.List.{range_with_len}
use Rattle.std.specs.Simd.Lanes.{zip2}
use Rattle.std.proofs.lemmas.Bool.{false≢true}
use Rattle.std.proofs.lemmas.List.{map-append, append-nil}
use Rattle.std.proofs.lemmas.Simd.{map-map, zip2_of_maps, zip2_splat}
use Rattle.frame_core.specs.declared.cell.Cell.{Cell}
use Rattle.frame_core.specs.Slots.{Slot, is_inner, slot_left, slot_right}
use Rattle.sample_kernels.specs.Samples.{clamped, half_of, mean_of, scaled}
use Rattle.op_leaf.specs.Inner.{lefts_of}
use Rattle.op_leaf.specs.Lanes.{IsLane}
use Rattle.op_leaf.proofs.Laid.{each_same, inner_is}
use Rattle.stream_meaning.specs.Arithmetic.{Mixing, Adds, Scales, Halves, Doubles, Passes, cells_of, changed_slot, levelled, mix_slot, total_by, summed_slot}
use Rattle.op_mix.specs.Stretches.{AreHeard, IsHeard, changed_left, changed_right, first_that_gives, levels_of, many_give, sums_of}
use Rattle.op_mix.proofs.CellSums.{cells_of-append, sum_of-more}

-- ---- a sum, one child more

cells_more : (slots : ℕ → Slot) (children : List ℕ) (child : ℕ) → cells_of (map slots (children ++ child ∷ [])) ≡ cells_of (map slots children) ++ cells_of (slots child ∷ [])
cells_more slots children child = ap cells_of (map-append slots children (child ∷ [])) ∙ cells_of-append (map slots children) (slots child ∷ [])

sum_by : (side : Cell → ℤ) (of_slot : Slot → ℤ) → ((cell : Cell) → of_slot (Some cell) ≡ side cell) → (slot : Slot) → is_inner slot ≡ true → (cells : List Cell)
    → total_by side cells +ℤ of_slot slot ≡ total_by side (cells ++ cells_of (slot ∷ []))
sum_by side of_slot same None e cells = absurd (false≢true e)
sum_by side of_slot same (Some cell) e cells = ap (λ x. total_by side cells +ℤ x) (same cell) ∙ sym (sum_of-more side cells cell)

sum_with : (side : Cell → ℤ) (of_slot : Slot → ℤ) → ((cell : Cell) → of_slot (Some cell) ≡ side cell) → (slots : ℕ → ℕ → Slot) (count : ℕ) (children : List ℕ) (child : ℕ) (sums lane : List ℤ)
    → sums ≡ sums_of side slots count children → lane ≡ map (λ j. of_slot (slots j child)) (range_with_len 0 count)
    → ((j : ℕ) → j < count → is_inner (slots j child) ≡ true) → zip2 ◌+ℤ◌ sums lane ≡ sums_of side slots count (children ++ child ∷ [])
sum_with side of_slot same slots count children child sums lane sums_are lane_is inner =
    zip2_of_maps ◌+ℤ◌ (λ j. total_by side (cells_of (map (slots j) children))) (λ j. of_slot (slots j child)) (range_with_len 0 count) sums_are lane_is
    ∙ each_same (λ j. total_by side (cells_of (map (slots j) children)) +ℤ of_slot (slots j child)) (λ j. total_by side (cells_of (map (slots j) (children ++ child ∷ [])))) count
    (λ j low. sum_by side of_slot same (slots j child) (inner j low) (cells_of (map (slots j) children)) ∙ sym (ap (total_by side) (cells_more (slots j) children child)))

-- a child that gives: `add_into`
pub lefts_with : (slots : ℕ → ℕ → Slot) (count : ℕ) (children : List ℕ) (child : ℕ) (sums left right : List ℤ) → sums ≡ sums_of (λ cell. cell.left) slots count children
    → IsLane (λ j. slots j child) count left right → zip2 ◌+ℤ◌ sums left ≡ sums_of (λ cell. cell.left) slots count (children ++ child ∷ [])
lefts_with slots count children child sums left right sums_are lane =
    sum_with (λ cell. cell.left) slot_left (λ cell. refl) slots count children child sums left sums_are lane.left_is lane.inner

pub rights_with : (slots : ℕ → ℕ → Slot) (count : ℕ) (children : List ℕ) (child : ℕ) (sums left right : List ℤ) → sums ≡ sums_of (λ cell. cell.right) slots count children
    → IsLane (λ j. slots j child) count left right → zip2 ◌+ℤ◌ sums right ≡ sums_of (λ cell. cell.right) slots count (children ++ child ∷ [])
rights_with slots count children child sums left right sums_are lane =
    sum_with (λ cell. cell.right) slot_right (λ cell. refl) slots count children child sums right sums_are lane.right_is lane.inner

-- one that does not
pub sums_without : (side : Cell → ℤ) (slots : ℕ → ℕ → Slot) (count : ℕ) (children : List ℕ) (child : ℕ) → ((j : ℕ) → j < count → slots j child ≡ None)
    → sums_of side slots count children ≡ sums_of side slots count (children ++ child ∷ [])
sums_without side slots count children child silent =
    each_same (λ j. total_by side (cells_of (map (slots j) children))) (λ j. total_by side (cells_of (map (slots j) (children ++ child ∷ [])))) count
    (λ j low. sym (ap (total_by side) (cells_more (slots j) children child
    ∙ ap (λ (slot : Slot). cells_of (map (slots j) children) ++ cells_of (slot ∷ [])) (silent j low) ∙ append-nil (cells_of (map (slots j) children)))))

-- ---- its children's cells at one instant

give_by : (slots : ℕ → ℕ → Slot) (gives : ℕ → Bool) (lefts rights : ℕ → List ℤ) (count child j : ℕ) → j < count → IsHeard slots gives lefts rights count child
    → (now : Bool) → gives child ≡ now → (n : ℕ) (children : List ℕ) → length (cells_of (map (slots j) children)) ≡ many_give gives children
    → length (cells_of (map (slots j) (child ∷ children))) ≡ many_give gives (child ∷ children)
give_by slots gives lefts rights count child j low heard true e n children rest =
    let cell_is = inner_is (slots j child) ((heard.given e).inner j low) in
    ap (λ (slot : Slot). length (cells_of (slot ∷ map (slots j) children))) (sym cell_is) ∙ ap suc rest ∙ rw e refl
give_by slots gives lefts rights count child j low heard false e n children rest =
    ap (λ (slot : Slot). length (cells_of (slot ∷ map (slots j) children))) (heard.silent e j low) ∙ rest ∙ rw e refl

-- as many cells as children give
pub as_many : (slots : ℕ → ℕ → Slot) (gives : ℕ → Bool) (lefts rights : ℕ → List ℤ) (count j : ℕ) → j < count → (children : List ℕ) → AreHeard slots gives lefts rights count children
    → length (cells_of (map (slots j) children)) ≡ many_give gives children
as_many slots gives lefts rights count j low [] heard = refl
as_many slots gives lefts rights count j low (child ∷ children) (here, heard) =
    give_by slots gives lefts rights count child j low here (gives child) refl 0 children (as_many slots gives lefts rights count j low children heard)

-- none of them begins a track
abbrev pub Begins : List Cell → Type 0
Begins [] = Unit {0}
Begins (cell ∷ cells) = (false ≡ cell.first) × Begins cells

no_begin : (slot : Slot) → is_inner slot ≡ true → (slots : List Slot) → Begins (cells_of slots) → Begins (cells_of (slot ∷ slots))
no_begin None e slots rest = absurd (false≢true e)
no_begin (Some cell) e slots rest = (unmarked cell.first e, rest)
  where
    unmarked : (first : Bool) → not first ≡ true → false ≡ first
    unmarked true f = absurd (false≢true f)
    unmarked false f = refl

begin_by : (slots : ℕ → ℕ → Slot) (gives : ℕ → Bool) (lefts rights : ℕ → List ℤ) (count child j : ℕ) → j < count → IsHeard slots gives lefts rights count child
    → (now : Bool) → gives child ≡ now → (children : List ℕ) → Begins (cells_of (map (slots j) children)) → Begins (cells_of (map (slots j) (child ∷ children)))
begin_by slots gives lefts rights count child j low heard true e children rest = no_begin (slots j child) ((heard.given e).inner j low) (map (slots j) children) rest
begin_by slots gives lefts rights count child j low heard false e children rest =
    subst (λ (slot : Slot). Begins (cells_of (slot ∷ map (slots j) children))) (sym (heard.silent e j low)) rest

pub none_begins : (slots : ℕ → ℕ → Slot) (gives : ℕ → Bool) (lefts rights : ℕ → List ℤ) (count j : ℕ) → j < count → (children : List ℕ) → AreHeard slots gives lefts rights count children
    → Begins (cells_of (map (slots j) children))
none_begins slots gives lefts rights count j low [] heard = tt
none_begins slots gives lefts rights count j low (child ∷ children) (here, heard) =
    begin_by slots gives lefts rights count child j low here (gives child) refl children (none_begins slots gives lefts rights count j low children heard)

-- ---- the lanes of sums

level_left : (normalize : Bool) (parts : ℕ) (cells : List Cell) → length cells ≡ parts → 0 < parts → levelled normalize parts (total_by (λ cell. cell.left) cells) ≡ slot_left (summed_slot normalize cells)
level_left normalize parts [] long some = absurd (omega (arith, long, some))
level_left normalize parts (cell ∷ cells) long some = ap (λ n. levelled normalize n (total_by (λ c. c.left) (cell ∷ cells))) (sym long)

level_right : (normalize : Bool) (parts : ℕ) (cells : List Cell) → length cells ≡ parts → 0 < parts → levelled normalize parts (total_by (λ cell. cell.right) cells) ≡ slot_right (summed_slot normalize cells)
level_right normalize parts [] long some = absurd (omega (arith, long, some))
level_right normalize parts (cell ∷ cells) long some = ap (λ n. levelled normalize n (total_by (λ c. c.right) (cell ∷ cells))) (sym long)

level_inner : (normalize : Bool) (parts : ℕ) (cells : List Cell) → length cells ≡ parts → 0 < parts → Begins cells → is_inner (summed_slot normalize cells) ≡ true
level_inner normalize parts [] long some begins = absurd (omega (arith, long, some))
level_inner normalize parts (cell ∷ cells) long some (begins, rest) = ap not (sym begins)

levels_are : (normalize : Bool) (parts count : ℕ) (sums : ℕ → ℤ) → levels_of normalize parts (map sums (range_with_len 0 count)) ≡ map (λ j. levelled normalize parts (sums j)) (range_with_len 0 count)
levels_are true parts count sums =
    zip2_splat mean_of (map sums (range_with_len 0 count)) (length (map sums (range_with_len 0 count))) parts refl
    ∙ map-map (λ sum. mean_of sum parts) sums (range_with_len 0 count)
levels_are false parts count sums = map-map clamped sums (range_with_len 0 count)

-- what `divide` makes of the sums of both sides where it is normalized, else `clamp_all`
pub sum_lane : (slots : ℕ → ℕ → Slot) (gives : ℕ → Bool) (lefts rights : ℕ → List ℤ) (count : ℕ) (children : List ℕ) (normalize : Bool) (left right : List ℤ)
    → AreHeard slots gives lefts rights count children → 0 < many_give gives children
    → left ≡ sums_of (λ cell. cell.left) slots count children → right ≡ sums_of (λ cell. cell.right) slots count children
    → IsLane (λ j. mix_slot (Adds normalize) (map (slots j) children)) count (levels_of normalize (many_give gives children) left) (levels_of normalize (many_give gives children) right)
sum_lane slots gives lefts rights count children normalize left right heard some left_is right_is = record {
  left_is = ap (levels_of normalize (many_give gives children)) left_is
      ∙ levels_are normalize (many_give gives children) count (λ j. total_by (λ cell. cell.left) (cells_of (map (slots j) children)))
      ∙ each_same (λ j. levelled normalize (many_give gives children) (total_by (λ cell. cell.left) (cells_of (map (slots j) children))))
      (λ j. slot_left (summed_slot normalize (cells_of (map (slots j) children)))) count
      (λ j low. level_left normalize (many_give gives children) (cells_of (map (slots j) children)) (as_many slots gives lefts rights count j low children heard) some);
  right_is = ap (levels_of normalize (many_give gives children)) right_is
      ∙ levels_are normalize (many_give gives children) count (λ j. total_by (λ cell. cell.right) (cells_of (map (slots j) children)))
      ∙ each_same (λ j. levelled normalize (many_give gives children) (total_by (λ cell. cell.right) (cells_of (map (slots j) children))))
      (λ j. slot_right (summed_slot normalize (cells_of (map (slots j) children)))) count
      (λ j low. level_right normalize (many_give gives children) (cells_of (map (slots j) children)) (as_many slots gives lefts rights count j low children heard) some);
  inner = λ j low. level_inner normalize (many_give gives children) (cells_of (map (slots j) children)) (as_many slots gives lefts rights count j low children heard) some
      (none_begins slots gives lefts rights count j low children heard);
}

-- ---- the lanes of what changes one child

front_by : (slots : ℕ → ℕ → Slot) (gives : ℕ → Bool) (lefts rights : ℕ → List ℤ) (count child j : ℕ) → j < count → IsHeard slots gives lefts rights count child
    → (now : Bool) → gives child ≡ now → (children : List ℕ) (first : ℕ) → (cond now (Some child) (first_that_gives gives children)) ≡ Some first
    → (first_that_gives gives children ≡ Some first → (mixing : Mixing) → changed_slot mixing (cells_of (map (slots j) children)) ≡ changed_slot mixing (cells_of (slots j first ∷ [])))
    → (mixing : Mixing) → changed_slot mixing (cells_of (map (slots j) (child ∷ children))) ≡ changed_slot mixing (cells_of (slots j first ∷ []))
front_by slots gives lefts rights count child j low heard true e children first is rest mixing =
    let same : child ≡ first = cc in
    let cell_is = inner_is (slots j child) ((heard.given e).inner j low) in
    ap (λ (slot : Slot). changed_slot mixing (cells_of (slot ∷ map (slots j) children))) (sym cell_is)
    ∙ ap (λ (slot : Slot). changed_slot mixing (cells_of (slot ∷ []))) cell_is
    ∙ ap (λ c. changed_slot mixing (cells_of (slots j c ∷ []))) same
front_by slots gives lefts rights count child j low heard false e children first is rest mixing =
    ap (λ (slot : Slot). changed_slot mixing (cells_of (slot ∷ map (slots j) children))) (heard.silent e j low) ∙ rest is mixing

-- what is offered is made of the first child that gives
pub front_is : (slots : ℕ → ℕ → Slot) (gives : ℕ → Bool) (lefts rights : ℕ → List ℤ) (count j : ℕ) → j < count → (children : List ℕ) (first : ℕ) → AreHeard slots gives lefts rights count children
    → first_that_gives gives children ≡ Some first → (mixing : Mixing) → changed_slot mixing (cells_of (map (slots j) children)) ≡ changed_slot mixing (cells_of (slots j first ∷ []))
front_is slots gives lefts rights count j low [] first heard is mixing = cc
front_is slots gives lefts rights count j low (child ∷ children) first (here, heard) is mixing =
    front_by slots gives lefts rights count child j low here (gives child) refl children first is
    (λ at m. front_is slots gives lefts rights count j low children first heard at m) mixing

-- it gives, and is heard
first_by : (slots : ℕ → ℕ → Slot) (gives : ℕ → Bool) (lefts rights : ℕ → List ℤ) (count child : ℕ) → IsHeard slots gives lefts rights count child
    → (now : Bool) → gives child ≡ now → (children : List ℕ) (first : ℕ) → (cond now (Some child) (first_that_gives gives children)) ≡ Some first
    → (first_that_gives gives children ≡ Some first → IsLane (λ j. slots j first) count (lefts first) (rights first)) → IsLane (λ j. slots j first) count (lefts first) (rights first)
first_by slots gives lefts rights count child heard true e children first is rest =
    let same : child ≡ first = cc in subst (λ c. IsLane (λ j. slots j c) count (lefts c) (rights c)) same (heard.given e)
first_by slots gives lefts rights count child heard false e children first is rest = rest is

pub first_lane : (slots : ℕ → ℕ → Slot) (gives : ℕ → Bool) (lefts rights : ℕ → List ℤ) (count : ℕ) (children : List ℕ) (first : ℕ) → AreHeard slots gives lefts rights count children
    → first_that_gives gives children ≡ Some first → IsLane (λ j. slots j first) count (lefts first) (rights first)
first_lane slots gives lefts rights count [] first heard is = cc
first_lane slots gives lefts rights count (child ∷ children) first (here, heard) is =
    first_by slots gives lefts rights count child here (gives child) refl children first is (λ at. first_lane slots gives lefts rights count children first heard at)

abbrev one_left : Mixing → ℤ → ℤ → ℤ
one_left (Adds normalize) left right = left
one_left (Scales millionths) left right = scaled millionths left
one_left Halves left right = half_of left right
one_left Doubles left right = left
one_left Passes left right = left

abbrev one_right : Mixing → ℤ → ℤ → ℤ
one_right (Adds normalize) left right = right
one_right (Scales millionths) left right = scaled millionths right
one_right Halves left right = pos 0
one_right Doubles left right = left
one_right Passes left right = right

lefts_changed : (mixing : Mixing) (lefts rights : ℕ → ℤ) (places : List ℕ) → changed_left mixing (map lefts places) (map rights places) ≡ map (λ j. one_left mixing (lefts j) (rights j)) places
lefts_changed (Adds normalize) lefts rights places = refl
lefts_changed (Scales millionths) lefts rights places = map-map (scaled millionths) lefts places
lefts_changed Halves lefts rights places = zip2_of_maps half_of lefts rights places refl refl
lefts_changed Doubles lefts rights places = refl
lefts_changed Passes lefts rights places = refl

zeros : (lefts : ℕ → ℤ) (places : List ℕ) → replicate (length (map lefts places)) (pos 0) ≡ map (λ j. pos 0) places
zeros lefts [] = refl
zeros lefts (place ∷ places) = ap (λ l. pos 0 ∷ l) (zeros lefts places)

rights_changed : (mixing : Mixing) (lefts rights : ℕ → ℤ) (places : List ℕ) → changed_right mixing (map lefts places) (map rights places) ≡ map (λ j. one_right mixing (lefts j) (rights j)) places
rights_changed (Adds normalize) lefts rights places = refl
rights_changed (Scales millionths) lefts rights places = map-map (scaled millionths) rights places
rights_changed Halves lefts rights places = zeros lefts places
rights_changed Doubles lefts rights places = refl
rights_changed Passes lefts rights places = refl

left_at : (mixing : Mixing) (slot : Slot) → is_inner slot ≡ true → one_left mixing (slot_left slot) (slot_right slot) ≡ slot_left (changed_slot mixing (cells_of (slot ∷ [])))
left_at mixing None e = absurd (false≢true e)
left_at (Adds normalize) (Some cell) e = refl
left_at (Scales millionths) (Some cell) e = refl
left_at Halves (Some cell) e = refl
left_at Doubles (Some cell) e = refl
left_at Passes (Some cell) e = refl

right_at : (mixing : Mixing) (slot : Slot) → is_inner slot ≡ true → one_right mixing (slot_left slot) (slot_right slot) ≡ slot_right (changed_slot mixing (cells_of (slot ∷ [])))
right_at mixing None e = absurd (false≢true e)
right_at (Adds normalize) (Some cell) e = refl
right_at (Scales millionths) (Some cell) e = refl
right_at Halves (Some cell) e = refl
right_at Doubles (Some cell) e = refl
right_at Passes (Some cell) e = refl

inner_at : (mixing : Mixing) (slot : Slot) → is_inner slot ≡ true → is_inner (changed_slot mixing (cells_of (slot ∷ []))) ≡ true
inner_at mixing None e = absurd (false≢true e)
inner_at (Adds normalize) (Some cell) e = e
inner_at (Scales millionths) (Some cell) e = e
inner_at Halves (Some cell) e = e
inner_at Doubles (Some cell) e = e
inner_at Passes (Some cell) e = e

-- what `scale`, `halves` or a copy makes of the lane of the first child that gives: at `Scales`, `Halves`, `Doubles` and `Passes`
-- this is `mix_slot`
pub changed_lane : (slots : ℕ → ℕ → Slot) (gives : ℕ → Bool) (lefts rights : ℕ → List ℤ) (count : ℕ) (children : List ℕ) (first : ℕ) (mixing : Mixing)
    → AreHeard slots gives lefts rights count children → first_that_gives gives children ≡ Some first
    → IsLane (λ j. changed_slot mixing (cells_of (map (slots j) children))) count (changed_left mixing (lefts first) (rights first)) (changed_right mixing (lefts first) (rights first))
changed_lane slots gives lefts rights count children first mixing heard is =
    let lane : IsLane (λ j. slots j first) count (lefts first) (rights first) = first_lane slots gives lefts rights count children first heard is in
    let front : (j : ℕ) → j < count → changed_slot mixing (cells_of (map (slots j) children)) ≡ changed_slot mixing (cells_of (slots j first ∷ [])) =
    λ j low. front_is slots gives lefts rights count j low children first heard is mixing in
    record {
      left_is = ap (λ l. changed_left mixing l (rights first)) lane.left_is ∙ ap (λ l. changed_left mixing (lefts_of (λ j. slots j first) 0 count) l) lane.right_is
          ∙ lefts_changed mixing (λ j. slot_left (slots j first)) (λ j. slot_right (slots j first)) (range_with_len 0 count)
          ∙ each_same (λ j. one_left mixing (slot_left (slots j first)) (slot_right (slots j first))) (λ j. slot_left (changed_slot mixing (cells_of (map (slots j) children)))) count
          (λ j low. left_at mixing (slots j first) (lane.inner j low) ∙ sym (ap slot_left (front j low)));
      right_is = ap (λ l. changed_right mixing l (rights first)) lane.left_is ∙ ap (λ l. changed_right mixing (lefts_of (λ j. slots j first) 0 count) l) lane.right_is
          ∙ rights_changed mixing (λ j. slot_left (slots j first)) (λ j. slot_right (slots j first)) (range_with_len 0 count)
          ∙ each_same (λ j. one_right mixing (slot_left (slots j first)) (slot_right (slots j first))) (λ j. slot_right (changed_slot mixing (cells_of (map (slots j) children)))) count
          (λ j low. right_at mixing (slots j first) (lane.inner j low) ∙ sym (ap slot_right (front j low)));
      inner = λ j low. ap is_inner (front j low) ∙ inner_at mixing (slots j first) (lane.inner j low);
    }
