-- The sums of lanes, one child at a time.
use Rattle.std.proofs.Common.{◌≡◌, ◌<◌, ◌≤◌, ◌+◌, ◌∙◌, ◌++◌, ℕ, ℤ, zero, suc, Bool, true, false, pos, ◌+ℤ◌, Some, List, [], ◌∷◌, All, cond, length, map, replicate, arith, refl, ap, sym, subst, append_assoc}
use Rattle.std.specs.List.{range_with_len}
use Rattle.std.specs.Simd.Lanes.{zip2}
use Rattle.std.proofs.lemmas.Int.{ints}
use Rattle.std.proofs.lemmas.List.Elements.{All-weaker}
use Rattle.std.proofs.lemmas.List.{append-nil}
use Rattle.frame_core.specs.declared.cell.Cell.{Cell}
use Rattle.frame_core.specs.Slots.{Slot}
use Rattle.op_leaf.specs.Lanes.{IsLane}
use Rattle.op_leaf.proofs.Laid.{lane_of_same}
use Rattle.sample_kernels.specs.Samples.{IsSumOf}
use Rattle.stream_meaning.specs.Arithmetic.{Adds, cells_of, changed_slot, mix_slot, total_by}
use Rattle.op_mix.specs.declared.mixer.Mixer.{Mixer}
use Rattle.op_mix.specs.declared.mixer.Mixer.TheVariants as variant
use Rattle.op_mix.specs.Mixings.{mixing_of}
use Rattle.op_mix.specs.Stretches.{AreHeard, IsHeard, changed_left, changed_right, first_that_gives, levels_of, many_give, summed_lanes, sums_of}
use Rattle.op_mix.proofs.Lanes.{changed_lane, lefts_with, rights_with, sum_lane, sums_without}

-- ---- one child more, behind the others

pub many_with : (gives : ℕ → Bool) (children : List ℕ) (child : ℕ) → gives child ≡ true → many_give gives (children ++ child ∷ []) ≡ suc (many_give gives children)
many_with gives [] child e = rw e refl
many_with gives (first ∷ children) child e = ap (λ n. cond (gives first) (suc n) n) (many_with gives children child e) ∙ by (gives first)
  where
    by : (now : Bool) → cond now (suc (suc (many_give gives children))) (suc (many_give gives children)) ≡ suc (cond now (suc (many_give gives children)) (many_give gives children))
    by true = refl
    by false = refl

pub many_without : (gives : ℕ → Bool) (children : List ℕ) (child : ℕ) → gives child ≡ false → many_give gives (children ++ child ∷ []) ≡ many_give gives children
many_without gives [] child e = rw e refl
many_without gives (first ∷ children) child e = ap (λ n. cond (gives first) (suc n) n) (many_without gives children child e)

pub many_few : (gives : ℕ → Bool) (children : List ℕ) → many_give gives children ≤ length children
many_few gives [] = omega arith
many_few gives (child ∷ children) = by (gives child) (many_few gives children)
  where
    by : (now : Bool) → many_give gives children ≤ length children → cond now (suc (many_give gives children)) (many_give gives children) ≤ suc (length children)
    by true few = omega (arith, few)
    by false few = omega (arith, few)

pub summed_with : (gives : ℕ → Bool) (lanes : ℕ → List ℤ) (sums : List ℤ) (children : List ℕ) (child : ℕ) → gives child ≡ true
    → summed_lanes gives lanes sums (children ++ child ∷ []) ≡ zip2 ◌+ℤ◌ (summed_lanes gives lanes sums children) (lanes child)
summed_with gives lanes sums [] child e = rw e refl
summed_with gives lanes sums (first ∷ children) child e = summed_with gives lanes (cond (gives first) (zip2 ◌+ℤ◌ sums (lanes first)) sums) children child e

pub summed_without : (gives : ℕ → Bool) (lanes : ℕ → List ℤ) (sums : List ℤ) (children : List ℕ) (child : ℕ) → gives child ≡ false
    → summed_lanes gives lanes sums (children ++ child ∷ []) ≡ summed_lanes gives lanes sums children
summed_without gives lanes sums [] child e = rw e refl
summed_without gives lanes sums (first ∷ children) child e = summed_without gives lanes (cond (gives first) (zip2 ◌+ℤ◌ sums (lanes first)) sums) children child e

-- so far the sums of these children's lanes, and how many they are
pub record Added (gives : ℕ → Bool) (lanes : ℕ → List ℤ) (room : ℕ) (children : List ℕ) (count : ℕ) (sums : List ℤ) : Type 0 where
  pub count_is : count ≡ many_give gives children
  pub sums_are : sums ≡ summed_lanes gives lanes (replicate room (pos 0)) children
  pub fit : All (IsSumOf count) sums

-- there is room for one more
pub room_for : (count : ℕ) (sums : List ℤ) → count ≤ 65535 → All (IsSumOf count) sums → All (IsSumOf 65535) sums
room_for count sums few = All-weaker (IsSumOf count) (IsSumOf 65535)
    (λ sum is. let low = is.low in let high = is.high in record { low = omega (arith, ints, low, few); high = omega (arith, ints, high, few) }) sums

pub one_added : (gives : ℕ → Bool) (lanes : ℕ → List ℤ) (room : ℕ) (children : List ℕ) (child count : ℕ) (sums lane new : List ℤ) → Added gives lanes room children count sums
    → gives child ≡ true → lane ≡ lanes child → new ≡ zip2 ◌+ℤ◌ sums lane → All (IsSumOf (count + 1)) new → Added gives lanes room (children ++ child ∷ []) (count + 1) new
one_added gives lanes room children child count sums lane new so_far e is made fit = record {
  count_is = (let many = many_with gives children child e in let was = so_far.count_is in omega (arith, many, was));
  sums_are = made ∙ ap (λ l. zip2 ◌+ℤ◌ l lane) so_far.sums_are ∙ ap (zip2 ◌+ℤ◌ (summed_lanes gives lanes (replicate room (pos 0)) children)) is
      ∙ sym (summed_with gives lanes (replicate room (pos 0)) children child e);
  fit = fit;
}

pub passed_over : (gives : ℕ → Bool) (lanes : ℕ → List ℤ) (room : ℕ) (children : List ℕ) (child count : ℕ) (sums : List ℤ) → Added gives lanes room children count sums
    → gives child ≡ false → Added gives lanes room (children ++ child ∷ []) count sums
passed_over gives lanes room children child count sums so_far e = record {
  count_is = so_far.count_is ∙ sym (many_without gives children child e);
  sums_are = so_far.sums_are ∙ sym (summed_without gives lanes (replicate room (pos 0)) children child e);
  fit = so_far.fit;
}

-- ---- over lanes that are heard

zeros_are : (side : Cell → ℤ) (slots : ℕ → ℕ → Slot) (at count : ℕ) → replicate count (pos 0) ≡ map (λ j. total_by side (cells_of (map (slots j) []))) (range_with_len at count)
zeros_are side slots at zero = refl
zeros_are side slots at (suc count) = ap (λ sums. pos 0 ∷ sums) (zeros_are side slots (at + 1) count)

left_step : (slots : ℕ → ℕ → Slot) (gives : ℕ → Bool) (lefts rights : ℕ → List ℤ) (count child : ℕ) (before : List ℕ) (sums : List ℤ) → IsHeard slots gives lefts rights count child
    → sums ≡ sums_of (λ cell. cell.left) slots count before → (now : Bool) → gives child ≡ now
    → cond now (zip2 ◌+ℤ◌ sums (lefts child)) sums ≡ sums_of (λ cell. cell.left) slots count (before ++ child ∷ [])
left_step slots gives lefts rights count child before sums heard are true e = lefts_with slots count before child sums (lefts child) (rights child) are (heard.given e)
left_step slots gives lefts rights count child before sums heard are false e = are ∙ sums_without (λ cell. cell.left) slots count before child (heard.silent e)

right_step : (slots : ℕ → ℕ → Slot) (gives : ℕ → Bool) (lefts rights : ℕ → List ℤ) (count child : ℕ) (before : List ℕ) (sums : List ℤ) → IsHeard slots gives lefts rights count child
    → sums ≡ sums_of (λ cell. cell.right) slots count before → (now : Bool) → gives child ≡ now
    → cond now (zip2 ◌+ℤ◌ sums (rights child)) sums ≡ sums_of (λ cell. cell.right) slots count (before ++ child ∷ [])
right_step slots gives lefts rights count child before sums heard are true e = rights_with slots count before child sums (lefts child) (rights child) are (heard.given e)
right_step slots gives lefts rights count child before sums heard are false e = are ∙ sums_without (λ cell. cell.right) slots count before child (heard.silent e)

lefts_summed : (slots : ℕ → ℕ → Slot) (gives : ℕ → Bool) (lefts rights : ℕ → List ℤ) (count : ℕ) (before children : List ℕ) (sums : List ℤ)
    → sums ≡ sums_of (λ cell. cell.left) slots count before → AreHeard slots gives lefts rights count children
    → summed_lanes gives lefts sums children ≡ sums_of (λ cell. cell.left) slots count (before ++ children)
lefts_summed slots gives lefts rights count before [] sums are heard = are ∙ ap (sums_of (λ cell. cell.left) slots count) (sym (append-nil before))
lefts_summed slots gives lefts rights count before (child ∷ children) sums are (here, heard) =
    lefts_summed slots gives lefts rights count (before ++ child ∷ []) children (cond (gives child) (zip2 ◌+ℤ◌ sums (lefts child)) sums)
    (left_step slots gives lefts rights count child before sums here are (gives child) refl) heard
    ∙ ap (sums_of (λ cell. cell.left) slots count) (append_assoc before (child ∷ []) children)

rights_summed : (slots : ℕ → ℕ → Slot) (gives : ℕ → Bool) (lefts rights : ℕ → List ℤ) (count : ℕ) (before children : List ℕ) (sums : List ℤ)
    → sums ≡ sums_of (λ cell. cell.right) slots count before → AreHeard slots gives lefts rights count children
    → summed_lanes gives rights sums children ≡ sums_of (λ cell. cell.right) slots count (before ++ children)
rights_summed slots gives lefts rights count before [] sums are heard = are ∙ ap (sums_of (λ cell. cell.right) slots count) (sym (append-nil before))
rights_summed slots gives lefts rights count before (child ∷ children) sums are (here, heard) =
    rights_summed slots gives lefts rights count (before ++ child ∷ []) children (cond (gives child) (zip2 ◌+ℤ◌ sums (rights child)) sums)
    (right_step slots gives lefts rights count child before sums here are (gives child) refl) heard
    ∙ ap (sums_of (λ cell. cell.right) slots count) (append_assoc before (child ∷ []) children)

lane_made : (slots : ℕ → Slot) (count : ℕ) (left right l r : List ℤ) → left ≡ l → right ≡ r → IsLane slots count l r → IsLane slots count left right
lane_made slots count left right l r left_is right_is lane = record { left_is = left_is ∙ lane.left_is; right_is = right_is ∙ lane.right_is; inner = lane.inner }

-- the lane of a sum
pub summed_lane : (slots : ℕ → ℕ → Slot) (gives : ℕ → Bool) (lefts rights : ℕ → List ℤ) (count : ℕ) (children : List ℕ) (normalize : Bool) (left right : List ℤ)
    → AreHeard slots gives lefts rights count children → 0 < many_give gives children
    → left ≡ levels_of normalize (many_give gives children) (summed_lanes gives lefts (replicate count (pos 0)) children)
    → right ≡ levels_of normalize (many_give gives children) (summed_lanes gives rights (replicate count (pos 0)) children)
    → IsLane (λ j. mix_slot (Adds normalize) (map (slots j) children)) count left right
summed_lane slots gives lefts rights count children normalize left right heard some left_is right_is =
    lane_made (λ j. mix_slot (Adds normalize) (map (slots j) children)) count left right _ _ left_is right_is
    (sum_lane slots gives lefts rights count children normalize (summed_lanes gives lefts (replicate count (pos 0)) children) (summed_lanes gives rights (replicate count (pos 0)) children) heard some
    (lefts_summed slots gives lefts rights count [] children (replicate count (pos 0)) (zeros_are (λ cell. cell.left) slots 0 count) heard)
    (rights_summed slots gives lefts rights count [] children (replicate count (pos 0)) (zeros_are (λ cell. cell.right) slots 0 count) heard))

-- ---- the first child that gives

first_by : (gives : ℕ → Bool) (child : ℕ) (children : List ℕ) → (now : Bool) → 0 < cond now (suc (many_give gives children)) (many_give gives children)
    → (0 < many_give gives children → (first : ℕ) × (first_that_gives gives children ≡ Some first))
    → (first : ℕ) × (cond now (Some child) (first_that_gives gives children) ≡ Some first)
first_by gives child children true some rest = (child, refl)
first_by gives child children false some rest = rest some

pub first_is : (gives : ℕ → Bool) (children : List ℕ) → 0 < many_give gives children → (first : ℕ) × (first_that_gives gives children ≡ Some first)
first_is gives [] some = absurd (omega (arith, some))
first_is gives (child ∷ children) some = first_by gives child children (gives child) some (λ more. first_is gives children more)

holds_by : (P : ℕ → Type 0) (gives : ℕ → Bool) (child first : ℕ) (children : List ℕ) → P child → (now : Bool) → cond now (Some child) (first_that_gives gives children) ≡ Some first
    → (first_that_gives gives children ≡ Some first → P first) → P first
holds_by P gives child first children here true is rest = let same : child ≡ first = cc in subst P same here
holds_by P gives child first children here false is rest = rest is

pub first_holds : (P : ℕ → Type 0) (gives : ℕ → Bool) (children : List ℕ) (first : ℕ) → first_that_gives gives children ≡ Some first → All P children → P first
first_holds P gives [] first is all = cc
first_holds P gives (child ∷ children) first is all =
    holds_by P gives child first children (all 0 child (omega arith)) (gives child) is
    (λ at. first_holds P gives children first at (λ k d low. all (suc k) d (omega (arith, low))))

-- but for a sum, a node changes the first cell
pub changes : (mixer : Mixer) → ((normalize : Bool) → mixer ≡ variant.Adds normalize → ⊥) → (slots : List Slot) → mix_slot (mixing_of mixer) slots ≡ changed_slot (mixing_of mixer) (cells_of slots)
changes (variant.Adds normalize) not slots = absurd (not normalize refl)
changes (variant.Scales factor) not slots = refl
changes variant.Halves not slots = refl
changes variant.Doubles not slots = refl
changes variant.Passes not slots = refl

-- the lane of a node that changes the first child
pub first_changed : (slots : ℕ → ℕ → Slot) (gives : ℕ → Bool) (lefts rights : ℕ → List ℤ) (count : ℕ) (children : List ℕ) (mixer : Mixer) (left right : List ℤ)
    → ((normalize : Bool) → mixer ≡ variant.Adds normalize → ⊥) → AreHeard slots gives lefts rights count children → 0 < many_give gives children
    → ((first : ℕ) → first_that_gives gives children ≡ Some first → left ≡ changed_left (mixing_of mixer) (lefts first) (rights first))
    → ((first : ℕ) → first_that_gives gives children ≡ Some first → right ≡ changed_right (mixing_of mixer) (lefts first) (rights first))
    → IsLane (λ j. mix_slot (mixing_of mixer) (map (slots j) children)) count left right
first_changed slots gives lefts rights count children mixer left right not heard some left_is right_is =
    let (first, is) = first_is gives children some in
    let made : IsLane (λ j. changed_slot (mixing_of mixer) (cells_of (map (slots j) children))) count (changed_left (mixing_of mixer) (lefts first) (rights first)) (changed_right (mixing_of mixer) (lefts first) (rights first)) =
    changed_lane slots gives lefts rights count children first (mixing_of mixer) heard is in
    lane_made (λ j. mix_slot (mixing_of mixer) (map (slots j) children)) count left right _ _ (left_is first is) (right_is first is)
    (lane_of_same (λ j. changed_slot (mixing_of mixer) (cells_of (map (slots j) children))) (λ j. mix_slot (mixing_of mixer) (map (slots j) children)) count _ _
    (λ j low. changes mixer not (map (slots j) children)) made)
