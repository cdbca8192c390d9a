-- Eight samples times a factor: what the vectors hold.
use Rattle.std.proofs.Common.{◌≡◌, ◌<◌, ◌≤◌, ◌+◌, ◌*◌, ◌%◌, ◌^◌, ◌∙◌, ℕ, zero, suc, ℤ, pos, negsuc, ◌+ℤ◌, ◌*ℤ◌, List, [], ◌∷◌, length, map, arith, ap, sym, refl, w16, w32, of_z, FitsSigned, mul-le-mul}
use Rattle.std.specs.Prelude.{int_div, unsigned_abs, replicate}
use Rattle.std.specs.Simd.Lanes.{zip2, Each1}
use Rattle.std.proofs.lemmas.Int.{ints, to_z-of_z, of_z-to_z, wrapping_mul_is, int_wrap_fits, unsigned_abs-mul}
use borrow.Rule.Simd.Lanes.{act2}
use borrow.Table.Row.{s_int}
use borrow.Author.Differences.{up, down}
use mir.Syntax.{wrap_mul, wrap_sub, shr, signed}
use lib.Signed.{shr_z}
use lib.IntN.{◌-ℤ◌}
use Rattle.sample_kernels.specs.Samples.{clamped, scaled}
use Rattle.sample_kernels.specs.Reciprocals.{signed_as}
use Rattle.sample_kernels.proofs.Bounds.{small_abs}
use Rattle.std.proofs.lemmas.List.{length-map}
use Rattle.sample_kernels.proofs.Lanes.{added, one_added, widened, widened_is, cut_lanes, raised_lanes, clamped_lanes}
use Rattle.sample_kernels.proofs.Floors.{low_of, middle_of, high_of, floors_of, nearer, lane_of, lane_is}

abbrev pub multiplied : ℕ → ℕ → ℕ
multiplied = act2 wrap_mul (s_int w32) (s_int w32) (s_int w32)

abbrev pub subtracted : ℕ → ℕ → ℕ
subtracted = act2 wrap_sub (s_int w32) (s_int w32) (s_int w32)

abbrev pub shifted : ℕ → ℕ → ℕ
shifted = act2 (shr signed) (s_int w32) (s_int w32) (s_int w32)

-- ---- one lane's operations
pub one_multiplied : (x y : ℤ) → FitsSigned w32 x → FitsSigned w32 y → FitsSigned w32 (x *ℤ y) → multiplied (of_z w32 x) (of_z w32 y) ≡ of_z w32 (x *ℤ y)
one_multiplied x y f g h =
    let small : (of_z w32 x * of_z w32 y) % 4294967296 < 4294967296 = omega arith in
    sym (of_z-to_z w32 ((of_z w32 x * of_z w32 y) % 4294967296) small)
    ∙ ap (of_z w32) (wrapping_mul_is w32 x y f g ∙ int_wrap_fits w32 (x *ℤ y) h)

pub one_subtracted : (x y : ℤ) → FitsSigned w32 x → FitsSigned w32 y → FitsSigned w32 (x -ℤ y) → subtracted (of_z w32 x) (of_z w32 y) ≡ of_z w32 (x -ℤ y)
one_subtracted x y f g fits = omega (arith, ints, f, g, fits)

-- ---- how large the numbers are
record IsWithin (n : ℕ) (z : ℤ) : Type 0 where
  above : up z ≤ n + down z
  below : down z ≤ n + up z

within_abs : (n : ℕ) (z : ℤ) → unsigned_abs z ≤ n → IsWithin n z
within_abs n (pos k) small = record { above = omega (arith, small); below = omega arith }
within_abs n (negsuc k) small = record { above = omega arith; below = omega (arith, small) }

within_product : (x l : ℤ) → unsigned_abs x ≤ 32768 → unsigned_abs l ≤ 32768 → IsWithin 1073741824 (x *ℤ l)
within_product x l small_x small_l =
    let p : unsigned_abs x * unsigned_abs l ≤ 32768 * 32768 = mul-le-mul small_x small_l in
    within_abs 1073741824 (x *ℤ l) (rw (unsigned_abs-mul x l) p)

within_15 : (z : ℤ) → IsWithin 1073774594 z → IsWithin 32770 (shr_z z 32768)
within_15 (pos k) w = let a = w.above in record { above = omega (arith, a); below = omega arith }
within_15 (negsuc k) w = let b = w.below in record { above = omega arith; below = omega (arith, b) }

within_5 : (z : ℤ) → IsWithin 1073774594 z → IsWithin 33555457 (shr_z z 32)
within_5 (pos k) w = let a = w.above in record { above = omega (arith, a); below = omega arith }
within_5 (negsuc k) w = let b = w.below in record { above = omega arith; below = omega (arith, b) }

within_31 : (z : ℤ) → IsWithin 33555457 z → IsWithin 1 (shr_z z 2147483648)
within_31 (pos k) w = let a = w.above in record { above = omega (arith, a); below = omega arith }
within_31 (negsuc k) w = let b = w.below in record { above = omega arith; below = omega (arith, b) }

within_sum : (x y : ℤ) → IsWithin 1073741824 x → IsWithin 32770 y → IsWithin 1073774594 (x +ℤ y)
within_sum x y f g =
    let a = f.above in
    let b = f.below in
    let c = g.above in
    let d = g.below in
    record { above = omega (arith, ints, a, b, c, d); below = omega (arith, ints, a, b, c, d) }

within_difference : (x y : ℤ) → IsWithin 33555457 x → IsWithin 1 y → IsWithin 1073774594 (x -ℤ y)
within_difference x y f g =
    let a = f.above in
    let b = f.below in
    let c = g.above in
    let d = g.below in
    record { above = omega (arith, ints, a, b, c, d); below = omega (arith, ints, a, b, c, d) }

wider_within : (m n : ℕ) (z : ℤ) → m ≤ n → IsWithin m z → IsWithin n z
wider_within m n z more w = let a = w.above in let b = w.below in record { above = omega (arith, a, more); below = omega (arith, b, more) }

fits_within : (z : ℤ) → IsWithin 1073774594 z → FitsSigned w32 z
fits_within z w = let a = w.above in let b = w.below in omega (arith, ints, a, b)

signed_small : (m : ℤ) (d : ℕ) → d ≤ 32768 → unsigned_abs (signed_as m d) ≤ 32768
signed_small (pos n) d small = small
signed_small (negsuc n) zero small = omega arith
signed_small (negsuc n) (suc d) small = small

high_small : (b : ℕ) → b ≤ 1000000000 → high_of b ≤ 32768
high_small b small = omega (arith, small)

-- ---- one lane
shift_is : (z : ℤ) (k n : ℕ) → n ≡ 2 ^ k → FitsSigned w32 z → shifted (of_z w32 z) k ≡ of_z w32 (shr_z z n)
shift_is z k n is f = ap (λ y. of_z w32 (shr_z y (2 ^ k))) (to_z-of_z w32 z f) ∙ ap (λ p. of_z w32 (shr_z z p)) (sym is)

pub sample_wide : (x : ℤ) → FitsSigned w16 x → FitsSigned w32 x
sample_wide x f = omega (arith, ints, f)

digit_wide : (d : ℤ) → unsigned_abs d ≤ 32768 → FitsSigned w32 d
digit_wide d small = fits_within d (wider_within 32768 1073774594 d (omega arith) (within_abs 32768 d small))

product_wide : (x d : ℤ) → unsigned_abs x ≤ 32768 → unsigned_abs d ≤ 32768 → FitsSigned w32 (x *ℤ d)
product_wide x d small_x small_d = fits_within (x *ℤ d) (wider_within 1073741824 1073774594 (x *ℤ d) (omega arith) (within_product x d small_x small_d))

-- the product with a digit, and what was carried to it
step_15 : (x d carry : ℤ) → unsigned_abs x ≤ 32768 → unsigned_abs d ≤ 32768 → IsWithin 32770 carry → IsWithin 32770 (shr_z ((x *ℤ d) +ℤ carry) 32768)
step_15 x d carry small_x small_d w = within_15 ((x *ℤ d) +ℤ carry) (within_sum (x *ℤ d) carry (within_product x d small_x small_d) w)

abbrev pub floor_lane : ℕ → ℕ → ℕ → ℕ → ℕ
floor_lane s l k h = shifted (added (multiplied s h) (shifted (added (multiplied s k) (shifted (multiplied s l) 15)) 15)) 5

carried : (x d carry : ℤ) → FitsSigned w32 x → unsigned_abs x ≤ 32768 → unsigned_abs d ≤ 32768 → IsWithin 32770 carry →
    added (multiplied (of_z w32 x) (of_z w32 d)) (of_z w32 carry) ≡ of_z w32 ((x *ℤ d) +ℤ carry)
carried x d carry fits small_x small_d w =
    let product = product_wide x d small_x small_d in
    ap (λ p. added p (of_z w32 carry)) (one_multiplied x d fits (digit_wide d small_d) product)
    ∙ one_added (x *ℤ d) carry product (fits_within carry (wider_within 32770 1073774594 carry (omega arith) w))
    (fits_within ((x *ℤ d) +ℤ carry) (within_sum (x *ℤ d) carry (within_product x d small_x small_d) w))

first_carry : (x l : ℤ) → unsigned_abs x ≤ 32768 → unsigned_abs l ≤ 32768 → IsWithin 32770 (shr_z (x *ℤ l) 32768)
first_carry x l small_x small_l = within_15 (x *ℤ l) (wider_within 1073741824 1073774594 (x *ℤ l) (omega arith) (within_product x l small_x small_l))

floor_is : (x l k h : ℤ) → FitsSigned w32 x → unsigned_abs x ≤ 32768 → unsigned_abs l ≤ 32768 → unsigned_abs k ≤ 32768 → unsigned_abs h ≤ 32768 →
    floor_lane (of_z w32 x) (of_z w32 l) (of_z w32 k) (of_z w32 h) ≡ of_z w32 (floors_of (x *ℤ l) (x *ℤ k) (x *ℤ h))
floor_is x l k h fits small_x small_l small_k small_h =
    let s = of_z w32 x in
    let one = first_carry x l small_x small_l in
    let c1 = shr_z (x *ℤ l) 32768 in
    let two = step_15 x k c1 small_x small_k one in
    let c2 = shr_z ((x *ℤ k) +ℤ c1) 32768 in
    let first : shifted (multiplied s (of_z w32 l)) 15 ≡ of_z w32 c1 =
    ap (λ p. shifted p 15) (one_multiplied x l fits (digit_wide l small_l) (product_wide x l small_x small_l))
    ∙ shift_is (x *ℤ l) 15 32768 refl (product_wide x l small_x small_l) in
    let second : shifted (added (multiplied s (of_z w32 k)) (of_z w32 c1)) 15 ≡ of_z w32 c2 =
    ap (λ p. shifted p 15) (carried x k c1 fits small_x small_k one)
    ∙ shift_is ((x *ℤ k) +ℤ c1) 15 32768 refl (fits_within ((x *ℤ k) +ℤ c1) (within_sum (x *ℤ k) c1 (within_product x k small_x small_k) one)) in
    let third : shifted (added (multiplied s (of_z w32 h)) (of_z w32 c2)) 5 ≡ of_z w32 (floors_of (x *ℤ l) (x *ℤ k) (x *ℤ h)) =
    ap (λ p. shifted p 5) (carried x h c2 fits small_x small_h two)
    ∙ shift_is ((x *ℤ h) +ℤ c2) 5 32 refl (fits_within ((x *ℤ h) +ℤ c2) (within_sum (x *ℤ h) c2 (within_product x h small_x small_h) two)) in
    ap (λ c. shifted (added (multiplied s (of_z w32 h)) (shifted (added (multiplied s (of_z w32 k)) c) 15)) 5) first
    ∙ ap (λ c. shifted (added (multiplied s (of_z w32 h)) c) 5) second
    ∙ third

floors_within : (x l k h : ℤ) → unsigned_abs x ≤ 32768 → unsigned_abs l ≤ 32768 → unsigned_abs k ≤ 32768 → unsigned_abs h ≤ 32768 →
    IsWithin 33555457 (floors_of (x *ℤ l) (x *ℤ k) (x *ℤ h))
floors_within x l k h small_x small_l small_k small_h =
    let c1 = shr_z (x *ℤ l) 32768 in
    let c2 = shr_z ((x *ℤ k) +ℤ c1) 32768 in
    let two = step_15 x k c1 small_x small_k (first_carry x l small_x small_l) in
    within_5 ((x *ℤ h) +ℤ c2) (within_sum (x *ℤ h) c2 (within_product x h small_x small_h) two)

abbrev pub quotient_lane : ℕ → ℕ
quotient_lane f = subtracted f (shifted f 31)

near_is : (q : ℤ) → IsWithin 33555457 q → quotient_lane (of_z w32 q) ≡ of_z w32 (nearer q)
near_is q w =
    let fits = fits_within q (wider_within 33555457 1073774594 q (omega arith) w) in
    let one = within_31 q w in
    let back = shr_z q 2147483648 in
    ap (subtracted (of_z w32 q)) (shift_is q 31 2147483648 refl fits)
    ∙ one_subtracted q back fits (fits_within back (wider_within 1 1073774594 back (omega arith) one)) (fits_within (q -ℤ back) (within_difference q back w one))

abbrev pub quotient_of : ℤ → ℤ → ℤ
quotient_of m x = int_div (x *ℤ m) (pos 1000000)

one_lane : (x m : ℤ) → FitsSigned w16 x → unsigned_abs m ≤ 1000000000 →
    quotient_lane (floor_lane (of_z w32 x) (of_z w32 (signed_as m (low_of (unsigned_abs m)))) (of_z w32 (signed_as m (middle_of (unsigned_abs m)))) (of_z w32 (signed_as m (high_of (unsigned_abs m)))))
    ≡ of_z w32 (quotient_of m x)
one_lane x m fits small =
    let b = unsigned_abs m in
    let small_x = small_abs x fits in
    let small_low = signed_small m (low_of b) (omega arith) in
    let small_middle = signed_small m (middle_of b) (omega arith) in
    let small_high = signed_small m (high_of b) (high_small b small) in
    ap quotient_lane (floor_is x (signed_as m (low_of b)) (signed_as m (middle_of b)) (signed_as m (high_of b)) (sample_wide x fits) small_x small_low small_middle small_high)
    ∙ near_is (lane_of x m) (floors_within x (signed_as m (low_of b)) (signed_as m (middle_of b)) (signed_as m (high_of b)) small_x small_low small_middle small_high)
    ∙ ap (of_z w32) (lane_is x m small_x small)

-- ---- eight lanes
abbrev pub floor_lanes : ℕ → List ℕ → ℕ → ℕ → ℕ → List ℕ
floor_lanes n vs l k h =
    zip2 shifted (zip2 added (zip2 multiplied vs (replicate n h)) (zip2 shifted (zip2 added (zip2 multiplied vs (replicate n k)) (zip2 shifted (zip2 multiplied vs (replicate n l)) (replicate n 15))) (replicate n 15))) (replicate n 5)

abbrev pub quotient_lanes : ℕ → List ℕ → List ℕ
quotient_lanes n fs = zip2 subtracted fs (zip2 shifted fs (replicate n 31))

pub lanes_are : (xs : List ℤ) (n : ℕ) (m l k h : ℤ) → l ≡ signed_as m (low_of (unsigned_abs m)) → k ≡ signed_as m (middle_of (unsigned_abs m)) → h ≡ signed_as m (high_of (unsigned_abs m)) →
    length xs ≡ n → Each1 (FitsSigned w16) xs → unsigned_abs m ≤ 1000000000 →
    quotient_lanes n (floor_lanes n (map (of_z w32) xs) (of_z w32 l) (of_z w32 k) (of_z w32 h)) ≡ map (of_z w32) (map (quotient_of m) xs)
lanes_are [] n m l k h is_l is_k is_h long fit small = refl
lanes_are (x ∷ xs) zero m l k h is_l is_k is_h long fit small = absurd (omega (arith, long))
lanes_are (x ∷ xs) (suc n) m l k h is_l is_k is_h long fit small =
    let rest = quotient_lanes n (floor_lanes n (map (of_z w32) xs) (of_z w32 l) (of_z w32 k) (of_z w32 h)) in
    let first : quotient_lane (floor_lane (of_z w32 x) (of_z w32 l) (of_z w32 k) (of_z w32 h)) ≡ of_z w32 (quotient_of m x) =
    rw (is_l, is_k, is_h) (one_lane x m fit.0 small) in
    ap (λ q. q ∷ rest) first
    ∙ ap (λ l. of_z w32 (quotient_of m x) ∷ l) (lanes_are xs n m l k h is_l is_k is_h (omega (arith, long)) fit.1 small)

divided_fits : (z : ℤ) → unsigned_abs z ≤ 32768000000000 → FitsSigned w32 (int_div z (pos 1000000))
divided_fits (pos k) small = omega (arith, ints, small)
divided_fits (negsuc k) small = omega (arith, ints, small)

pub quotients_fit : (xs : List ℤ) (m : ℤ) → Each1 (FitsSigned w16) xs → unsigned_abs m ≤ 1000000000 → Each1 (FitsSigned w32) (map (quotient_of m) xs)
quotients_fit [] m fit small = tt
quotients_fit (x ∷ xs) m fit small =
    let p : unsigned_abs x * unsigned_abs m ≤ 32768 * 1000000000 = mul-le-mul (small_abs x fit.0) small in
    (divided_fits (x *ℤ m) (rw (unsigned_abs-mul x m) p), quotients_fit xs m fit.1 small)

pub scaled_all : (xs : List ℤ) (m : ℤ) → map clamped (map (quotient_of m) xs) ≡ map (scaled m) xs
scaled_all [] m = refl
scaled_all (x ∷ xs) m = ap (λ l. scaled m x ∷ l) (scaled_all xs m)

-- what is left of them once they are cut
pub cut_of : (xs : List ℤ) (m l k h : ℤ) → l ≡ signed_as m (low_of (unsigned_abs m)) → k ≡ signed_as m (middle_of (unsigned_abs m)) → h ≡ signed_as m (high_of (unsigned_abs m)) →
    length xs ≡ 8 → Each1 (FitsSigned w16) xs → unsigned_abs m ≤ 1000000000 →
    cut_lanes (raised_lanes (quotient_lanes 8 (floor_lanes 8 (map widened (map (of_z w16) xs)) (of_z w32 l) (of_z w32 k) (of_z w32 h))) (replicate 8 4294934528)) (replicate 8 32767)
    ≡ map (of_z w32) (map clamped (map (quotient_of m) xs))
cut_of xs m l k h is_l is_k is_h long fit small =
    ap (λ vs. cut_lanes (raised_lanes (quotient_lanes 8 (floor_lanes 8 vs (of_z w32 l) (of_z w32 k) (of_z w32 h))) (replicate 8 4294934528)) (replicate 8 32767)) (widened_is xs fit)
    ∙ ap (λ vs. cut_lanes (raised_lanes vs (replicate 8 4294934528)) (replicate 8 32767)) (lanes_are xs 8 m l k h is_l is_k is_h long fit small)
    ∙ clamped_lanes (map (quotient_of m) xs) 8 (length-map xs (quotient_of m) ∙ long) (quotients_fit xs m fit small)
