-- Eight quotients by products with 2^47 / whole: what the vectors hold.
use Rattle.std.proofs.Common.{◌≡◌, ◌<◌, ◌≤◌, ◌+◌, ◌*◌, ◌/◌, ◌%◌, ◌∙◌, ℕ, zero, suc, ℤ, pos, negsuc, List, [], ◌∷◌, length, map, cond, arith, ap, sym, subst, refl, w32, w64, to_z, of_z, Fits, FitsSigned}
use Rattle.std.specs.Prelude.{int_div, unsigned_abs, replicate}
use Rattle.std.specs.Simd.Lanes.{zip2, Each1}
use Rattle.std.proofs.lemmas.Int.{ints, to_z-of_z, to_z_pos}
use borrow.Rule.Simd.Lanes.{act1, act2, Asks1}
use borrow.Table.Row.{s_int}
use mir.Syntax.{wrap_mul, shr, cast, signed, unsigned}
use lib.Signed.{lt_z}
use lib.IntN.{◌-ℤ◌}
use lib.Lanes.{sel_l, top}
use Rattle.sample_kernels.specs.Reciprocals.{inverse_of, signed_as}
use Rattle.sample_kernels.proofs.Lanes.{below, chosen, chosen_is}
use Rattle.sample_kernels.proofs.Products.{subtracted, one_subtracted}
use Rattle.sample_kernels.proofs.Inverses.{quotient_is, quotient_small, product_fits}

abbrev pub sized : ℕ → ℕ
sized = act1 (cast signed unsigned w32) (s_int w32) (s_int w32)

abbrev pub doubled : ℕ → ℕ
doubled = act1 (cast unsigned unsigned w64) (s_int w32) (s_int w64)

abbrev pub multiplied_wide : ℕ → ℕ → ℕ
multiplied_wide = act2 wrap_mul (s_int w64) (s_int w64) (s_int w64)

abbrev pub shifted_wide : ℕ → ℕ → ℕ
shifted_wide = act2 (shr unsigned) (s_int w64) (s_int w64) (s_int w64)

abbrev pub halved_wide : ℕ → ℕ
halved_wide = act1 (cast unsigned signed w32) (s_int w64) (s_int w32)

-- ---- how large a sum is
pub record IsSmall (whole : ℕ) (sum : ℤ) : Type 0 where
  pub some : 0 < whole
  pub short : whole < 65536
  pub small : unsigned_abs sum ≤ 32768 * whole

sum_small : (whole : ℕ) (sum : ℤ) → IsSmall whole sum → unsigned_abs sum ≤ 2147450880
sum_small whole sum is = let short = is.short in let small = is.small in omega (arith, short, small)

fits_small : (sum : ℤ) → unsigned_abs sum ≤ 2147450880 → FitsSigned w32 sum
fits_small (pos n) small = omega (arith, small)
fits_small (negsuc n) small = omega (arith, small)

negated_fits : (sum : ℤ) → unsigned_abs sum ≤ 2147450880 → FitsSigned w32 (pos 0 -ℤ sum)
negated_fits (pos n) small = omega (arith, ints, small)
negated_fits (negsuc n) small = omega (arith, ints, small)

-- ---- the size of a sum
abbrev pub abs_lane : ℕ → ℕ
abs_lane v = cond (top 31 (below v (subtracted 0 v))) (subtracted 0 v) v

abs_by : (sum : ℤ) → cond (lt_z sum (pos 0 -ℤ sum)) (pos 0 -ℤ sum) sum ≡ pos (unsigned_abs sum)
abs_by (pos zero) = refl
abs_by (pos (suc n)) = let e : pos 0 -ℤ pos (suc n) ≡ negsuc n = omega (arith, ints) in ap (λ m. cond (lt_z (pos (suc n)) m) m (pos (suc n))) e
abs_by (negsuc n) = let e : 0 + suc n ≡ suc n = omega arith in ap pos e

abs_is : (sum : ℤ) → unsigned_abs sum ≤ 2147450880 → abs_lane (of_z w32 sum) ≡ unsigned_abs sum
abs_is sum small =
    let v = of_z w32 sum in
    let fits = fits_small sum small in
    let other = negated_fits sum small in
    let zero_fits : FitsSigned w32 (pos 0) = omega (arith, ints) in
    let negated : subtracted 0 v ≡ of_z w32 (pos 0 -ℤ sum) = one_subtracted (pos 0) sum zero_fits fits other in
    ap (λ m. cond (top 31 (below v m)) m v) negated
    ∙ ap (λ y. chosen (lt_z y (to_z w32 (of_z w32 (pos 0 -ℤ sum)))) (of_z w32 (pos 0 -ℤ sum)) v) (to_z-of_z w32 sum fits)
    ∙ ap (λ y. chosen (lt_z sum y) (of_z w32 (pos 0 -ℤ sum)) v) (to_z-of_z w32 (pos 0 -ℤ sum) other)
    ∙ chosen_is (lt_z sum (pos 0 -ℤ sum)) (pos 0 -ℤ sum) sum
    ∙ ap (of_z w32) (abs_by sum)

size_of : (n : ℕ) → n ≤ 2147450880 → sized n ≡ n
size_of n small = let is = to_z_pos w32 n (omega (arith, small)) in ap unsigned_abs is

size_is : (sum : ℤ) → unsigned_abs sum ≤ 2147450880 → sized (abs_lane (of_z w32 sum)) ≡ unsigned_abs sum
size_is sum small = ap sized (abs_is sum small) ∙ size_of (unsigned_abs sum) small

-- ---- its quotient, with the sum's sign
abbrev pub quotient_lane : ℕ → ℕ → ℕ
quotient_lane i v = shifted_wide (multiplied_wide (doubled (sized (abs_lane v))) i) 47

abbrev pub quotient_of : ℕ → ℤ → ℕ
quotient_of whole sum = unsigned_abs sum * inverse_of whole / 140737488355328

lane_quotient : (whole : ℕ) (sum : ℤ) → IsSmall whole sum → quotient_lane (inverse_of whole) (of_z w32 sum) ≡ quotient_of whole sum
lane_quotient whole sum is =
    let size = unsigned_abs sum in
    let fits = product_fits size whole is.some is.short is.small in
    let product : size * inverse_of whole % 18446744073709551616 ≡ size * inverse_of whole = omega (arith, fits) in
    ap (λ n. shifted_wide (multiplied_wide n (inverse_of whole)) 47) (size_is sum (sum_small whole sum is))
    ∙ ap (λ n. n / 140737488355328) product

abbrev pub signed_lane : ℕ → ℕ → ℕ
signed_lane v q = cond (top 31 (below v 0)) (subtracted 0 q) q

sign_by : (sum : ℤ) (q : ℕ) → cond (lt_z sum (pos 0)) (pos 0 -ℤ pos q) (pos q) ≡ signed_as sum q
sign_by (pos n) q = grind (arith, ints)
sign_by (negsuc n) zero = refl
sign_by (negsuc n) (suc q) = let e : pos 0 -ℤ pos (suc q) ≡ negsuc q = omega (arith, ints) in ap (λ m. cond (lt_z (negsuc n) (pos 0)) m (pos (suc q))) e

lane_signed : (sum : ℤ) (q : ℕ) → unsigned_abs sum ≤ 2147450880 → q ≤ 32768 → signed_lane (of_z w32 sum) q ≡ of_z w32 (signed_as sum q)
lane_signed sum q small small_q =
    let fits = fits_small sum small in
    let zero_fits : FitsSigned w32 (pos 0) = omega (arith, ints) in
    let q_fits : FitsSigned w32 (pos q) = omega (arith, ints, small_q) in
    let negated : subtracted 0 q ≡ of_z w32 (pos 0 -ℤ pos q) = one_subtracted (pos 0) (pos q) zero_fits q_fits (negated_fits (pos q) (omega (arith, small_q))) in
    ap (λ m. cond (top 31 (below (of_z w32 sum) 0)) m q) negated
    ∙ ap (λ y. chosen (lt_z y (pos 0)) (of_z w32 (pos 0 -ℤ pos q)) q) (to_z-of_z w32 sum fits)
    ∙ chosen_is (lt_z sum (pos 0)) (pos 0 -ℤ pos q) (pos q)
    ∙ ap (of_z w32) (sign_by sum q)

one_lane : (whole : ℕ) (sum : ℤ) → IsSmall whole sum →
    signed_lane (of_z w32 sum) (quotient_lane (inverse_of whole) (of_z w32 sum)) ≡ of_z w32 (int_div sum (pos whole))
one_lane whole sum is =
    ap (signed_lane (of_z w32 sum)) (lane_quotient whole sum is)
    ∙ lane_signed sum (quotient_of whole sum) (sum_small whole sum is) (quotient_small (unsigned_abs sum) whole is.some is.short is.small)
    ∙ ap (of_z w32) (quotient_is sum whole is.some is.short is.small)

-- ---- eight lanes
abbrev pub abs_lanes : ℕ → List ℕ → List ℕ
abs_lanes n vs = sel_l (map (top 31) (zip2 below vs (zip2 subtracted (replicate n 0) vs))) (zip2 subtracted (replicate n 0) vs) vs

abbrev pub quotient_lanes : ℕ → ℕ → List ℕ → List ℕ
quotient_lanes n i vs = zip2 shifted_wide (zip2 multiplied_wide (map doubled (map sized (abs_lanes n vs))) (replicate n i)) (replicate n 47)

abbrev pub signed_lanes : ℕ → List ℕ → List ℕ → List ℕ
signed_lanes n vs qs = sel_l (map (top 31) (zip2 below vs (replicate n 0))) (zip2 subtracted (replicate n 0) qs) qs

pub quotients_are : (whole n i : ℕ) (sums : List ℤ) → i ≡ inverse_of whole → length sums ≡ n → Each1 (IsSmall whole) sums →
    signed_lanes n (map (of_z w32) sums) (map halved_wide (quotient_lanes n i (map (of_z w32) sums))) ≡ map (of_z w32) (map (λ sum. int_div sum (pos whole)) sums)
quotients_are whole zero i [] is long small = refl
quotients_are whole (suc n) i [] is long small = absurd (omega (arith, long))
quotients_are whole zero i (sum ∷ sums) is long small = absurd (omega (arith, long))
quotients_are whole (suc n) i (sum ∷ sums) is long small =
    let rest = signed_lanes n (map (of_z w32) sums) (map halved_wide (quotient_lanes n i (map (of_z w32) sums))) in
    ap (λ k. signed_lane (of_z w32 sum) (quotient_lane k (of_z w32 sum)) ∷ rest) is
    ∙ ap (λ l. l ∷ rest) (one_lane whole sum small.0)
    ∙ ap (λ l. of_z w32 (int_div sum (pos whole)) ∷ l) (quotients_are whole n i sums is (omega (arith, long)) small.1)

-- ---- what the casts ask
one_sized : (sum : ℤ) → unsigned_abs sum ≤ 2147450880 → Asks1 (cast signed unsigned w32) (s_int w32) (abs_lane (of_z w32 sum))
one_sized sum small =
    let size = unsigned_abs sum in
    let is : to_z w32 (abs_lane (of_z w32 sum)) ≡ pos size = ap (to_z w32) (abs_is sum small) ∙ to_z_pos w32 size (omega (arith, small)) in
    rw is (tt, record { fits = omega (arith, small) })

pub sizes_asked : (whole n : ℕ) (sums : List ℤ) → length sums ≡ n → Each1 (IsSmall whole) sums →
    Each1 (Asks1 (cast signed unsigned w32) (s_int w32)) (abs_lanes n (map (of_z w32) sums))
sizes_asked whole zero [] long small = tt
sizes_asked whole (suc n) [] long small = absurd (omega (arith, long))
sizes_asked whole zero (sum ∷ sums) long small = absurd (omega (arith, long))
sizes_asked whole (suc n) (sum ∷ sums) long small = (one_sized sum (sum_small whole sum small.0), sizes_asked whole n sums (omega (arith, long)) small.1)

pub doubles_asked : (whole n : ℕ) (sums : List ℤ) → length sums ≡ n → Each1 (IsSmall whole) sums →
    Each1 (Asks1 (cast unsigned unsigned w64) (s_int w32)) (map sized (abs_lanes n (map (of_z w32) sums)))
doubles_asked whole zero [] long small = tt
doubles_asked whole (suc n) [] long small = absurd (omega (arith, long))
doubles_asked whole zero (sum ∷ sums) long small = absurd (omega (arith, long))
doubles_asked whole (suc n) (sum ∷ sums) long small =
    let few = sum_small whole sum small.0 in
    (subst (Fits w64) (sym (size_is sum few)) (record { fits = omega (arith, few) }), doubles_asked whole n sums (omega (arith, long)) small.1)

pub quotients_asked : (whole n i : ℕ) (sums : List ℤ) → i ≡ inverse_of whole → length sums ≡ n → Each1 (IsSmall whole) sums →
    Each1 (Asks1 (cast unsigned signed w32) (s_int w64)) (quotient_lanes n i (map (of_z w32) sums))
quotients_asked whole zero i [] is long small = tt
quotients_asked whole (suc n) i [] is long small = absurd (omega (arith, long))
quotients_asked whole zero i (sum ∷ sums) is long small = absurd (omega (arith, long))
quotients_asked whole (suc n) i (sum ∷ sums) is long small =
    let s = small.0 in
    let few = quotient_small (unsigned_abs sum) whole s.some s.short s.small in
    let q_is : quotient_lane i (of_z w32 sum) ≡ quotient_of whole sum = ap (λ k. quotient_lane k (of_z w32 sum)) is ∙ lane_quotient whole sum s in
    let fits : FitsSigned w32 (pos (quotient_of whole sum)) = omega (arith, ints, few) in
    (subst (λ q. FitsSigned w32 (pos q)) (sym q_is) fits, quotients_asked whole n i sums is (omega (arith, long)) small.1)

divided_fits : (whole : ℕ) (sum : ℤ) → IsSmall whole sum → FitsSigned w32 (int_div sum (pos whole))
divided_fits whole sum is =
    let few = quotient_small (unsigned_abs sum) whole is.some is.short is.small in
    subst (FitsSigned w32) (quotient_is sum whole is.some is.short is.small) (signed_fits sum (quotient_of whole sum) few)
  where
    signed_fits : (sum : ℤ) (q : ℕ) → q ≤ 32768 → FitsSigned w32 (signed_as sum q)
    signed_fits (pos n) q small = omega (arith, ints, small)
    signed_fits (negsuc n) zero small = omega (arith, ints)
    signed_fits (negsuc n) (suc q) small = omega (arith, ints, small)

pub quotients_fit : (whole : ℕ) (sums : List ℤ) → Each1 (IsSmall whole) sums → Each1 (FitsSigned w32) (map (λ sum. int_div sum (pos whole)) sums)
quotients_fit whole [] small = tt
quotients_fit whole (sum ∷ sums) small = (divided_fits whole sum small.0, quotients_fit whole sums small.1)

pub all_small : (whole : ℕ) (sums : List ℤ) → 0 < whole → whole < 65536 → Each1 (λ sum. unsigned_abs sum ≤ 32768 * whole) sums → Each1 (IsSmall whole) sums
all_small whole [] some short small = tt
all_small whole (sum ∷ sums) some short small = (record { some = some; short = short; small = small.0 }, all_small whole sums some short small.1)
