-- A sample times a factor, by products with the digits of a number near the factor.
use Rattle.std.proofs.Common.{◌≡◌, ◌<◌, ◌≤◌, ◌+◌, ◌*◌, ◌/◌, ◌%◌, ◌∙◌, ℕ, zero, suc, ℤ, pos, negsuc, ◌+ℤ◌, ◌*ℤ◌, neg_ℤ, arith, ap, sym, refl, mul-le-mul_right, mul-le-mul}
use Rattle.std.specs.Prelude.{int_div, unsigned_abs}
use Rattle.std.proofs.lemmas.Int.{ints}
use lib.Signed.{shr_z}
use lib.IntN.{◌-ℤ◌}
use Rattle.sample_kernels.specs.Reciprocals.{per_sample, signed_as}

abbrev pub low_of : ℕ → ℕ
low_of b = per_sample b % 32768

abbrev pub middle_of : ℕ → ℕ
middle_of b = per_sample b / 32768 % 32768

abbrev pub high_of : ℕ → ℕ
high_of b = per_sample b / 1073741824

-- ---- between which numbers the product lies: 2^35 times the quotient and that of the quotient after it
pub record IsBetween (n q : ℕ) : Type 0 where
  pub low : q * 34359738368 ≤ n
  pub high : n < q * 34359738368 + 34359738368

per_sample_is : (b : ℕ) → per_sample b * 15625 + b * 536870912 % 15625 ≡ b * 536870912 + 15625
per_sample_is b = omega arith

times_both : (a m r n : ℕ) → m * 15625 + r ≡ n * 536870912 + 15625 → (a * m) * 15625 + a * r ≡ (a * n) * 536870912 + a * 15625
times_both a m r n is = let e : a * (m * 15625 + r) ≡ a * (n * 536870912 + 15625) = ap (λ x. a * x) is in omega (arith, e)

pub product_between : (a b : ℕ) → a ≤ 32768 → IsBetween (a * per_sample b) (a * b / 1000000)
product_between a b small =
    let r = b * 536870912 % 15625 in
    let is = times_both a (per_sample b) r b (per_sample_is b) in
    let less : r ≤ 15625 = omega arith in
    let p : r * a ≤ 15625 * a = mul-le-mul_right a less in
    let below : a * r ≤ a * 15625 = omega (arith, p) in
    record { low = omega (arith, is, below); high = omega (arith, is, below, small) }

-- where it is not 0, it is above the lower one
pub product_above : (a b : ℕ) → 0 < a → (a * b / 1000000) * 34359738368 < a * per_sample b
product_above a b some =
    let r = b * 536870912 % 15625 in
    let is = times_both a (per_sample b) r b (per_sample_is b) in
    let less : r ≤ 15624 = omega arith in
    let p : r * a ≤ 15624 * a = mul-le-mul_right a less in
    let below : a * r ≤ a * 15624 = omega (arith, p) in
    omega (arith, is, below, some)

digits_of : (n : ℕ) → n ≡ n / 1073741824 * 1073741824 + n / 32768 % 32768 * 32768 + n % 32768
digits_of n = omega arith

pub product_digits : (a b : ℕ) → a * per_sample b ≡ (a * high_of b) * 1073741824 + (a * middle_of b) * 32768 + a * low_of b
product_digits a b =
    let h = high_of b in
    let m = middle_of b in
    let l = low_of b in
    let e : a * per_sample b ≡ a * (h * 1073741824 + m * 32768 + l) = ap (λ x. a * x) (digits_of (per_sample b)) in
    let sum : a * (h * 1073741824 + m * 32768 + l) ≡ (a * h) * 1073741824 + (a * m) * 32768 + a * l = omega arith in
    e ∙ sum

-- ---- the shifts of products
abbrev pub floors_of : ℤ → ℤ → ℤ → ℤ
floors_of p0 p1 p2 = shr_z (p2 +ℤ shr_z (p1 +ℤ shr_z p0 32768) 32768) 32

abbrev pub nearer : ℤ → ℤ
nearer q = q -ℤ shr_z q 2147483648

ceil15 : (n : ℕ) → shr_z (neg_ℤ (pos n)) 32768 ≡ neg_ℤ (pos ((n + 32767) / 32768))
ceil15 zero = refl
ceil15 (suc n) = let e : suc (n / 32768) ≡ (suc n + 32767) / 32768 = omega arith in ap (λ k. neg_ℤ (pos k)) e

ceil5 : (n : ℕ) → shr_z (neg_ℤ (pos n)) 32 ≡ neg_ℤ (pos ((n + 31) / 32))
ceil5 zero = refl
ceil5 (suc n) = let e : suc (n / 32) ≡ (suc n + 31) / 32 = omega arith in ap (λ k. neg_ℤ (pos k)) e

neg_sum : (m n : ℕ) → neg_ℤ (pos m) +ℤ neg_ℤ (pos n) ≡ neg_ℤ (pos (m + n))
neg_sum m n = omega (arith, ints)

abbrev raised : ℕ → ℕ → ℕ
raised p0 p1 = p1 + (p0 + 32767) / 32768

down_floors : (p0 p1 p2 : ℕ) →
    floors_of (neg_ℤ (pos p0)) (neg_ℤ (pos p1)) (neg_ℤ (pos p2)) ≡ neg_ℤ (pos ((raised (raised p0 p1) p2 + 31) / 32))
down_floors p0 p1 p2 =
    ap (λ z. shr_z (neg_ℤ (pos p2) +ℤ shr_z (neg_ℤ (pos p1) +ℤ z) 32768) 32) (ceil15 p0)
    ∙ ap (λ z. shr_z (neg_ℤ (pos p2) +ℤ shr_z z 32768) 32) (neg_sum p1 ((p0 + 32767) / 32768))
    ∙ ap (λ z. shr_z (neg_ℤ (pos p2) +ℤ z) 32) (ceil15 (raised p0 p1))
    ∙ ap (λ z. shr_z z 32) (neg_sum p2 ((raised p0 p1 + 32767) / 32768))
    ∙ ceil5 (raised (raised p0 p1) p2)

up_quotient : (p0 p1 p2 n q : ℕ) → n ≡ p2 * 1073741824 + p1 * 32768 + p0 → IsBetween n q → (p2 + (p1 + p0 / 32768) / 32768) / 32 ≡ q
up_quotient p0 p1 p2 n q is between = let low = between.low in let high = between.high in omega (arith, is, low, high)

down_quotient : (p0 p1 p2 n q : ℕ) → n ≡ p2 * 1073741824 + p1 * 32768 + p0 → IsBetween n q → q * 34359738368 < n →
    (raised (raised p0 p1) p2 + 31) / 32 ≡ suc q
down_quotient p0 p1 p2 n q is between above = let high = between.high in omega (arith, is, above, high)

near_up : (t : ℕ) → t < 2147483648 → nearer (pos t) ≡ pos t
near_up t less = let none : t / 2147483648 ≡ 0 = omega (arith, less) in ap (λ k. pos t -ℤ pos k) none ∙ omega (arith, ints)

near_down : (t : ℕ) → t < 2147483648 → nearer (negsuc t) ≡ neg_ℤ (pos t)
near_down t less = let none : t / 2147483648 ≡ 0 = omega (arith, less) in ap (λ k. negsuc t -ℤ negsuc k) none ∙ omega (arith, ints)

quotient_small : (a b : ℕ) → a ≤ 32768 → b ≤ 1000000000 → a * b / 1000000 < 2147483648
quotient_small a b small_a small_b = let p : a * b ≤ 32768 * 1000000000 = mul-le-mul small_a small_b in omega (arith, p)

up_lane : (a b : ℕ) → a ≤ 32768 → b ≤ 1000000000 → nearer (floors_of (pos (a * low_of b)) (pos (a * middle_of b)) (pos (a * high_of b))) ≡ pos (a * b / 1000000)
up_lane a b small_a small_b =
    let is = up_quotient (a * low_of b) (a * middle_of b) (a * high_of b) (a * per_sample b) (a * b / 1000000) (product_digits a b) (product_between a b small_a) in
    ap (λ q. nearer (pos q)) is ∙ near_up (a * b / 1000000) (quotient_small a b small_a small_b)

down_lane : (a b : ℕ) → a ≤ 32768 → b ≤ 1000000000 →
    nearer (floors_of (neg_ℤ (pos (a * low_of b))) (neg_ℤ (pos (a * middle_of b))) (neg_ℤ (pos (a * high_of b)))) ≡ neg_ℤ (pos (a * b / 1000000))
down_lane zero b small_a small_b =
    let none : (n : ℕ) → 0 * n ≡ 0 = λ n. omega arith in
    ap (λ p. nearer (floors_of (neg_ℤ (pos p)) (neg_ℤ (pos (0 * middle_of b))) (neg_ℤ (pos (0 * high_of b))))) (none (low_of b))
    ∙ ap (λ p. nearer (floors_of (pos 0) (neg_ℤ (pos p)) (neg_ℤ (pos (0 * high_of b))))) (none (middle_of b))
    ∙ ap (λ p. nearer (floors_of (pos 0) (pos 0) (neg_ℤ (pos p)))) (none (high_of b))
    ∙ ap (λ p. neg_ℤ (pos (p / 1000000))) (sym (none b))
down_lane (suc j) b small_a small_b =
    let a = suc j in
    let q = a * b / 1000000 in
    let is = down_quotient (a * low_of b) (a * middle_of b) (a * high_of b) (a * per_sample b) q (product_digits a b) (product_between a b small_a) (product_above a b (omega arith)) in
    ap nearer (down_floors (a * low_of b) (a * middle_of b) (a * high_of b))
    ∙ ap (λ k. nearer (neg_ℤ (pos k))) is
    ∙ near_down q (quotient_small a b small_a small_b)

pos_neg : (a d : ℕ) → pos a *ℤ neg_ℤ (pos d) ≡ neg_ℤ (pos (a * d))
pos_neg a zero = let none : a * 0 ≡ 0 = omega arith in ap pos none ∙ ap (λ n. neg_ℤ (pos n)) (sym none)
pos_neg a (suc d) = refl

neg_neg : (a d : ℕ) → negsuc a *ℤ neg_ℤ (pos d) ≡ pos (suc a * d)
neg_neg a zero = let none : suc a * 0 ≡ 0 = omega arith in ap (λ n. neg_ℤ (pos n)) none ∙ ap pos (sym none)
neg_neg a (suc d) = refl

div_neg : (n : ℕ) → int_div (neg_ℤ (pos n)) (pos 1000000) ≡ neg_ℤ (pos (n / 1000000))
div_neg zero = refl
div_neg (suc n) = refl

abbrev pub lane_of : ℤ → ℤ → ℤ
lane_of x m = floors_of (x *ℤ signed_as m (low_of (unsigned_abs m))) (x *ℤ signed_as m (middle_of (unsigned_abs m))) (x *ℤ signed_as m (high_of (unsigned_abs m)))

-- what a lane holds in the end
pub lane_is : (x m : ℤ) → unsigned_abs x ≤ 32768 → unsigned_abs m ≤ 1000000000 → nearer (lane_of x m) ≡ int_div (x *ℤ m) (pos 1000000)
lane_is (pos a) (pos b) small_x small_m = up_lane a b small_x small_m
lane_is (pos a) (negsuc k) small_x small_m =
    let b = suc k in
    ap (λ p. nearer (floors_of p (pos a *ℤ neg_ℤ (pos (middle_of b))) (pos a *ℤ neg_ℤ (pos (high_of b))))) (pos_neg a (low_of b))
    ∙ ap (λ p. nearer (floors_of (neg_ℤ (pos (a * low_of b))) p (pos a *ℤ neg_ℤ (pos (high_of b))))) (pos_neg a (middle_of b))
    ∙ ap (λ p. nearer (floors_of (neg_ℤ (pos (a * low_of b))) (neg_ℤ (pos (a * middle_of b))) p)) (pos_neg a (high_of b))
    ∙ down_lane a b small_x small_m
    ∙ sym (div_neg (a * b))
lane_is (negsuc j) (pos b) small_x small_m = down_lane (suc j) b small_x small_m ∙ sym (div_neg (suc j * b))
lane_is (negsuc j) (negsuc k) small_x small_m =
    let b = suc k in
    ap (λ p. nearer (floors_of p (negsuc j *ℤ neg_ℤ (pos (middle_of b))) (negsuc j *ℤ neg_ℤ (pos (high_of b))))) (neg_neg j (low_of b))
    ∙ ap (λ p. nearer (floors_of (pos (suc j * low_of b)) p (negsuc j *ℤ neg_ℤ (pos (high_of b))))) (neg_neg j (middle_of b))
    ∙ ap (λ p. nearer (floors_of (pos (suc j * low_of b)) (pos (suc j * middle_of b)) p)) (neg_neg j (high_of b))
    ∙ up_lane (suc j) b small_x small_m
