-- Where additions arrive.
use Rattle.std.proofs.Common.{◌≡◌, ◌<◌, ◌≤◌, ◌+◌, ◌*◌, ◌/◌, ◌%◌, ◌-◌, ◌∙◌, ℕ, zero, suc, arith, ap, sym}
use Rattle.std.proofs.lemmas.Nat.{div-mul-add, mod-mul-add}
use Rattle.std.proofs.Math.Nat.{add-mul, mul-le-mul_right, mul-lt-mul_of_pos_right, lt_of_mul-lt-mul_right, div-mul-le_self, mul-div_left, mul-mod_left}
use Rattle.resample.specs.Resampled.{block_before, output_length, parts_behind}

-- the place of sample j
pub at_block : (from to j block part : ℕ) → part < to → block * to + part ≡ j * from → block ≡ block_before from to j
at_block from to j block part less is = sym (div-mul-add block to part less) ∙ ap (λ n. n / to) is

pub at_part : (from to j block part : ℕ) → part < to → block * to + part ≡ j * from → part ≡ parts_behind from to j
at_part from to j block part less is = sym (mod-mul-add block to part less) ∙ ap (λ n. n % to) is

-- each place lies before the end of the file
before_end : (count from to j : ℕ) → 1 ≤ count → 0 < from → 0 < to → j < output_length count from to → j * from < count * to
before_end count from to zero some_count some some_to less =
    let one = mul-le-mul_right to some_count in omega (arith, one, some_to)
before_end count from to (suc j) some_count some some_to less =
    let below : suc (suc j) ≤ count * to / from = omega (arith, less) in
    let product = mul-le-mul_right from below in
    let next : suc j < suc (suc j) = omega arith in
    let strict = mul-lt-mul_of_pos_right next some in
    let whole = div-mul-le_self (count * to) from in
    omega (arith, product, strict, whole)

pub within : (count from to j block part : ℕ) → 1 ≤ count → 0 < from → 0 < to → j < output_length count from to → block * to + part ≡ j * from → block < count
within count from to j block part some_count some some_to less is =
    let below = before_end count from to j some_count some some_to less in
    lt_of_mul-lt-mul_right to (omega (arith, below, is))

-- a move without a carry, and one with it
pub no_carry : (a b to p q : ℕ) → (a + b) * to + (p + q) ≡ (a * to + p) + (b * to + q)
no_carry a b to p q = let sum = add-mul a b to in omega (arith, sum)

pub carry : (a b to p q : ℕ) → to ≤ p + q → (a + b + 1) * to + ((p + q) - to) ≡ (a * to + p) + (b * to + q)
carry a b to p q over =
    let first = add-mul (a + b) 1 to in
    let sum = add-mul a b to in omega (arith, sum, first, over)

pub next_place : (from to j reached step : ℕ) → reached ≡ j * from → step ≡ from → reached + step ≡ (j + 1) * from
next_place from to j reached step is is_step = let product = add-mul j 1 from in omega (arith, product, is, is_step)

-- equal rates
pub same_length : (count rate : ℕ) → 1 ≤ count → 0 < rate → output_length count rate rate ≡ count
same_length count rate some some_rate = let is = mul-div_left count some_rate in omega (arith, is, some)

pub same_block : (rate j : ℕ) → 0 < rate → block_before rate rate j ≡ j
same_block rate j some = mul-div_left j some

pub same_part : (rate j : ℕ) → parts_behind rate rate j ≡ 0
same_part rate j = mul-mod_left j rate
