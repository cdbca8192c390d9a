-- Quotients by products: what private contracts say of the numbers that stand for divisors.
use Rattle.std.specs.Prelude.{ℕ, ◌+◌, ◌/◌, ℤ, pos, negsuc, neg_ℤ}

-- the number of this size (its absolute value) that has the sign of the first number, as a quotient has the sign of
-- what is divided
abbrev pub signed_as : ℤ → ℕ → ℤ
signed_as (pos n) size = pos size
signed_as (negsuc n) size = neg_ℤ (pos size)

-- 2^48 divided by the divisor `whole`, rounded up or 1 above: a product with it takes the place of a division by
-- `whole`
abbrev pub inverse_of : ℕ → ℕ
inverse_of whole = 281474976710656 / whole + 1
