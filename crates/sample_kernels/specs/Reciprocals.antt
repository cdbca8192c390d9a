-- Quotients by products: what private contracts say of the numbers that stand for divisors.
use Rattle.std.specs.Prelude.{ℕ, ◌+◌, ◌*◌, ◌/◌, ℤ, pos, negsuc, neg_ℤ}

-- the number of this size with the sign of the first argument: products and quotients are computed of sizes alone, and
-- get their sign then
abbrev pub signed_as : ℤ → ℕ → ℤ
signed_as (pos n) size = pos size
signed_as (negsuc n) size = neg_ℤ (pos size)

-- the multiplier that stands for a factor in millionths: 2^35 / 10^6 (that is 2^29 / 15625) times it, and up to 1
-- more; a product with it, shifted by 35 bits, needs no division
abbrev pub per_sample : ℕ → ℕ
per_sample millionths = millionths * 536870912 / 15625 + 1

-- the multiplier that stands for a division by `whole`: 2^47 / whole, and up to 1 more; a product with it is shifted
-- by 47 bits
abbrev pub inverse_of : ℕ → ℕ
inverse_of whole = 140737488355328 / whole + 1
