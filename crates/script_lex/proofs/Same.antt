-- Two decimals of one number are one.
use Rattle.std.proofs.Common.{◌≡◌, ℤ, subst, pos, negsuc, ◌≤ℤ◌}
use Rattle.std.proofs.Math.Dec.{T_prop}
use Rattle.fixed_text.specs.declared.decimal.Decimal.{Decimal}

order_prop : (a b : ℤ) (x y : a ≤ℤ b) → x ≡ y
order_prop a b x y = λ i. record { le = T_prop _ x.le y.le i }

pub same_decimal : (a b : Decimal) → a.millionths ≡ b.millionths → a ≡ b
same_decimal a b is =
    let P : ℤ → Type 0 = λ m. (low : negsuc 999999999999999 ≤ℤ m) (high : m ≤ℤ pos 1000000000000000) → a ≡ record { millionths = m; low = low; high = high } in
    let here : P a.millionths = λ low high. λ i. record { millionths = a.millionths; low = order_prop _ _ a.low low i; high = order_prop _ _ a.high high i } in
    subst P is here b.low b.high
