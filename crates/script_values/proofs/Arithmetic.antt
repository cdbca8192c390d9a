-- Ints and decimals within their bounds, and past them.
use Rattle.std.proofs.Common.{◌≡◌, ℕ, ℤ, pos, negsuc, ◌≤ℤ◌, Bool, true, false, ◌&&◌, T, Some, None, Ok, Err, refl, sym, ap, ◌∙◌, arith}
use Rattle.std.proofs.lemmas.Int.{ints}
use Rattle.std.specs.Prelude.{◌<ℤ◌, int_le}
use Rattle.fixed_text.specs.declared.decimal.Decimal.{Decimal}
use Rattle.script_values.specs.declared.fault.Stop.TheVariants.{BadValue}
use Rattle.script_values.specs.Values.{Int, Number}
use Rattle.script_values.specs.Numbers.{int_at, decimal_by, of_millionths, decimal_at, or_bad_value}

pub int_within : (at : ℕ) (n m : ℤ) → m ≡ n → negsuc 9223372036854775807 ≤ℤ n → n ≤ℤ pos 9223372036854775807 → int_at at n ≡ Ok (Int m)
unfolding int_at
int_within at n m same low high =
    let test : (int_le (negsuc 9223372036854775807) n && int_le n (pos 9223372036854775807)) ≡ true = grind (arith, ints) in
    rw (test, int_at) (ap (λ (z : ℤ). Ok (Int z)) (sym same))

pub int_below : (at : ℕ) (n : ℤ) → n <ℤ negsuc 9223372036854775807 → int_at at n ≡ Err (BadValue at)
unfolding int_at
int_below at n low =
    let test : (int_le (negsuc 9223372036854775807) n && int_le n (pos 9223372036854775807)) ≡ false = grind (arith, ints) in
    rw (test, int_at) refl

pub int_above : (at : ℕ) (n : ℤ) → pos 9223372036854775807 <ℤ n → int_at at n ≡ Err (BadValue at)
unfolding int_at
int_above at n high =
    let test : (int_le (negsuc 9223372036854775807) n && int_le n (pos 9223372036854775807)) ≡ false = grind (arith, ints) in
    rw (test, int_at) refl

made : (m : ℤ) (low high : Bool) (above : T low → negsuc 999999999999999 ≤ℤ m) (below : T high → m ≤ℤ pos 1000000000000000) (x : T low) (y : T high) → decimal_by m low high above below ≡ Some (record { millionths = m; low = above x; high = below y })
made m true true above below x y = refl
made m true false above below x y = absurd y
made m false true above below x y = absurd x
made m false false above below x y = absurd x

pub decimal_is : (d : Decimal) → of_millionths d.millionths ≡ Some d
unfolding of_millionths
decimal_is d = made d.millionths _ _ _ _ d.low.le d.high.le

pub decimal_within : (at : ℕ) (n : ℤ) (d : Decimal) → d.millionths ≡ n → decimal_at at n ≡ Ok (Number d)
decimal_within at n d is = ap (decimal_at at) (sym is) ∙ ap (or_bad_value at) (decimal_is d)

none_by : (m : ℤ) (low high : Bool) (above : T low → negsuc 999999999999999 ≤ℤ m) (below : T high → m ≤ℤ pos 1000000000000000) → (low && high) ≡ false → decimal_by m low high above below ≡ None
none_by m true true above below e = absurd cc
none_by m true false above below e = refl
none_by m false true above below e = refl
none_by m false false above below e = refl

pub decimal_below : (at : ℕ) (n : ℤ) → n <ℤ negsuc 999999999999999 → decimal_at at n ≡ Err (BadValue at)
unfolding of_millionths
decimal_below at n low =
    let test : (int_le (negsuc 999999999999999) n && int_le n (pos 1000000000000000)) ≡ false = grind (arith, ints) in
    ap (or_bad_value at) (none_by n _ _ _ _ test)

pub decimal_above : (at : ℕ) (n : ℤ) → pos 1000000000000000 <ℤ n → decimal_at at n ≡ Err (BadValue at)
unfolding of_millionths
decimal_above at n high =
    let test : (int_le (negsuc 999999999999999) n && int_le n (pos 1000000000000000)) ≡ false = grind (arith, ints) in
    ap (or_bad_value at) (none_by n _ _ _ _ test)
