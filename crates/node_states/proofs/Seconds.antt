-- The time of the next instant.
use Rattle.std.proofs.Common.{◌≡◌, ◌∙◌, ◌<◌, ◌≤◌, ◌+◌, ◌-◌, ◌*◌, ◌/◌, ◌%◌, ℕ, suc, false, nat_eq, arith, ap, sym}
use Rattle.std.proofs.lemmas.Bool.Decides.{nat_tests}
use Rattle.std.proofs.lemmas.Nat.{div-add-mod', div-mul-add, mod-mul-add}
use Rattle.std.proofs.Math.Nat.{add-mul, div-add-mod, div-eq_of_lt, div-lt_iff_lt-mul, div_self, mod-add-mod, mod-eq_of_lt, mul-add-div, suc-mul}

next_is : (n rate at : ℕ) → at ≡ n % rate → suc n ≡ rate * (n / rate) + (at + 1)
next_is n rate at is = let whole = div-add-mod n rate in omega (arith, whole, is)

-- the second is not over
pub same_second : (n rate at : ℕ) → at ≡ n % rate → at + 1 < rate → suc n / rate ≡ n / rate
same_second n rate at is short =
    let some : 0 < rate = omega arith in
    let none : (at + 1) / rate ≡ 0 = div-eq_of_lt short in
    let sum = mul-add-div some (n / rate) (at + 1) in
    ap (λ k. k / rate) (next_is n rate at is) ∙ sum ∙ omega (arith, none)

-- the second is over
pub later_second : (n rate at : ℕ) → 0 < rate → at ≡ n % rate → at + 1 ≡ rate → suc n / rate ≡ n / rate + 1
later_second n rate at some is long =
    let one : (at + 1) / rate ≡ 1 = ap (λ k. k / rate) long ∙ div_self some in
    let sum = mul-add-div some (n / rate) (at + 1) in
    ap (λ k. k / rate) (next_is n rate at is) ∙ sum ∙ omega (arith, one)

-- the second of the week after this one
pub week_later : (start passed second : ℕ) → second ≡ (start + passed) % 604800 → (second + 1) % 604800 ≡ (start + (passed + 1)) % 604800
week_later start passed second is =
    let sum : start + passed + 1 ≡ start + (passed + 1) = omega arith in
    ap (λ k. (k + 1) % 604800) is ∙ mod-add-mod (start + passed) 604800 1 ∙ ap (λ k. k % 604800) sum

split_is : (n rate at : ℕ) → at ≡ n % rate → n ≡ n / rate * rate + at
split_is n rate at is = let whole = div-add-mod' n rate in omega (arith, whole, is)

-- so many instants on, in one of the next so many seconds
pub seconds_stay : (n rate at j more seconds : ℕ) → at ≡ n % rate → at < rate → at + j < rate + more → 0 < seconds → more ≤ (seconds - 1) * rate
    → (n + j) / rate < n / rate + seconds
seconds_stay n rate at j more seconds is within short some low =
    let above : 0 < rate = omega (arith, within) in
    let one : suc (seconds - 1) ≡ seconds = omega (arith, some) in
    let all : seconds * rate ≡ (seconds - 1) * rate + rate = ap (λ k. k * rate) (sym one) ∙ suc-mul (seconds - 1) rate in
    let split = split_is n rate at is in
    let sum = add-mul (n / rate) seconds rate in
    (div-lt_iff_lt-mul above).1 (omega (arith, split, short, low, all, sum))

not_zero : (n : ℕ) → 0 < n → nat_eq n 0 ≡ false
not_zero n some = grind (arith, nat_tests)

-- and in the same tick
pub tick_stays : (n frame at j : ℕ) → at ≡ n % frame → 0 < j → at + j < frame → nat_eq ((n + j) % frame) 0 ≡ false
tick_stays n frame at j is some short =
    ap (λ k. nat_eq k 0) (sym (mod-add-mod n frame j) ∙ ap (λ k. (k + j) % frame) (sym is) ∙ mod-eq_of_lt short) ∙ not_zero (at + j) (omega (arith, some))

-- so many instants later within the second
pub within_second : (n rate at count : ℕ) → at ≡ n % rate → at + count < rate → ((n + count) / rate ≡ n / rate) × ((n + count) % rate ≡ at + count)
within_second n rate at count is short =
    let e : n + count ≡ n / rate * rate + (at + count) = (let split = split_is n rate at is in omega (arith, split)) in
    (ap (λ k. k / rate) e ∙ div-mul-add (n / rate) rate (at + count) short, ap (λ k. k % rate) e ∙ mod-mul-add (n / rate) rate (at + count) short)

-- and in the next one
pub next_second_by : (n rate at count rest : ℕ) → at ≡ n % rate → at + count ≡ rate + rest → rest < rate → ((n + count) / rate ≡ n / rate + 1) × ((n + count) % rate ≡ rest)
next_second_by n rate at count rest is over short =
    let more = suc-mul (n / rate) rate in
    let e : n + count ≡ suc (n / rate) * rate + rest = (let split = split_is n rate at is in omega (arith, split, over, more)) in
    let one : suc (n / rate) ≡ n / rate + 1 = omega arith in
    (ap (λ k. k / rate) e ∙ div-mul-add (suc (n / rate)) rate rest short ∙ one, ap (λ k. k % rate) e ∙ mod-mul-add (suc (n / rate)) rate rest short)
