-- The eligible children of a node stay the same while the seconds do for which they stay.
use Rattle.std.proofs.Common.{◌≡◌, ◌∙◌, ◌<◌, ◌≤◌, ◌+◌, ◌-◌, ◌/◌, ◌%◌, ℕ, arith, ap, sym}
use Rattle.std.proofs.Math.Nat.{div-mul-le_self, mod-add-mod}
use Rattle.std.proofs.lemmas.Nat.{le-div}
use Rattle.stream_meaning.specs.Operators.{Eligible, marks_at}

-- a later instant lies in no earlier second
no_earlier : (n j rate : ℕ) → 0 < rate → n / rate ≤ (n + j) / rate
no_earlier n j rate some = let whole = div-mul-le_self n rate in le-div (n / rate) (n + j) rate some (omega (arith, whole))

-- within one second
pub marks_same : (eligible : Eligible) (start n j rate children : ℕ) → 0 < rate → (n + j) / rate < n / rate + 1
    → marks_at eligible ((start + (n + j) / rate) % 604800) children ≡ marks_at eligible ((start + n / rate) % 604800) children
marks_same eligible start n j rate children some short =
    let low = no_earlier n j rate some in
    let same : (n + j) / rate ≡ n / rate = omega (arith, low, short) in
    ap (λ second. marks_at eligible ((start + second) % 604800) children) same

-- in one of the next so many seconds, for which they stay
pub marks_stay : (eligible : Eligible) (start at n j rate seconds children : ℕ) → 0 < rate → at ≡ (start + n / rate) % 604800 → (n + j) / rate < n / rate + seconds
    → ((k : ℕ) → k < seconds → marks_at eligible ((at + k) % 604800) children ≡ marks_at eligible at children)
    → marks_at eligible ((start + (n + j) / rate) % 604800) children ≡ marks_at eligible ((start + n / rate) % 604800) children
marks_stay eligible start at n j rate seconds children some is short stay =
    let low = no_earlier n j rate some in
    let more = (n + j) / rate - n / rate in
    let sum : start + n / rate + more ≡ start + (n + j) / rate = omega (arith, low) in
    let later : (at + more) % 604800 ≡ (start + (n + j) / rate) % 604800 =
    ap (λ k. (k + more) % 604800) is ∙ mod-add-mod (start + n / rate) 604800 more ∙ ap (λ k. k % 604800) sum in
    ap (λ second. marks_at eligible second children) (sym later) ∙ stay more (omega (arith, low, short)) ∙ ap (λ second. marks_at eligible second children) is
