-- For how long a predicate stays.
use Rattle.std.proofs.Common.{◌≡◌, ◌<◌, ◌≤◌, ◌+◌, ◌-◌, ◌%◌, ◌∙◌, ℕ, Bool, arith, ap, sym}
use Rattle.std.proofs.Math.Nat.{mod-eq_of_lt}
use Rattle.time_pred.specs.Marks.{Stays}
use Rattle.week_plan.specs.Spans.{IsFor}

-- within the week a second is its own
later_is : (at x : ℕ) → at ≤ x → x < 604800 → (at + (x - at)) % 604800 ≡ x
later_is at x first low =
    let is : at + (x - at) ≡ x = omega (arith, first) in
    ap (λ (n : ℕ). n % 604800) is ∙ mod-eq_of_lt low

-- what stays for so many seconds is so up to a second among them
pub stays_to : (test : ℕ → Bool) (at end stays : ℕ) (answer : Bool) → Stays test at stays → end ≤ at + stays → end ≤ 604800 → test at ≡ answer → IsFor test at end answer
stays_to test at end stays answer same within week is = λ x first last.
    ap test (sym (later_is at x first (omega (arith, last, week)))) ∙ same (x - at) (omega (arith, first, last, within)) ∙ is
