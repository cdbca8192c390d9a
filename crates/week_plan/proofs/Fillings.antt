-- How the table of a mark or of an interval is filled.
use Rattle.std.proofs.Common.{◌≡◌, ◌<◌, ◌≤◌, ◌*◌, ◌%◌, ◌∙◌, ℕ, Bool, true, false, ◌&&◌, ◌||◌, List, arith, ap, sym, inl, inr}
use Rattle.std.specs.Prelude.{pos, ◌-ℤ◌, unsigned_abs, nat_le, nat_lt}
use Rattle.std.specs.Int.{int_rem_euclid}
use Rattle.std.proofs.Math.Bool.{or-false}
use Rattle.std.proofs.Math.Nat.{mod-mod}
use Rattle.std.proofs.lemmas.Bool.{cases_lt}
use Rattle.std.proofs.lemmas.Bool.Decides.{nat_tests}
use Rattle.fixed_text.specs.declared.time_mark.TimeMark.{TimeMark}
use Rattle.time_pred.specs.Marks.{finest_of, is_at, period_of, value_of}
use Rattle.week_plan.specs.Spans.{IsFor}
use Rattle.week_plan.specs.Tables.{is_told}

-- a mark comes back after its period, and an interval after the longer one of its marks
pub mark_back : (mark : TimeMark) (minutes : ℕ) → 60 * minutes ≡ period_of mark → (at : ℕ) → is_at mark (at % (60 * minutes)) ≡ is_at mark at
mark_back mark minutes is at =
    ap (λ (n : ℕ). is_at mark (at % n)) is
    ∙ ap (λ (n : ℕ). nat_lt (unsigned_abs (int_rem_euclid (pos n -ℤ pos (value_of mark)) (pos (period_of mark)))) (finest_of mark)) (mod-mod at (period_of mark))

-- the seconds before this one are told where the test holds, and none is from there on
pub record IsFilled (test : ℕ → Bool) (words : List ℕ) (at : ℕ) : Type 0 where
  pub done : (x : ℕ) → x < at → x < 604800 → is_told words x ≡ test x
  pub rest : (x : ℕ) → at ≤ x → x < 604800 → is_told words x ≡ false

pub filled_more : (test : ℕ → Bool) (old new : List ℕ) (at next : ℕ) (told : Bool) → IsFilled test old at → at ≤ next → IsFor test at next told
    → ((x : ℕ) → x < 604800 → is_told new x ≡ (is_told old x || (nat_le at x && nat_lt x next && told)))
    → IsFilled test new next
filled_more test old new at next told before later same added = record {
  done = λ x low week. elim (cases_lt x at) [
    | inl is ↦
        added x week
        ∙ (let none : (nat_le at x && nat_lt x next && told) ≡ false = (let no : nat_le at x ≡ false = grind (arith, nat_tests, is) in ap (λ (b : Bool). b && nat_lt x next && told) no) in ap (λ (b : Bool). is_told old x || b) none ∙ or-false (is_told old x))
        ∙ before.done x is week
    | inr first ↦
        added x week
        ∙ ap (λ (b : Bool). b || (nat_le at x && nat_lt x next && told)) (before.rest x first week)
        ∙ (let yes : (nat_le at x && nat_lt x next) ≡ true = grind (arith, nat_tests, first, low) in ap (λ (b : Bool). b && told) yes)
        ∙ sym (same x first low)
  ];
  rest = λ x high week.
      added x week
      ∙ ap (λ (b : Bool). b || (nat_le at x && nat_lt x next && told)) (before.rest x (omega (arith, high, later)) week)
      ∙ (let no : (nat_le at x && nat_lt x next) ≡ false = grind (arith, nat_tests, high) in ap (λ (b : Bool). b && told) no);
}
