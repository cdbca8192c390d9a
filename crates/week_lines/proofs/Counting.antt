-- How many seconds are silent, and how they are told.
use Rattle.std.proofs.Common.{◌≡◌, ◌<◌, ◌+◌, ◌∙◌, ℕ, zero, suc, Bool, cond, [], arith, refl, ap, sym}
use Rattle.std.proofs.lemmas.Bool.{ne_eqb}
use Rattle.week_plan.specs.Tables.{how_many}
use Rattle.week_lines.specs.Lines.{sum_line, sum_text}

pub counted : (test other : ℕ → Bool) (n : ℕ) → ((at : ℕ) → at < n → test at ≡ other at) → how_many test n ≡ how_many other n
unfolding how_many
counted test other zero same = refl
counted test other (suc n) same =
    ap (λ (m : ℕ). m + cond (test n) 1 0) (counted test other n (λ at low. same at (omega (arith, low))))
    ∙ ap (λ (b : Bool). how_many other n + cond b 1 0) (same n (omega arith))

pub some_sum : (seconds : ℕ) → (seconds ≡ 0 → ⊥) → sum_text seconds ≡ sum_line seconds
some_sum seconds some = sym (ap (λ (b : Bool). cond b [] (sum_text seconds)) (ne_eqb seconds 0 some))
