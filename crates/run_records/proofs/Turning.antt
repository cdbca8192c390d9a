-- Rounds told by turns: turn j is tick j / M of clock j % M.
use Rattle.std.proofs.Common.{◌≡◌, ◌<◌, ◌∙◌, ◌+◌, ◌*◌, ◌/◌, ◌%◌, ◌++◌, ℕ, zero, suc, Bool, List, ap, sym, arith, suc-mul, mod-eq_of_lt, append_assoc, append-nil}
use native.Mathlib.Nat.{add-mul-mod_self_right, add-mul-div_right, div-eq_of_lt, add_comm}
use Rattle.frame_core.specs.Calls.{Call}
use Rattle.stream_meaning.specs.Instants.{Setting}
use Rattle.stream_meaning.specs.Calls.{joined_upto, calls_of_tick}
use Rattle.stream_meaning.proofs.Answering.{joined_same}
use Rattle.run_records.specs.Records.{rounds_of}

pub joined_split : (f : ℕ → List Call) (t n : ℕ) → joined_upto f (t + n) ≡ joined_upto f t ++ joined_upto (λ j. f (t + j)) n
joined_split f t zero = let e : t + 0 ≡ t = omega arith in ap (joined_upto f) e ∙ sym (append-nil (joined_upto f t))
joined_split f t (suc n) =
    let e : t + suc n ≡ suc (t + n) = omega arith in
    ap (joined_upto f) e ∙ (λ i. joined_split f t n i ++ f (t + n)) ∙ append_assoc (joined_upto f t) (joined_upto (λ j. f (t + j)) n) (f (t + n))

-- turn t * M + m stands in round t at place m
turns_nested : (turns : ℕ → List Call) (calls : ℕ → ℕ → List Call) (M N : ℕ) → ((t m : ℕ) → m < M → turns (t * M + m) ≡ calls m t)
    → joined_upto turns (N * M) ≡ joined_upto (λ t. joined_upto (λ m. calls m t) M) N
turns_nested turns calls M zero same = let none : 0 * M ≡ 0 = grind arith in ap (joined_upto turns) none
turns_nested turns calls M (suc N) same =
    ap (joined_upto turns) (suc-mul N M) ∙ joined_split turns (N * M) M
    ∙ (λ i. turns_nested turns calls M N same i ++ joined_same (λ m. turns (N * M + m)) (λ m. calls m N) M (λ m low. same N m low) i)

place : (t m M : ℕ) → m < M → (t * M + m) % M ≡ m
place t m M low = ap (λ (n : ℕ). n % M) (add_comm (t * M) m) ∙ add-mul-mod_self_right m t M ∙ mod-eq_of_lt low

round : (t m M : ℕ) → m < M → (t * M + m) / M ≡ t
round t m M low = ap (λ (n : ℕ). n / M) (add_comm (t * M) m) ∙ add-mul-div_right m t (omega (arith, low)) ∙ ap (λ (n : ℕ). n + t) (div-eq_of_lt low) ∙ (let none : 0 + t ≡ t = omega arith in none)

-- the calls of N rounds of M clocks, by turns and by rounds
pub turns_are_rounds : (setting : Setting) (accepted : ℕ → ℕ → Bool) (M N : ℕ)
    → joined_upto (λ j. calls_of_tick setting (accepted j) (j % M) (j / M)) (N * M) ≡ rounds_of setting (λ m t. accepted (t * M + m)) M N
turns_are_rounds setting accepted M N = turns_nested (λ j. calls_of_tick setting (accepted j) (j % M) (j / M)) (λ m t. calls_of_tick setting (accepted (t * M + m)) m t) M N
    (λ t m low. λ i. calls_of_tick setting (accepted (t * M + m)) (place t m M low i) (round t m M low i))
