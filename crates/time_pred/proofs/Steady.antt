-- For how long an interval and a list of predicates stay.
use Rattle.std.proofs.Common.{◌≡◌, ◌<◌, ◌≤◌, ◌+◌, ◌-◌, ◌*◌, ◌%◌, ◌∙◌, ◌⊎◌, ℕ, zero, suc, Bool, true, false, cond, List, [], ◌∷◌, ◌++◌, take, length, get_or, max, arith, refl, ap, sym, subst, inl, inr}
use Rattle.std.specs.Prelude.{nat_lt, nat_le, ◌&&◌, ◌||◌, is_some}
use Rattle.std.specs.List.{list_all, list_any}
use Rattle.std.proofs.lemmas.Bool.{cases_lt}
use Rattle.std.proofs.lemmas.Bool.Decides.{nat_tests}
use Rattle.std.proofs.Math.Nat.{mod-add-mod, mod-eq_of_lt, mod-mod_of_dvd, dvd-mul_left}
use Rattle.fixed_text.specs.declared.time_mark.TimeMark.{TimeMark}
use Rattle.time_pred.specs.Marks.{Stays, is_between, is_in_interval, period_of, value_of}

-- a week has a whole number of these
abbrev pub Wholes : ℕ → Type 0
Wholes period = (times : ℕ) × (604800 ≡ times * period)

period_wholes : (m : TimeMark) → Wholes (period_of m)
period_wholes m = by (is_some m.day) (is_some m.hour) (is_some m.minute)
  where
    by : (day hour minute : Bool) → (times : ℕ) × (604800 ≡ times * (cond day 604800 (cond hour 86400 (cond minute 3600 60))))
    by true hour minute = (1, refl)
    by false true minute = (7, refl)
    by false false true = (168, refl)
    by false false false = (10080, refl)

max_wholes : (a b : ℕ) → Wholes a → Wholes b → Wholes (max a b)
max_wholes a b x y = elim (cases_lt a b) [
  | inl low ↦ (let e : max a b ≡ b = omega (arith, low) in subst Wholes (sym e) y)
  | inr high ↦ (let e : max a b ≡ a = omega (arith, high) in subst Wholes (sym e) x)
]

pub both_wholes : (from to : TimeMark) → Wholes (max (period_of from) (period_of to))
both_wholes from to = max_wholes (period_of from) (period_of to) (period_wholes from) (period_wholes to)

-- so many seconds later within the period
pub later_is : (period at j : ℕ) → Wholes period → at % period + j < period → ((at + j) % 604800) % period ≡ at % period + j
later_is period at j (times, whole) less =
    ap (λ week. ((at + j) % week) % period) whole
    ∙ mod-mod_of_dvd period (at + j) (dvd-mul_left period times)
    ∙ sym (mod-add-mod at period j) ∙ mod-eq_of_lt less

same_le : (a x j : ℕ) → (x < a → x + j < a) → nat_le a (x + j) ≡ nat_le a x
same_le a x j ahead = elim (cases_lt x a) [
  | inl low ↦ (let h = ahead low in let e : nat_le a (x + j) ≡ false = grind (arith, nat_tests, h) in let f : nat_le a x ≡ false = grind (arith, nat_tests, low) in e ∙ sym f)
  | inr high ↦ (let e : nat_le a (x + j) ≡ true = grind (arith, nat_tests, high) in let f : nat_le a x ≡ true = grind (arith, nat_tests, high) in e ∙ sym f)
]

same_lt : (b x j : ℕ) → (x < b → x + j < b) → nat_lt (x + j) b ≡ nat_lt x b
same_lt b x j ahead = elim (cases_lt x b) [
  | inl low ↦ (let h = ahead low in let e : nat_lt (x + j) b ≡ true = grind (arith, nat_tests, h) in let f : nat_lt x b ≡ true = grind (arith, nat_tests, low) in e ∙ sym f)
  | inr high ↦ (let e : nat_lt (x + j) b ≡ false = grind (arith, nat_tests, high) in let f : nat_lt x b ≡ false = grind (arith, nat_tests, high) in e ∙ sym f)
]

pub within_same : (a b x j : ℕ) → (x < a → x + j < a) → (x < b → x + j < b) → is_in_interval a b (x + j) ≡ is_in_interval a b x
within_same a b x j first end =
    ap (λ (low : Bool). cond (nat_le a b) (low && nat_lt (x + j) b) (low || nat_lt (x + j) b)) (same_le a x j first)
    ∙ ap (λ (high : Bool). cond (nat_le a b) (nat_le a x && high) (nat_le a x || high)) (same_lt b x j end)

-- what each of a list's parts says stays, so what all of them say, and what some do
pub all_same : {A : Type 0} (f g : A → Bool) (xs : List A) → ((x : A) (i : ℕ) → i < length xs → get_or xs i x ≡ x → f x ≡ g x) → list_all f xs ≡ list_all g xs
all_same f g [] same = refl
all_same f g (x ∷ xs) same =
    ap (λ (b : Bool). b && list_all f xs) (same x 0 (omega arith) refl)
    ∙ ap (λ (b : Bool). g x && b) (all_same f g xs (λ y i low is. same y (suc i) (omega (arith, low)) is))

pub any_same : {A : Type 0} (f g : A → Bool) (xs : List A) → ((x : A) (i : ℕ) → i < length xs → get_or xs i x ≡ x → f x ≡ g x) → list_any f xs ≡ list_any g xs
any_same f g [] same = refl
any_same f g (x ∷ xs) same =
    ap (λ (b : Bool). b || list_any f xs) (same x 0 (omega arith) refl)
    ∙ ap (λ (b : Bool). g x || b) (any_same f g xs (λ y i low is. same y (suc i) (omega (arith, low)) is))
