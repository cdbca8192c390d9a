-- What is known where a test has come out.
use Rattle.std.proofs.Common.{◌≡◌, ◌∙◌, sym, refl, ℕ, Bool, true, false, eqb, eqb-true, eq-eqb}
use Rattle.std.specs.Bool.{OnTrue, OnFalse}

pub on_true : (P : Type 0) → OnTrue true P → P
on_true P h = h

pub on_false : (P : Type 0) → OnFalse false P → P
on_false P h = h

pub on_equal : (m n : ℕ) (P : Type 0) → (m ≡ n → P) → OnTrue (eqb m n) P
on_equal m n P f = by (eqb m n) refl
  where
    by : (b : Bool) → eqb m n ≡ b → OnTrue b P
    by true e = f (eqb-true m n e)
    by false e = tt

pub on_unequal : (m n : ℕ) (P : Type 0) → ((m ≡ n → ⊥) → P) → OnFalse (eqb m n) P
on_unequal m n P f = by (eqb m n) refl
  where
    by : (b : Bool) → eqb m n ≡ b → OnFalse b P
    by true e = tt
    by false e = f (λ q. let g : ◌≡◌ {A = Bool} true false = sym (eq-eqb m n q) ∙ e in cc)
