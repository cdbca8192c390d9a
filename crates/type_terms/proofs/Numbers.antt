-- Which of two variables stays free.
use Rattle.std.proofs.Common.{◌≡◌, ◌∙◌, sym, refl, Bool, true, false}
use Rattle.std.specs.Bool.{OnTrue, OnFalse}
use mathlib.Core.Bool.{beq}

pub equal_bits : (a b : Bool) → beq a b ≡ true → a ≡ b
equal_bits true true e = refl
equal_bits true false e = absurd (let g : ◌≡◌ {A = Bool} false true = e in cc)
equal_bits false true e = absurd (let g : ◌≡◌ {A = Bool} false true = e in cc)
equal_bits false false e = refl

-- two tests, where one may stand for the other

pub same_yes : (r a b : Bool) → a ≡ b → OnTrue r (b ≡ true → a ≡ true)
same_yes true a b e = λ f. e ∙ f
same_yes false a b e = tt

pub same_no : (r a b : Bool) → a ≡ b → OnFalse r (a ≡ true → b ≡ true)
same_no true a b e = tt
same_no false a b e = λ f. sym e ∙ f

pub own_yes : (r a b : Bool) → a ≡ r → OnTrue r (b ≡ true → a ≡ true)
own_yes true a b e = λ f. e
own_yes false a b e = tt

pub own_no : (r a b : Bool) → a ≡ r → OnFalse r (a ≡ true → b ≡ true)
own_no true a b e = tt
own_no false a b e = λ f. absurd (let g : ◌≡◌ {A = Bool} false true = sym e ∙ f in cc)
