-- Kinds and what kind variables are bound to.
use Rattle.std.proofs.Common.{◌≡◌, refl, ℕ, zero, suc, ◌<◌, List, [], ◌∷◌, length, Option, Some, None, get_or, arith}
use Rattle.type_terms.specs.Table.{kind_at, FallsByNumber}
use Rattle.type_terms.specs.Term.{InKind}
use Rattle.type_terms.specs.declared.ty.KindTerm.{KindTerm}
use Rattle.type_terms.specs.declared.ty.KindTerm.TheVariants.{Fixed, Var}

abbrev pub kind_height : KindTerm → ℕ
kind_height (Fixed k) = 0
kind_height (Var n) = suc n

pub lower : (ks : List (Option KindTerm)) → FallsByNumber ks → (n : ℕ) (t : KindTerm) → kind_at ks n ≡ Some t → kind_height t < suc n
lower ks f n (Fixed k) e = omega arith
lower ks f n (Var j) e = omega (arith, f.falls n j e)

pub lower_over : (ks : List (Option KindTerm)) → FallsByNumber ks → (n : ℕ) (t : KindTerm) → n < length ks → kind_at ks n ≡ Some t → InKind (λ m. m < length ks) t
lower_over ks f n (Fixed k) h e = tt
lower_over ks f n (Var j) h e = omega (arith, f.falls n j e)

pub kind_at-get_or : (ks : List (Option KindTerm)) (n : ℕ) → kind_at ks n ≡ get_or ks n None
kind_at-get_or [] n = refl
kind_at-get_or (k ∷ ks) zero = refl
kind_at-get_or (k ∷ ks) (suc n) = kind_at-get_or ks n

pub var_injective : (m n : ℕ) → Var m ≡ Var n → m ≡ n
var_injective m n e = cc
