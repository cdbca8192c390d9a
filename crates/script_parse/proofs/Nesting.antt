-- Counting brackets, one token more.
use Rattle.std.proofs.Common.{◌≡◌, ℕ, ◌+◌, ◌<◌, ◌≤◌, List, length, take, inl, inr, Bool, true, false, refl, sym, ap, subst, ◌∙◌, arith}
use Rattle.std.specs.Prelude.{get_or}
use Rattle.std.specs.List.{count_by}
use Rattle.std.proofs.lemmas.Bool.{cases_lt}
use Rattle.std.proofs.lemmas.List.{get_or-map, length-map}
use Rattle.std.proofs.lemmas.List.Sums.{count_by_more_yes, count_by_more_no}
use Rattle.liq_base.specs.declared.limits.TheConstants.{MAX_NESTING}
use Rattle.script_lex.specs.declared.token.Token.{Token}
use Rattle.script_lex.specs.declared.token.TokenKind.{TokenKind}
use Rattle.parse_base.specs.Gives.{token_kind, kinds}
use Rattle.script_parse.specs.Places.{opens, closes, IsDeepAt, IsDepthPlace}

kind_at : (ts : List Token) (i : ℕ) (t : Token) → i < length ts → t ≡ get_or ts i t → get_or (kinds ts) i (token_kind t) ≡ token_kind t
kind_at ts i t lt e = get_or-map token_kind ts i t (token_kind t) lt ∙ ap token_kind (sym e)

-- n counts the token at i, if it passes the test
by_case : (test : TokenKind → Bool) (ts : List Token) (i : ℕ) (t : Token) (n : ℕ) → i < length ts → t ≡ get_or ts i t → (test (token_kind t) ≡ true → n ≡ 1) → (test (token_kind t) ≡ false → n ≡ 0) → (b : Bool) → test (token_kind t) ≡ b → count_by test (take i (kinds ts)) + n ≡ count_by test (take (i + 1) (kinds ts))
by_case test ts i t n lt e one zero true h =
    let short : i < length (kinds ts) = omega (arith, lt, length-map ts token_kind) in
    let more = count_by_more_yes test (kinds ts) i (token_kind t) short (ap test (kind_at ts i t lt e) ∙ h) in
    omega (arith, more, one h)
by_case test ts i t n lt e one zero false h =
    let short : i < length (kinds ts) = omega (arith, lt, length-map ts token_kind) in
    let same = count_by_more_no test (kinds ts) i (token_kind t) short (ap test (kind_at ts i t lt e) ∙ h) in
    omega (arith, same, zero h)

pub counted : (test : TokenKind → Bool) (ts : List Token) (i : ℕ) (t : Token) (before n : ℕ) → before ≡ count_by test (take i (kinds ts)) → i < length ts → t ≡ get_or ts i t → (test (token_kind t) ≡ true → n ≡ 1) → (test (token_kind t) ≡ false → n ≡ 0) → before + n ≡ count_by test (take (i + 1) (kinds ts))
counted test ts i t before n so_far lt e one zero = ap (λ (m : ℕ). m + n) so_far ∙ by_case test ts i t n lt e one zero (test (token_kind t)) refl

pub at_most_one : (b : Bool) (n : ℕ) → (b ≡ true → n ≡ 1) → (b ≡ false → n ≡ 0) → n ≤ 1
at_most_one true n one zero = omega (arith, one refl)
at_most_one false n one zero = omega (arith, zero refl)

-- no token up to i nests too deep
pub still_shallow : (ts : List Token) (i opened closed : ℕ) → opened ≡ count_by opens (take (i + 1) (kinds ts)) → closed ≡ count_by closes (take (i + 1) (kinds ts)) → opened ≤ closed + MAX_NESTING → ((j : ℕ) → j < i → IsDeepAt (kinds ts) j → ⊥) → (j : ℕ) → j < i + 1 → IsDeepAt (kinds ts) j → ⊥
still_shallow ts i opened closed o c le before j lt deep = elim (cases_lt j i) [
  | inl less ↦ before j less deep
  | inr more ↦
      let same : j ≡ i = omega (arith, lt, more) in
      let here : count_by closes (take (i + 1) (kinds ts)) + MAX_NESTING < count_by opens (take (i + 1) (kinds ts)) = subst (λ (k : ℕ). IsDeepAt (kinds ts) k) same deep in
      absurd (omega (arith, here, o, c, le))
]

pub deep_here : (ts : List Token) (i opened closed : ℕ) → i < length ts → opened ≡ count_by opens (take (i + 1) (kinds ts)) → closed ≡ count_by closes (take (i + 1) (kinds ts)) → closed + MAX_NESTING < opened → ((j : ℕ) → j < i → IsDeepAt (kinds ts) j → ⊥) → IsDepthPlace (kinds ts) i
deep_here ts i opened closed lt o c more before = record { within = omega (arith, lt, length-map ts token_kind); here = omega (arith, o, c, more); first = before }
