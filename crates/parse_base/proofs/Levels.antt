-- The recursions of reading, of predicates and of values: so many levels.
use Rattle.std.proofs.Common.{◌≡◌, ℕ, zero, suc, ◌+◌, List, length, false, Err, refl, ap, arith}
use Rattle.std.proofs.lemmas.List.{length-map}
use Rattle.script_lex.specs.declared.token.Token.{Token}
use Rattle.script_grammar.specs.ReadPredicate.{por_step, por_by, por}
use Rattle.script_grammar.specs.ReadValue.{full_step, full_by}
use Rattle.parse_base.specs.Gives.{token_kind, kinds}

-- no level is left
pub por_ends : (n : ℕ) (ts : List Token) → n ≡ 0 → por_by n (kinds ts) ≡ Err (length ts)
unfolding por_by
por_ends zero ts e = rw (length-map ts token_kind) refl
por_ends (suc n) ts e = absurd (omega arith)

-- one level less
pub por_turn : (n m : ℕ) (ts : List Token) → n ≡ m + 1 → por_by n (kinds ts) ≡ por_step (por_by m) (kinds ts)
unfolding por_by
por_turn n m ts e =
    let next : n ≡ suc m = omega arith in
    ap (λ (k : ℕ). por_by k (kinds ts)) next

-- a level more than there are tokens
pub por_levels : (ts : List Token) → por (kinds ts) ≡ por_by (length ts + 1) (kinds ts)
unfolding por
por_levels ts =
    let levels : suc (length (kinds ts)) ≡ length ts + 1 = omega (arith, length-map ts token_kind) in
    ap (λ (k : ℕ). por_by k (kinds ts)) levels

-- no level is left for a value
pub full_ends : (n : ℕ) (stamp : ℕ → ℕ) (ts : List Token) → n ≡ 0 → full_by n stamp (kinds ts) ≡ Err (length ts)
unfolding full_by
full_ends zero stamp ts e = rw (length-map ts token_kind) refl
full_ends (suc n) stamp ts e = absurd (omega arith)

-- one level less for a value
pub full_turn : (n m : ℕ) (stamp : ℕ → ℕ) (ts : List Token) → n ≡ m + 1 → full_by n stamp (kinds ts) ≡ full_step false stamp (full_by m stamp) (kinds ts)
unfolding full_by
full_turn n m stamp ts e =
    let next : n ≡ suc m = omega arith in
    ap (λ (k : ℕ). full_by k stamp (kinds ts)) next
