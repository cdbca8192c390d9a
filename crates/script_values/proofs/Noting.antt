-- Noting the calls of sources.
use Rattle.std.proofs.Common.{◌≡◌, ℕ, zero, suc, ◌+◌, ◌-◌, ◌<◌, ◌≤◌, List, [], ◌∷◌, ◌++◌, length, replicate, refl, sym, ap, ◌∙◌, append_assoc, arith}
use Rattle.std.proofs.lemmas.List.{append-nil, length-append, length-replicate, length_push}
use Rattle.script_values.specs.Machines.{filled}

one_and : (n k at : ℕ) → n ≡ suc k → replicate n at ≡ at ∷ replicate k at
one_and n k at is = ap (λ (j : ℕ). replicate j at) is

-- one call more is noted
pub filled_more : (at sources : ℕ) (calls : List ℕ) → length calls < sources → filled at sources (calls ++ at ∷ []) ≡ filled at sources calls
filled_more at sources calls lt =
    let long : length (calls ++ at ∷ []) ≡ length calls + 1 = length-append calls (at ∷ []) in
    append_assoc calls (at ∷ []) (replicate (sources - length (calls ++ at ∷ [])) at)
    ∙ ap (λ (l : List ℕ). calls ++ l) (sym (one_and (sources - length calls) (sources - length (calls ++ at ∷ [])) at (omega (arith, long, lt))))

-- all are noted
pub filled_full : (at sources : ℕ) (calls : List ℕ) → sources ≤ length calls → filled at sources calls ≡ calls
filled_full at sources calls le =
    ap (λ (n : ℕ). calls ++ replicate n at) (let none : sources - length calls ≡ 0 = omega (arith, le) in none) ∙ append-nil calls

-- a call is noted of each source
pub filled_length : (at sources : ℕ) (calls : List ℕ) → length calls ≤ sources → length (filled at sources calls) ≡ sources
filled_length at sources calls le =
    let all = length-append calls (replicate (sources - length calls) at) in
    let more = length-replicate (sources - length calls) at in
    omega (arith, all, more, le)
