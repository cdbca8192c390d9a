-- The rank of a variable: how deep its bindings go.
use Rattle.std.specs.Prelude.{ℕ, zero, suc, ◌+◌, List, [], ◌∷◌, Option, Some, None}
use Rattle.type_terms.specs.Term.{Term, height}
use Rattle.type_terms.specs.Variables.{Variable}
use Rattle.type_terms.specs.Table.{bound_at}

-- 1 for a variable that is bound to something, else 0, to be added up
abbrev pub one_if_bound : Option Term → ℕ
one_if_bound None = 0
one_if_bound (Some t) = 1

-- how many of these type variables are bound to something
abbrev pub bound_count : List Variable → ℕ
bound_count [] = 0
bound_count (v ∷ vs) = one_if_bound v.bound + bound_count vs

-- the type variables with the binding of variable k taken away, so that it is free
abbrev pub erase : ℕ → List Variable → List Variable
erase k [] = []
erase zero (v ∷ vs) = record v { bound = None } ∷ vs
erase (suc k) (v ∷ vs) = v ∷ erase k vs

-- the rank of a variable, how deep its bindings go, by what it is bound to: 0 without a binding, else one more than
-- the height of that type, in which each variable is as high as `w` says
abbrev pub rank_step : (ℕ → ℕ) → Option Term → ℕ
rank_step w None = 0
rank_step w (Some t) = suc (height w t)

-- the rank of variable k, how deep its bindings go, where at most n variables are bound: one more than the height of
-- what it is bound to, in which it is itself free
abbrev pub rank_in : ℕ → List Variable → ℕ → ℕ
rank_in zero vs k = 0
rank_in (suc n) vs k = rank_step (rank_in n (erase k vs)) (bound_at vs k)

-- the rank of each variable, how deep its bindings go, computed from the bindings alone
unfoldable pub rank_of : List Variable → ℕ → ℕ
rank_of vs = rank_in (bound_count vs) vs
