-- Spans as a text, one by one.
use Rattle.std.proofs.Common.{◌≡◌, ◌<◌, ◌+◌, ◌-◌, ◌∙◌, ℕ, Bool, false, List, ◌∷◌, ◌++◌, length, drop, get_or, arith, ap, sym, append_assoc}
use Rattle.std.specs.Prelude.{nat_eq, if◌then◌else◌}
use Rattle.std.proofs.lemmas.List.{at_drop_more, length-drop}
use Rattle.week_plan.specs.declared.listing.Round.{Round}
use Rattle.week_plan.specs.Listing.{comma, more_text, no_round, round_text, rounds_text}

-- eight are told, and then how many more there are
pub told_more : (daily : Bool) (rounds : List Round) (k : ℕ) (all into new : List ℕ) → k < length rounds → k ≡ 8
    → all ≡ into ++ rounds_text daily k (drop k rounds) → new ≡ into ++ more_text (length rounds - k) → new ≡ all
told_more daily rounds k all into new here eight all_is new_is = new_is ∙ ap (λ (t : List ℕ). into ++ t) (sym text) ∙ sym all_is
  where
    rest : List Round
    rest = get_or rounds k no_round ∷ drop (k + 1) rounds

    size : length rest ≡ length rounds - k
    size = let left = length-drop (k + 1) rounds in omega (arith, left, here)

    text : rounds_text daily k (drop k rounds) ≡ more_text (length rounds - k)
    text = at_drop_more (λ xs. rounds_text daily k xs) rounds k no_round here ∙ ap (λ (n : ℕ). rounds_text daily n rest) eight ∙ ap more_text size

-- one more is told
pub told_one : (daily : Bool) (rounds : List Round) (k : ℕ) (all into new : List ℕ) → k < length rounds → nat_eq k 8 ≡ false
    → all ≡ into ++ rounds_text daily k (drop k rounds) → new ≡ into ++ (comma k ++ round_text daily (get_or rounds k no_round))
    → all ≡ new ++ rounds_text daily (k + 1) (drop (k + 1) rounds)
told_one daily rounds k all into new here few all_is new_is =
    all_is ∙ ap (λ (t : List ℕ). into ++ t) (at_drop_more (λ xs. rounds_text daily k xs) rounds k no_round here ∙ one) ∙ sym (append_assoc into item behind) ∙ ap (λ (t : List ℕ). t ++ behind) (sym new_is)
  where
    item : List ℕ
    item = comma k ++ round_text daily (get_or rounds k no_round)

    behind : List ℕ
    behind = rounds_text daily (k + 1) (drop (k + 1) rounds)

    one : rounds_text daily k (get_or rounds k no_round ∷ drop (k + 1) rounds) ≡ item ++ behind
    one = ap (λ (b : Bool). if b then more_text (length (get_or rounds k no_round ∷ drop (k + 1) rounds)) else item ++ behind) few
