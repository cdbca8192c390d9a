use Rattle.std.proofs.Common.{◌≡◌, ◌≢◌, ◌∙◌, sym, ap, refl, eqb, eqb-true, eq-eqb, ℕ, zero, suc, ◌+◌, ◌<◌, Bool, true, false, List, [], ◌∷◌, ◌++◌, length, slice_index, arith}
use Rattle.std.proofs.lemmas.List.{length_push}
use Rattle.clock_infer.proofs.numbers.all_nodes.Goals as goal

before : (xs : List ℕ) (y i : ℕ) → i < length xs → slice_index (xs ++ y ∷ []) i ≡ slice_index xs i
before [] y i h = absurd (omega arith)
before (x ∷ xs) y zero h = refl
before (x ∷ xs) y (suc i) h = before xs y i (omega arith)

at_end : (xs : List ℕ) (y : ℕ) → slice_index (xs ++ y ∷ []) (length xs) ≡ y
at_end [] y = refl
at_end (x ∷ xs) y = at_end xs y

-- one number more is its own place
own_more : (xs : List ℕ) (n : ℕ) → length xs ≡ n → ((i : ℕ) → i < n → slice_index xs i ≡ i) → (i : ℕ) → i < n + 1 → slice_index (xs ++ n ∷ []) i ≡ i
own_more xs n size own i h = by (eqb i n) refl
  where
    by : (b : Bool) → eqb i n ≡ b → slice_index (xs ++ n ∷ []) i ≡ i
    by true e =
        let same : i ≡ n = eqb-true i n e in
        ap (λ j. slice_index (xs ++ n ∷ []) j) (same ∙ sym size) ∙ at_end xs n ∙ sym same
    by false e =
        let other : i ≢ n = λ q. (let g : ◌≡◌ {A = Bool} true false = sym (eq-eqb i n q) ∙ e in cc) in
        let lower : i < n = omega arith in
        before xs n i (omega arith) ∙ own i lower

pub loop-number-preserved : goal.loop-number-preserved
loop-number-preserved c = record {
  size = ap length c.in_ok-push.ensures.items ∙ length_push c.loop-number.nodes.items c.loop-number.number ∙ ap (λ (n : ℕ). n + 1) c.loop-number.invariant.size;
  own = λ i h. ap (λ (xs : List ℕ). slice_index xs i) c.in_ok-push.ensures.items ∙ own_more c.loop-number.nodes.items c.loop-number.number c.loop-number.invariant.size c.loop-number.invariant.own i h;
}
