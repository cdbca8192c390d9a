-- The first byte of what is not UTF-8 in a text.
use Rattle.std.proofs.Common.{◌≡◌, ℕ, zero, suc, ◌<◌, ◌≤◌, true, false, eqb, List, length, take, refl, sym, ◌∙◌, subst, arith, IsUtf8}
use Rattle.std.specs.Str.{is_utf8}
use Rattle.std.specs.Str.Lossy.{utf8_valid_len, valid_len_up_to}
use Rattle.std.proofs.lemmas.Str.{IsUtf8-from_is_utf8, is_utf8-from_IsUtf8, IsUtf8-nil}
use Rattle.std.proofs.lemmas.Bool.{eqb-true, eqb-false}
use Rattle.script_lex.proofs.Fronts.{choose}

-- the longest front that is UTF-8, among those of at most n bytes
pub record Longest (bs : List ℕ) (n at : ℕ) : Type 0 where
  pub low : at ≤ n
  pub front : IsUtf8 (take at bs)
  pub longest : (m : ℕ) → at < m → m ≤ n → IsUtf8 (take m bs) → ⊥

longest_front : (bs : List ℕ) (n : ℕ) → Longest bs n (valid_len_up_to bs n)
longest_front bs zero = record { low = omega arith; front = IsUtf8-nil; longest = λ m a b u. omega arith }
longest_front bs (suc n) =
    choose (is_utf8 (take (suc n) bs))
    (λ e. subst (Longest bs (suc n)) (sym (yes bs n e)) (record { low = omega arith; front = IsUtf8-from_is_utf8 (take (suc n) bs) e; longest = λ m a b u. omega arith }))
    (λ e. let ih = longest_front bs n in subst (Longest bs (suc n)) (sym (not_yet bs n e)) (record {
      low = let l = ih.low in omega arith;
      front = ih.front;
      longest = λ m a b u. choose (eqb m (suc n))
          (λ is. let P : ℕ → Type 0 = λ x. IsUtf8 (take x bs) in let t = is_utf8-from_IsUtf8 (take (suc n) bs) (subst P (eqb-true m (suc n) is) u) in differ (sym t ∙ e))
          (λ is. let ne = eqb-false m (suc n) is in ih.longest m a (omega arith) u);
    }))
  where
    yes : (bs : List ℕ) (n : ℕ) → is_utf8 (take (suc n) bs) ≡ true → valid_len_up_to bs (suc n) ≡ suc n
    yes bs n e = rw e refl

    not_yet : (bs : List ℕ) (n : ℕ) → is_utf8 (take (suc n) bs) ≡ false → valid_len_up_to bs (suc n) ≡ valid_len_up_to bs n
    not_yet bs n e = rw e refl

    differ : true ≡ false → ⊥
    differ h = cc

-- bytes that are not UTF-8 have a longest front that is
pub valid_up_to : (bs : List ℕ) → is_utf8 bs ≡ false → Longest bs (length bs) (utf8_valid_len bs)
unfolding utf8_valid_len
valid_up_to bs e = longest_front bs (length bs)
