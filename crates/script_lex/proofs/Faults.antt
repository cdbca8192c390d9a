-- What is told as a fault stands there.
use Rattle.std.proofs.Common.{◌≡◌, ℕ, ◌+◌, ◌-◌, Bool, false, List, [], ◌∷◌, ◌++◌, length, take, drop, refl, sym, ap, ◌∙◌, subst, arith, length-append, length-drop, length-take-le, IsUtf8, Err, inr, take-append-drop}
use Rattle.std.proofs.lemmas.Str.{IsUtf8-from_is_utf8, is_utf8-from_IsUtf8}
use Rattle.std.proofs.Math.Seq.{take-append-add, take-append_seam}
use Rattle.std.specs.Str.{is_utf8}
use Rattle.std.specs.Str.Lossy.{utf8_valid_len}
use Rattle.script_lex.specs.Reading.{body_end, text_at, text_from, front}
use Rattle.script_lex.specs.Spelling.{IsBadInText, LexStop, Bad, IsQuote}
use Rattle.script_lex.proofs.Fronts.{choose, front_is}
use Rattle.script_lex.proofs.Apart.{StopsAt, chosen, differ}
use Rattle.script_lex.proofs.Pieces.{Stop}
use Rattle.script_lex.proofs.Texts.{stop_split, fault_valid}
use Rattle.script_lex.proofs.Utf8.{Longest, valid_up_to}
use Rattle.script_lex.proofs.Broken.{not_utf8_bad}

-- a body that is not UTF-8, parted behind its longest front
parted : (q : ℕ) → IsQuote q → (t rest : List ℕ) → length (body_end q (t ++ rest)).1 ≡ length rest → is_utf8 t ≡ false → (n : ℕ) → Longest t (length t) n → (a b : List ℕ) → a ++ b ≡ t → length a ≡ n → IsUtf8 a → IsBadInText (q ∷ (t ++ rest)) (length (b ++ rest))
parted q quote t rest stop never n l a [] whole size utf8 =
    let same : a ≡ t = sym (append_nil a) ∙ whole in absurd (differ (sym (is_utf8-from_IsUtf8 t (subst IsUtf8 same utf8)) ∙ never))
  where
    append_nil : (a : List ℕ) → a ++ [] ≡ a
    append_nil [] = refl
    append_nil (x ∷ a) = ap (λ (l : List ℕ). x ∷ l) (append_nil a)
parted q quote t rest stop never n l a (x ∷ xs) whole size utf8 =
    let S : List ℕ → ℕ = λ z. length (body_end q (z ++ rest)).1 in
    let P : List ℕ → Type 0 = λ z. IsBadInText (q ∷ (z ++ rest)) (length ((x ∷ xs) ++ rest)) in
    subst P whole (not_utf8_bad q a rest x xs (record {
      quote = quote;
      front = utf8;
      some = omega arith;
      stop = ap S whole ∙ stop;
      longest = λ y z some is u.
          let all : t ≡ a ++ (y ++ z) = sym whole ∙ ap (λ (w : List ℕ). a ++ w) is in
          let cut : take (length a + length y) t ≡ a ++ y = ap (λ w. take (length a + length y) w) all ∙ take-append-add a (y ++ z) (length y) ∙ ap (λ (w : List ℕ). a ++ w) (take-append_seam y z) in
          let sum = ap length all ∙ length-append a (y ++ z) in
          let sum2 = length-append y z in
          l.longest (length a + length y) (omega arith) (omega arith) (subst IsUtf8 (sym cut) u);
    }))

invalid : (q : ℕ) → IsQuote q → (t rest : List ℕ) → length (body_end q (t ++ rest)).1 ≡ length rest → is_utf8 t ≡ false → IsBadInText (q ∷ (t ++ rest)) (length (t ++ rest) - utf8_valid_len t)
invalid q quote t rest stop never =
    let n = utf8_valid_len t in
    let l = valid_up_to t never in
    let low = l.low in
    let size = length-take-le n t l.low in
    let bad = parted q quote t rest stop never n l (take n t) (drop n t) (take-append-drop n t) size l.front in
    let left : length (drop n t ++ rest) ≡ length (t ++ rest) - n = let d = length-drop n t in let e = length-append (drop n t) rest in let f = length-append t rest in omega arith in
    subst (IsBadInText (q ∷ (t ++ rest))) left bad

pub text_fault : (q : ℕ) → IsQuote q → (bs : List ℕ) (f : LexStop) → text_at q bs ≡ Err f → StopsAt f (q ∷ bs)
unfolding text_at
text_fault q quote bs f is =
    let s = stop_split q quote bs in
    let stop = body_end q bs in
    let before : front bs stop.1 ≡ s.0 = ap (λ x. front x stop.1) s.1 ∙ front_is s.0 stop.1 in
    let P : Bool → Type 0 = λ b. chosen b (text_from (front bs stop.1) stop.1 stop.0 (length bs + 1)) (Err (Bad (length bs - utf8_valid_len (front bs stop.1)))) ≡ Err f in
    let R : List ℕ → Type 0 = λ x. StopsAt f (q ∷ x) in
    choose (is_utf8 (front bs stop.1))
    (λ u.
    let is' = subst P u is in
    let utf8 : IsUtf8 s.0 = subst IsUtf8 before (IsUtf8-from_is_utf8 (front bs stop.1) u) in
    let Q : List ℕ → Type 0 = λ x. text_from x stop.1 stop.0 (length bs + 1) ≡ Err f in
    let size = ap length s.1 in
    subst R (sym s.1) (fault_valid q quote s.0 stop.1 stop.0 utf8 (ap (body_end q) (sym s.1)) (length bs + 1) (omega arith) f (subst Q before is')))
    (λ u.
    let is' = subst P u is in
    let same : Bad (length bs - utf8_valid_len (front bs stop.1)) ≡ f = cc in
    let T : Stop → ℕ = λ z. length z.1 in
    let stops : length (body_end q (s.0 ++ stop.1)).1 ≡ length stop.1 = ap T (ap (body_end q) (sym s.1)) in
    let bad = invalid q quote s.0 stop.1 stops (ap is_utf8 (sym before) ∙ u) in
    let place : length (s.0 ++ stop.1) - utf8_valid_len s.0 ≡ length bs - utf8_valid_len (front bs stop.1) = ap (λ z. length z - utf8_valid_len s.0) (sym s.1) ∙ ap (λ z. length bs - utf8_valid_len z) (sym before) in
    let F : LexStop → Type 0 = λ z. StopsAt z (q ∷ bs) in
    let B : List ℕ → Type 0 = λ x. IsBadInText (q ∷ x) (length bs - utf8_valid_len (front bs stop.1)) in
    subst F same (inr (subst B (sym s.1) (subst (IsBadInText (q ∷ (s.0 ++ stop.1))) place bad))))
