-- A text that is not UTF-8 up to its stop.
use Rattle.std.proofs.Common.{◌≡◌, ℕ, ◌≤◌, true, false, ltb, List, [], ◌∷◌, ◌++◌, length, refl, sym, ap, ◌∙◌, subst, arith, append_assoc, length-append, IsUtf8}
use Rattle.std.proofs.lemmas.Bool.{ltb-true, ltb-false}
use Rattle.std.proofs.lemmas.Str.{IsUtf8-append, IsUtf8-encode, encode_ascii, len_utf8_bounds, length-encode}
use Rattle.std.proofs.Math.Utf8.{encode, encodes, low_scalar}
use Rattle.script_lex.specs.Reading.{body_end}
use Rattle.script_lex.specs.Spelling.{IsBadInText, IsQuote, written, TextPiece, PlainPiece, Escaped, IsPiece}
use Rattle.script_lex.proofs.Fronts.{choose}
use Rattle.script_lex.proofs.Pieces.{Stop, quote_low, stop_le, piece_eaten, pieces_eaten}
use Rattle.script_lex.proofs.Closed.{Written, pieces_of, high_not_escapable}
use Rattle.script_lex.proofs.Apart.{lengths}

-- Of a body t before rest, where reading stops, the front a is UTF-8 and b is not, nor is any longer front of t. Then
-- the characters of a are written so.
pub record Parted (q : ℕ) (a b rest : List ℕ) : Type 0 where
  pub quote : IsQuote q
  pub front : IsUtf8 a
  pub some : 1 ≤ length b
  pub stop : length (body_end q ((a ++ b) ++ rest)).1 ≡ length rest
  pub longest : (x y : List ℕ) → 1 ≤ length x → b ≡ x ++ y → IsUtf8 (a ++ x) → ⊥

differ : true ≡ false → ⊥
differ h = cc

-- the first byte of b is no ASCII
first_high : (q : ℕ) (a rest : List ℕ) (x : ℕ) (xs : List ℕ) → Parted q a (x ∷ xs) rest → 128 ≤ x
first_high q a rest x xs p =
    choose (ltb x 128)
    (λ e. let low = ltb-true x 128 e in let u : IsUtf8 (x ∷ []) = subst IsUtf8 (encode_ascii x low) (IsUtf8-encode x (low_scalar x (omega arith))) in absurd (p.longest (x ∷ []) xs (omega arith) refl (IsUtf8-append a (x ∷ []) p.front u)))
    (λ e. ltb-false x 128 e)

head_is : (x y : ℕ) (xs ys : List ℕ) → x ∷ xs ≡ y ∷ ys → x ≡ y
head_is x y xs ys is = cc

tail_is : (x y : ℕ) (xs ys : List ℕ) → x ∷ xs ≡ y ∷ ys → xs ≡ ys
tail_is x y xs ys is = cc

-- the shorter of two fronts begins the longer
prefix : (h r b rest : List ℕ) → b ++ rest ≡ h ++ r → length h ≤ length b → (y : List ℕ) × (b ≡ h ++ y)
prefix [] r b rest is le = (b, refl)
prefix (x ∷ h) r [] rest is le = absurd (omega arith)
prefix (x ∷ h) r (y ∷ b) rest is le =
    let go = prefix h r b rest (tail_is y x (b ++ rest) (h ++ r) is) (omega arith) in
    let same = head_is y x (b ++ rest) (h ++ r) is in
    (go.0, ap (λ (l : List ℕ). y ∷ l) go.1 ∙ ap (λ n. n ∷ (h ++ go.0)) same)

-- the characters of the front
front_written : (q : ℕ) (a rest : List ℕ) (x : ℕ) (xs : List ℕ) → Parted q a (x ∷ xs) rest → Written q a
front_written q a rest x xs p =
    let high = first_high q a rest x xs p in
    let u = p.front in
    let sum = length-append (x ∷ xs) rest in
    let whole : encodes u.0 ++ ((x ∷ xs) ++ rest) ≡ (a ++ (x ∷ xs)) ++ rest = ap (λ (l : List ℕ). l ++ ((x ∷ xs) ++ rest)) u.1.1 ∙ sym (append_assoc a (x ∷ xs) rest) in
    let S : List ℕ → ℕ = λ l. length (body_end q l).1 in
    let size : length (body_end q (encodes u.0 ++ ((x ∷ xs) ++ rest))).1 ≡ length rest = ap S whole ∙ p.stop in
    subst (Written q) u.1.1 (pieces_of q p.quote u.0 u.1.0 ((x ∷ xs) ++ rest) (omega arith, λ y rs is esc. absurd (differ (sym esc ∙ high_not_escapable y (let same = head_is x y (xs ++ rest) rs is in omega arith)))))

plain_none : (q : ℕ) (a rest : List ℕ) (x : ℕ) (xs : List ℕ) (p : Parted q a (x ∷ xs) rest) (c : ℕ) (r : List ℕ) → IsPiece q (PlainPiece c) → (x ∷ xs) ++ rest ≡ encode c ++ r → ⊥
plain_none q a rest x xs p c r piece is =
    let high = first_high q a rest x xs p in
    let w = front_written q a rest x xs p in
    let S : List ℕ → ℕ = λ l. length (body_end q l).1 in
    let T : Stop → ℕ = λ s. length s.1 in
    let over : body_end q ((a ++ (x ∷ xs)) ++ rest) ≡ body_end q r =
    ap (body_end q) (append_assoc a (x ∷ xs) rest) ∙ ap (λ l. body_end q (l ++ ((x ∷ xs) ++ rest))) w.spelled ∙ pieces_eaten q p.quote w.pieces w.allowed ((x ∷ xs) ++ rest) ∙ ap (body_end q) is ∙ piece_eaten q p.quote (PlainPiece c) piece r in
    let size = ap T over in
    let stop = p.stop in
    let le = stop_le q p.quote r in
    let sum = lengths (x ∷ xs) rest (encode c) r is in
    let short : length (encode c) ≤ length (x ∷ xs) = omega arith in
    let y = prefix (encode c) r (x ∷ xs) rest is short in
    let some : 1 ≤ length (encode c) = let n = len_utf8_bounds c in let l = length-encode c in omega arith in
    p.longest (encode c) y.0 some y.1 (IsUtf8-append a (encode c) p.front (IsUtf8-encode c piece.0))

pub not_utf8_bad : (q : ℕ) (a rest : List ℕ) (x : ℕ) (xs : List ℕ) → Parted q a (x ∷ xs) rest → IsBadInText (q ∷ ((a ++ (x ∷ xs)) ++ rest)) (length ((x ∷ xs) ++ rest))
not_utf8_bad q a rest x xs p =
    let high = first_high q a rest x xs p in
    let w = front_written q a rest x xs p in
    let low = quote_low q p.quote in
    record {
      quote = q;
      pieces = w.pieces;
      bad = (x ∷ xs) ++ rest;
      is_quote = p.quote;
      allowed = w.allowed;
      spelled = ap (λ (l : List ℕ). q ∷ l) (append_assoc a (x ∷ xs) rest) ∙ ap (λ (l : List ℕ). q ∷ (l ++ ((x ∷ xs) ++ rest))) w.spelled;
      no_piece = record {
        no_piece = λ pc r piece is. none pc r piece is;
        no_quote = λ r is. let same = head_is x q (xs ++ rest) r is in omega (arith, low.0);
        no_end = (λ is. cc, λ is. let same = head_is x 92 (xs ++ rest) [] is in omega arith);
      };
      place = refl;
    }
  where
    none : (pc : TextPiece) (r : List ℕ) → IsPiece q pc → (x ∷ xs) ++ rest ≡ written pc ++ r → ⊥
    none (PlainPiece c) r piece is = plain_none q a rest x xs p c r piece is
    none (Escaped c) r piece is = let same = head_is x 92 (xs ++ rest) (c ∷ r) is in let high = first_high q a rest x xs p in omega arith
