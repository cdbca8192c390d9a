-- A text stops at one place alone.
use Rattle.std.proofs.Common.{◌≡◌, ℕ, ◌<◌, List, [], ◌∷◌, ◌++◌, length, refl, sym, ap, ◌∙◌, subst, arith, append_assoc, length-append, ⊎_elim}
use Rattle.std.proofs.lemmas.Str.{encode_same, char_from_byte, len_utf8_bounds, length-encode}
use Rattle.std.proofs.Math.Utf8.{encode}
use Rattle.std.specs.List.{flat_map}
use Rattle.script_lex.specs.Spelling.{TextPiece, PlainPiece, Escaped, written, IsPiece, ArePieces, IsQuote, IsQuotedText, IsUnclosed, IsBadInText}
use Rattle.script_lex.proofs.Pieces.{quote_low}
use Rattle.script_lex.proofs.Apart.{cons_head, cons_tail}

-- no character of a text begins these bytes
abbrev pub Stuck : ℕ → List ℕ → Type 0
Stuck q bytes = (p : TextPiece) (rest : List ℕ) → IsPiece q p → bytes ≡ written p ++ rest → ⊥

-- bytes that begin with this one begin with that character
low_first : (b c : ℕ) (bs rest : List ℕ) → b < 128 → b ∷ bs ≡ encode c ++ rest → c ≡ b
low_first b c bs rest low is = char_from_byte (b ∷ bs) rest c is low (omega arith)

piece_same : (q : ℕ) (p r : TextPiece) (x y : List ℕ) → IsPiece q p → IsPiece q r → written p ++ x ≡ written r ++ y → (p ≡ r) × (x ≡ y)
piece_same q (PlainPiece c) (PlainPiece d) x y h k is = let e = encode_same c d x y is in (ap PlainPiece e.0, e.1)
piece_same q (Escaped c) (Escaped d) x y h k is = let e : c ≡ d = cc in (ap Escaped e, cc)
piece_same q (PlainPiece c) (Escaped d) x y h k is = absurd (h.3 (low_first 92 c (d ∷ y) x (omega arith) (sym is)))
piece_same q (Escaped c) (PlainPiece d) x y h k is = absurd (k.3 (low_first 92 d (c ∷ x) y (omega arith) is))

pieces_same : (q : ℕ) (ps rs : List TextPiece) (x y : List ℕ) → ArePieces q ps → ArePieces q rs → Stuck q x → Stuck q y → flat_map written ps ++ x ≡ flat_map written rs ++ y → (ps ≡ rs) × (x ≡ y)
pieces_same q [] [] x y h k a b is = (refl, is)
pieces_same q [] (r ∷ rs) x y h k a b is = absurd (a r (flat_map written rs ++ y) k.0 (is ∙ append_assoc (written r) (flat_map written rs) y))
pieces_same q (p ∷ ps) [] x y h k a b is = absurd (b p (flat_map written ps ++ x) h.0 (sym is ∙ append_assoc (written p) (flat_map written ps) x))
pieces_same q (p ∷ ps) (r ∷ rs) x y h k a b is =
    let whole : written p ++ (flat_map written ps ++ x) ≡ written r ++ (flat_map written rs ++ y) = sym (append_assoc (written p) (flat_map written ps) x) ∙ is ∙ append_assoc (written r) (flat_map written rs) y in
    let e = piece_same q p r (flat_map written ps ++ x) (flat_map written rs ++ y) h.0 k.0 whole in
    let more = pieces_same q ps rs x y h.1 k.1 a b e.1 in
    let both : p ∷ ps ≡ r ∷ rs = ap (λ z. z ∷ ps) e.0 ∙ ap (λ (zs : List TextPiece). r ∷ zs) more.0 in
    (both, more.1)

-- a quote, characters, and where they stop
pub record Halt (bytes : List ℕ) : Type 0 where
  pub quote : ℕ
  pub pieces : List TextPiece
  pub end : List ℕ
  pub is_quote : IsQuote quote
  pub allowed : ArePieces quote pieces
  pub spelled : bytes ≡ quote ∷ flat_map written pieces ++ end
  pub stuck : Stuck quote end

pub halts_one : (bytes : List ℕ) (a b : Halt bytes) → (a.pieces ≡ b.pieces) × (a.end ≡ b.end) × (a.quote ≡ b.quote)
halts_one bytes a b =
    let whole : a.quote ∷ (flat_map written a.pieces ++ a.end) ≡ b.quote ∷ (flat_map written b.pieces ++ b.end) = sym a.spelled ∙ b.spelled in
    let same = cons_head a.quote b.quote (flat_map written a.pieces ++ a.end) (flat_map written b.pieces ++ b.end) whole in
    let P : ℕ → Type 0 = λ q. ArePieces q b.pieces in
    let S : ℕ → Type 0 = λ q. Stuck q b.end in
    let e = pieces_same a.quote a.pieces b.pieces a.end b.end a.allowed (subst P (sym same) b.allowed) a.stuck (subst S (sym same) b.stuck) (cons_tail a.quote b.quote (flat_map written a.pieces ++ a.end) (flat_map written b.pieces ++ b.end) whole) in
    (e.0, e.1, same)

pub stuck_quote : (q : ℕ) → IsQuote q → (r : List ℕ) → Stuck q (q ∷ r)
stuck_quote q quote r = λ p rest piece is. by_piece q quote r p rest piece is
  where
    by_piece : (q : ℕ) → IsQuote q → (r : List ℕ) (p : TextPiece) (rest : List ℕ) → IsPiece q p → q ∷ r ≡ written p ++ rest → ⊥
    by_piece q quote r (PlainPiece c) rest piece is = let low = (quote_low q quote).0 in piece.4 (low_first q c r rest (omega arith) is)
    by_piece q quote r (Escaped c) rest piece is = let low = (quote_low q quote).0 in let same = cons_head q 92 r (c ∷ rest) is in omega arith

pub stuck_empty : (q : ℕ) → Stuck q []
stuck_empty q = λ p rest piece is. by_piece q p rest piece is
  where
    by_piece : (q : ℕ) (p : TextPiece) (rest : List ℕ) → IsPiece q p → [] ≡ written p ++ rest → ⊥
    by_piece q (PlainPiece c) rest piece is = let size = ap length is in let sum = length-append (encode c) rest in let n = len_utf8_bounds c in let l = length-encode c in omega arith
    by_piece q (Escaped c) rest piece is = cc

pub stuck_slash : (q : ℕ) → Stuck q (92 ∷ [])
stuck_slash q = λ p rest piece is. by_piece q p rest piece is
  where
    by_piece : (q : ℕ) (p : TextPiece) (rest : List ℕ) → IsPiece q p → 92 ∷ [] ≡ written p ++ rest → ⊥
    by_piece q (PlainPiece c) rest piece is = piece.3 (low_first 92 c [] rest (omega arith) is)
    by_piece q (Escaped c) rest piece is = let size = ap length is in omega arith

-- a text that closes, one that is cut, and one with a bad byte
abbrev pub closed_halt : (value text rest bytes : List ℕ) → (t : IsQuotedText value text) → bytes ≡ text ++ rest → Halt bytes
closed_halt value text rest bytes t is = record {
  quote = t.quote;
  pieces = t.pieces;
  end = t.quote ∷ rest;
  is_quote = t.is_quote;
  allowed = t.allowed;
  spelled = is ∙ ap (λ (l : List ℕ). l ++ rest) t.spelled ∙ ap (λ (l : List ℕ). t.quote ∷ l) (append_assoc (flat_map written t.pieces) (t.quote ∷ []) rest);
  stuck = stuck_quote t.quote t.is_quote rest;
}

abbrev pub cut_halt : (bytes : List ℕ) → (t : IsUnclosed bytes) → Halt bytes
cut_halt bytes t = record {
  quote = t.quote;
  pieces = t.pieces;
  end = t.last;
  is_quote = t.is_quote;
  allowed = t.allowed;
  spelled = t.spelled;
  stuck = let S : List ℕ → Type 0 = λ l. Stuck t.quote l in ⊎_elim (λ e. subst S (sym e) (stuck_empty t.quote)) (λ e. subst S (sym e) (stuck_slash t.quote)) t.cut;
}

abbrev pub bad_halt : (bytes : List ℕ) (left : ℕ) → (t : IsBadInText bytes left) → Halt bytes
bad_halt bytes left t = record {
  quote = t.quote;
  pieces = t.pieces;
  end = t.bad;
  is_quote = t.is_quote;
  allowed = t.allowed;
  spelled = t.spelled;
  stuck = t.no_piece.no_piece;
}
