-- The first byte of a spelling tells the class of its shape.
use Rattle.std.proofs.Common.{◌≡◌, ℕ, ◌≤◌, true, false, ◌&&◌, eqb, leb, List, [], ◌∷◌, ◌++◌, refl, sym, ap, ◌∙◌, arith, ⊎_elim, inl, inr, if◌then◌else◌}
use Rattle.std.proofs.lemmas.Bool.{or_cases, and_parts, eqb-true, leb-true}
use Rattle.std.specs.Char.{is_ascii_digit, is_ascii_alphabetic}
use Rattle.std.specs.List.{flat_map}
use Rattle.std.specs.Str.Parse.{IsNumeral}
use Rattle.script_lex.specs.Bytes.{is_letter, is_quote}
use Rattle.script_lex.specs.Words.{symbol_text}
use Rattle.script_lex.specs.Spelling.{Shape, AWord, AnOpen, AnInt, ANumber, ATime, AText, AWav, ASymbol, SpellsShape, IsDotted, behind_points, written, IsQuote}
use Rattle.script_lex.specs.declared.token.Symbol.{Symbol}
use Rattle.script_lex.specs.declared.token.Symbol.TheVariants as symbols
use Rattle.fixed_text.proofs.Numerals.{digit_back}
use Rattle.script_lex.proofs.Fronts.{choose}
use Rattle.script_lex.proofs.Times.{time_starts}

pub data Class : Type 0 where
  Letter : Class
  Digit : Class
  Quote : Class
  Sign : Class

abbrev pub class_of : ℕ → Class
class_of b = if is_letter b then Letter else (if is_ascii_digit b then Digit else (if is_quote b then Quote else Sign))

abbrev pub class : Shape → Class
class (AWord w) = Letter
class (AnOpen n) = Letter
class (AnInt d) = Digit
class (ANumber w f) = Digit
class (ATime d h m s) = Digit
class (AText v) = Quote
class AWav = Sign
class (ASymbol s) = Sign

letter_high : (b : ℕ) → is_letter b ≡ true → 65 ≤ b
letter_high b e =
    ⊎_elim
    (λ a. ⊎_elim (λ x. let h = leb-true 65 b (and_parts (leb 65 b) (leb b 90) x).0 in omega arith) (λ x. let h = leb-true 97 b (and_parts (leb 97 b) (leb b 122) x).0 in omega arith) (or_cases (leb 65 b && leb b 90) (leb 97 b && leb b 122) a))
    (λ u. let h = eqb-true b 95 u in omega arith)
    (or_cases (is_ascii_alphabetic b) (eqb b 95) e)

pub digit_not_letter : (b : ℕ) → is_ascii_digit b ≡ true → is_letter b ≡ false
digit_not_letter b e =
    choose (is_letter b)
    (λ l. let high = letter_high b l in let low = leb-true b 57 (and_parts (leb 48 b) (leb b 57) e).1 in absurd (omega arith))
    (λ l. l)

pub letter_class : (b : ℕ) → is_letter b ≡ true → class_of b ≡ Letter
letter_class b e = rw e refl

pub digit_class : (b : ℕ) → is_ascii_digit b ≡ true → class_of b ≡ Digit
digit_class b e = rw (digit_not_letter b e, e) refl

pub quote_class : (b : ℕ) → IsQuote b → class_of b ≡ Quote
quote_class b quote = ⊎_elim (λ e. ap class_of e) (λ e. ap class_of e) quote

pub is_quote_of : (b : ℕ) → is_quote b ≡ true → IsQuote b
is_quote_of b e = ⊎_elim (λ h. inl (eqb-true b 34 h)) (λ h. inr (eqb-true b 39 h)) (or_cases (eqb b 34) (eqb b 39) e)

pub record Starts (class : Class) (text : List ℕ) : Type 0 where
  pub head : ℕ
  pub tail : List ℕ
  pub is : text ≡ head ∷ tail
  pub first : class_of head ≡ class

pub dotted_starts : (text : List ℕ) → IsDotted text → Starts Letter text
dotted_starts text ([], parts, is_part, are, is) = absurd is_part
dotted_starts text (b ∷ w, parts, is_part, are, is) = record { head = b; tail = w ++ behind_points parts; is = is; first = letter_class b is_part.0 }

pub numeral_starts : (digits more : List ℕ) → IsNumeral 10 digits → Starts Digit (digits ++ more)
numeral_starts [] more n = absurd (let h = n.0 in omega arith)
numeral_starts (b ∷ bs) more n = record { head = b; tail = bs ++ more; is = refl; first = digit_class b (digit_back b n.1.0) }

symbol_starts : (symbol : Symbol) → Starts Sign (symbol_text symbol)
symbol_starts symbols.Assign = record { head = 61; tail = []; is = refl; first = refl }
symbol_starts symbols.Equal = record { head = 61; tail = 61 ∷ []; is = refl; first = refl }
symbol_starts symbols.Differs = record { head = 33; tail = 61 ∷ []; is = refl; first = refl }
symbol_starts symbols.Less = record { head = 60; tail = []; is = refl; first = refl }
symbol_starts symbols.AtMost = record { head = 60; tail = 61 ∷ []; is = refl; first = refl }
symbol_starts symbols.Greater = record { head = 62; tail = []; is = refl; first = refl }
symbol_starts symbols.AtLeast = record { head = 62; tail = 61 ∷ []; is = refl; first = refl }
symbol_starts symbols.Plus = record { head = 43; tail = []; is = refl; first = refl }
symbol_starts symbols.Minus = record { head = 45; tail = []; is = refl; first = refl }
symbol_starts symbols.Star = record { head = 42; tail = []; is = refl; first = refl }
symbol_starts symbols.Slash = record { head = 47; tail = []; is = refl; first = refl }
symbol_starts symbols.OpenRound = record { head = 40; tail = []; is = refl; first = refl }
symbol_starts symbols.CloseRound = record { head = 41; tail = []; is = refl; first = refl }
symbol_starts symbols.OpenSquare = record { head = 91; tail = []; is = refl; first = refl }
symbol_starts symbols.CloseSquare = record { head = 93; tail = []; is = refl; first = refl }
symbol_starts symbols.OpenCurly = record { head = 123; tail = []; is = refl; first = refl }
symbol_starts symbols.CloseCurly = record { head = 125; tail = []; is = refl; first = refl }
symbol_starts symbols.Comma = record { head = 44; tail = []; is = refl; first = refl }
symbol_starts symbols.Semicolon = record { head = 59; tail = []; is = refl; first = refl }
symbol_starts symbols.Tilde = record { head = 126; tail = []; is = refl; first = refl }

starts_at : (class : Class) (text other : List ℕ) → text ≡ other → Starts class other → Starts class text
starts_at class text other is s = record { head = s.head; tail = s.tail; is = is ∙ s.is; first = s.first }

append_nil : (a : List ℕ) → a ++ [] ≡ a
append_nil [] = refl
append_nil (x ∷ a) = ap (λ (l : List ℕ). x ∷ l) (append_nil a)

pub starts : (shape : Shape) (text : List ℕ) → SpellsShape shape text → Starts (class shape) text
starts (AWord w) text s = dotted_starts text s.0
starts (AnOpen name) text s = let d = dotted_starts name s.0 in record { head = d.head; tail = d.tail ++ 40 ∷ []; is = s.2 ∙ ap (λ (l : List ℕ). l ++ 40 ∷ []) d.is; first = d.first }
starts (AnInt digits) text s = starts_at Digit text (text ++ []) (sym (append_nil text)) (numeral_starts text [] s.0)
starts (ANumber w f) text s = starts_at Digit text (w ++ 46 ∷ f) s.2 (numeral_starts w (46 ∷ f) s.0)
starts (ATime d h m s) text t = let b = time_starts d h m s text t in starts_at Digit text (b.digits ++ b.unit ∷ b.more) b.is (numeral_starts b.digits (b.unit ∷ b.more) b.numeral)
starts (AText value) text s = record { head = s.quote; tail = flat_map written s.pieces ++ s.quote ∷ []; is = s.spelled; first = quote_class s.quote s.is_quote }
starts AWav text s = record { head = 37; tail = 119 ∷ 97 ∷ 118 ∷ []; is = s; first = refl }
starts (ASymbol symbol) text s = starts_at Sign text (symbol_text symbol) s (symbol_starts symbol)

-- the first byte of the bytes decides
pub first_of : (shape : Shape) (b : ℕ) (bs text behind : List ℕ) → SpellsShape shape text → b ∷ bs ≡ text ++ behind → class_of b ≡ class shape
first_of shape b bs text behind s is =
    let st = starts shape text s in
    let whole : b ∷ bs ≡ st.head ∷ (st.tail ++ behind) = is ∙ ap (λ (l : List ℕ). l ++ behind) st.is in
    let same : st.head ≡ b = cc in
    ap class_of (sym same) ∙ st.first
