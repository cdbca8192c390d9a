-- The spellings of tokens, apart from any scanner. A shape is a token before its bounds are looked at.
use Rattle.std.specs.Prelude.{◌≡◌, ◌≢◌, ℕ, pos, ◌≤◌, ◌⊎◌, Bool, true, false, ◌&&◌, nat_le, List, [], ◌∷◌, ◌++◌, length, Option, Some, None, option_map, codes, encode_utf8}
use Rattle.std.specs.List.{flat_map}
use Rattle.std.specs.Char.{IsScalar}
use Rattle.std.specs.Str.Parse.{IsNumeral, AllDigits, digits_value}
use Rattle.fixed_text.specs.Texts.{millionths}
use Rattle.fixed_text.specs.declared.decimal.Decimal.{Decimal}
use Rattle.fixed_text.specs.declared.time_mark.TimeMark.{TimeMark}
use Rattle.script_lex.specs.Bytes.{is_letter, is_word, is_escapable}
use Rattle.script_lex.specs.Words.{keyword_of, symbol_text}
use Rattle.script_lex.specs.declared.token.Keyword.{Keyword}
use Rattle.script_lex.specs.declared.token.Symbol.{Symbol}
use Rattle.script_lex.specs.declared.token.TokenKind.{TokenKind}
use Rattle.script_lex.specs.declared.token.TokenKind.TheVariants as kinds

-- How a token is written, before its value is computed: a word, a name with its `(`, an int, a decimal number, a time
-- of the week, a quoted text, `%wav` or a symbol. Digits are kept as bytes; a part that a time lacks is None.
pub data Shape : Type 0 where
  AWord : List ℕ → Shape
  AnOpen : (name : List ℕ) → Shape
  AnInt : (digits : List ℕ) → Shape
  ANumber : (whole fraction : List ℕ) → Shape
  ATime : (day hour minute second : Option (List ℕ)) → Shape
  AText : (value : List ℕ) → Shape
  AWav : Shape
  ASymbol : Symbol → Shape

-- each byte of the list is a letter, `_` or a digit, as bytes of a name are behind its first
abbrev pub AllWord : List ℕ → Type 0
AllWord [] = Unit {0}
AllWord (b ∷ bs) = (is_word b ≡ true) × AllWord bs

-- a part of a dotted name: a letter or `_`, and then letters, `_` and digits
abbrev pub IsPart : List ℕ → Type 0
IsPart [] = ⊥
IsPart (b ∷ bs) = (is_letter b ≡ true) × AllWord bs

-- each of these byte lists is a part of a dotted name: a letter or `_`, and then letters, `_` and digits
abbrev pub AreParts : List (List ℕ) → Type 0
AreParts [] = Unit {0}
AreParts (p ∷ ps) = IsPart p × AreParts ps

-- the text of the further parts of a dotted name, each behind a point
abbrev pub behind_points : List (List ℕ) → List ℕ
behind_points [] = []
behind_points (p ∷ ps) = 46 ∷ p ++ behind_points ps

-- the text is spelled as a name or a keyword: one or more parts, joined by points, as in `output.file`
abbrev pub IsDotted : List ℕ → Type 0
IsDotted text = (part : List ℕ) × (parts : List (List ℕ)) × IsPart part × AreParts parts
    × (text ≡ part ++ behind_points parts)

-- The text of one part of a time of the week, such as `12h`: its digits and the byte of its unit. A part that the time
-- lacks has no text.
abbrev pub part_text : Option (List ℕ) → ℕ → List ℕ
part_text None unit = []
part_text (Some digits) unit = digits ++ unit ∷ []

-- the digits of one part of a time of the week, such as `12h`, are one digit or more; a part that the time lacks passes
abbrev pub IsDigits : Option (List ℕ) → Type 0
IsDigits None = Unit {0}
IsDigits (Some digits) = IsNumeral 10 digits

-- the text of a time such as `1w12h30m5s`: the parts that it has, each with its unit, in this order
abbrev pub time_text : (day hour minute second : Option (List ℕ)) → List ℕ
time_text day hour minute second = part_text day 119
    ++ (part_text hour 104 ++ (part_text minute 109 ++ part_text second 115))

-- the text is a time in the short form, such as `7h30`: its last part is minutes without a unit, directly behind the
-- hour
abbrev pub IsShortTime : (day hour minute second : Option (List ℕ)) → List ℕ → Type 0
IsShortTime day (Some hour) (Some minute) None text = text ≡ part_text day 119 ++ (part_text (Some hour) 104 ++ minute)
IsShortTime day hour minute second text = ⊥

-- the text writes a time of these parts, at least one of them: each part with its unit, or in the short form
pub record IsTimeText (day hour minute second : Option (List ℕ)) (text : List ℕ) : Type 0 where
  pub day_digits : IsDigits day
  pub hour_digits : IsDigits hour
  pub minute_digits : IsDigits minute
  pub second_digits : IsDigits second
  pub some : text ≢ []
  pub spelled : (text ≡ time_text day hour minute second) ⊎ IsShortTime day hour minute second text

-- One character within a quoted text of a script: it stands for itself, or stands behind a backslash. A character is
-- told by its number in Unicode.
pub data TextPiece : Type 0 where
  PlainPiece : ℕ → TextPiece
  Escaped : ℕ → TextPiece

-- the bytes by which one character of a quoted text is written in the script, with the backslash before it, if it has
-- one
abbrev pub written : TextPiece → List ℕ
written (PlainPiece c) = encode_utf8 c
written (Escaped c) = 92 ∷ c ∷ []

-- the bytes that one character of a quoted text stands for, without the backslash before it
abbrev pub meant_bytes : TextPiece → List ℕ
meant_bytes (PlainPiece c) = encode_utf8 c
meant_bytes (Escaped c) = c ∷ []

-- A character may stand in a text between two of this quote. Behind a backslash that is a quote or a backslash. Alone
-- it is U+0020 or above, and not U+007F, the backslash or this quote.
abbrev pub IsPiece : ℕ → TextPiece → Type 0
IsPiece quote (PlainPiece c) = IsScalar c × (32 ≤ c) × (c ≢ 127) × (c ≢ 92) × (c ≢ quote)
IsPiece quote (Escaped c) = is_escapable c ≡ true

-- each of these characters may stand in a text between two of this quote, `"` or `'`
abbrev pub ArePieces : ℕ → List TextPiece → Type 0
ArePieces quote [] = Unit {0}
ArePieces quote (p ∷ ps) = IsPiece quote p × ArePieces quote ps

-- the byte is a quote, `"` or `'`
abbrev pub IsQuote : ℕ → Type 0
IsQuote q = (q ≡ 34) ⊎ (q ≡ 39)

-- `text` is a string as a script has it, between quotes of one sort, and `value` the bytes that it stands for
pub record IsQuotedText (value text : List ℕ) : Type 0 where
  pub quote : ℕ
  pub pieces : List TextPiece
  pub is_quote : IsQuote quote
  pub allowed : ArePieces quote pieces
  pub spelled : text ≡ quote ∷ flat_map written pieces ++ quote ∷ []
  pub means : value ≡ flat_map meant_bytes pieces

-- the bytes `text` write a token of this shape, whatever its numbers are; the bounds of numbers are checked later
abbrev pub SpellsShape : Shape → List ℕ → Type 0
SpellsShape (AWord word) text = IsDotted text × (word ≡ text)
SpellsShape (AnOpen name) text = IsDotted name × (keyword_of name ≡ None) × (text ≡ name ++ 40 ∷ [])
SpellsShape (AnInt digits) text = IsNumeral 10 text × (digits ≡ text)
SpellsShape (ANumber whole fraction) text = IsNumeral 10 whole × AllDigits 10 fraction × (text ≡ whole ++ 46 ∷ fraction)
SpellsShape (ATime day hour minute second) text = IsTimeText day hour minute second text
SpellsShape (AText value) text = IsQuotedText value text
SpellsShape AWav text = text ≡ codes "%wav"
SpellsShape (ASymbol symbol) text = text ≡ symbol_text symbol

-- Whether the number of one part of a time of the week, such as the hour, is at most `most`. A part that the time lacks
-- passes.
abbrev pub is_up_to : ℕ → Option (List ℕ) → Bool
is_up_to most None = true
is_up_to most (Some digits) = nat_le (digits_value 10 digits) most

-- Whether the numbers of a written token are within their bounds: an int up to 2^63 - 1, a decimal of at most six
-- places up to 10^9, and the day, hour, minute and second of a time.
abbrev pub is_within : Shape → Bool
is_within (AnInt digits) = nat_le (digits_value 10 digits) 9223372036854775807
is_within (ANumber whole fraction) = nat_le (length fraction) 6 && nat_le (millionths whole fraction) 1000000000000000
is_within (ATime day hour minute second) = is_up_to 7 day
    && (is_up_to 24 hour && (is_up_to 60 minute && is_up_to 60 second))
is_within shape = true

-- the token that a word is: the keyword that was found for it, and else a name
abbrev pub kind_of_word : List ℕ → Option Keyword → TokenKind
kind_of_word word None = kinds.Name word
kind_of_word word (Some keyword) = kinds.Keyword keyword

-- the number that the digits of one part of a time of the week write; None where the time lacks the part
abbrev pub values : Option (List ℕ) → Option ℕ
values = option_map (λ digits. digits_value 10 digits)

-- the time of the week that these digits of its parts mean; None is a part that it lacks
abbrev pub mark_of : (day hour minute second : Option (List ℕ)) → TimeMark
mark_of day hour minute second = record {
  day = values day;
  hour = values hour;
  minute = values minute;
  second = values second;
}

-- The token that a written shape stands for is `kind`. Digits become their number, and a word becomes a keyword or a
-- name.
abbrev pub Means : Shape → TokenKind → Type 0
Means (AWord word) kind = kind ≡ kind_of_word word (keyword_of word)
Means (AnOpen name) kind = kind ≡ kinds.NameOpen name
Means (AnInt digits) kind = kind ≡ kinds.Int (pos (digits_value 10 digits))
Means (ANumber whole fraction) kind = (decimal : Decimal) × (kind ≡ kinds.Number decimal)
    × (decimal.millionths ≡ pos (millionths whole fraction))
Means (ATime day hour minute second) kind = kind ≡ kinds.Time (mark_of day hour minute second)
Means (AText value) kind = kind ≡ kinds.Str value
Means AWav kind = kind ≡ kinds.Wav
Means (ASymbol symbol) kind = kind ≡ kinds.Symbol symbol

-- A token of this shape is written at the beginning of `bytes`, with `rest` behind it. It is the longest: no more bytes
-- from the beginning on write a token of any shape.
pub record IsLongest (shape : Shape) (bytes rest : List ℕ) : Type 0 where
  pub text : List ℕ
  pub split : bytes ≡ text ++ rest
  pub spelled : SpellsShape shape text
  pub longest : (other : Shape) (more behind : List ℕ) → bytes ≡ more ++ behind → SpellsShape other more
      → length more ≤ length text

-- The longest token that is written at the beginning of `bytes` is of this kind, and its numbers are within their
-- bounds. `rest` are the bytes behind it.
pub record IsToken (bytes : List ℕ) (kind : TokenKind) (rest : List ℕ) : Type 0 where
  pub shape : Shape
  pub longest : IsLongest shape bytes rest
  pub within : is_within shape ≡ true
  pub means : Means shape kind

-- a fault of the lexer: a byte that begins no token, a text without its closing quote, or a number past its bound;
-- `left` counts the bytes from its place to the end of the script
pub data LexStop : Type 0 where
  Bad : (left : ℕ) → LexStop
  OpenText : (left : ℕ) → LexStop
  Large : (left : ℕ) → LexStop

-- The longest token that is written at the beginning of `bytes` is a number or a time past its bound.
pub record IsTooLarge (bytes : List ℕ) : Type 0 where
  pub shape : Shape
  pub rest : List ℕ
  pub longest : IsLongest shape bytes rest
  pub past : is_within shape ≡ false

-- At the beginning of `bytes` a string opens that the end of the script cuts off, since no closing quote comes. What is
-- cut may end with a lone backslash.
pub record IsUnclosed (bytes : List ℕ) : Type 0 where
  pub quote : ℕ
  pub pieces : List TextPiece
  pub last : List ℕ
  pub is_quote : IsQuote quote
  pub allowed : ArePieces quote pieces
  pub spelled : bytes ≡ quote ∷ flat_map written pieces ++ last
  pub cut : (last ≡ []) ⊎ (last ≡ 92 ∷ [])

-- Within a string between two of this quote, what comes next may not come there. `bytes`, from there on, begin with no
-- allowed character and not with the closing quote, and are not cut by the end of the script.
pub record BeginsNoPiece (quote : ℕ) (bytes : List ℕ) : Type 0 where
  pub no_piece : (p : TextPiece) (rest : List ℕ) → IsPiece quote p → bytes ≢ written p ++ rest
  pub no_quote : (rest : List ℕ) → bytes ≢ quote ∷ rest
  pub no_end : (bytes ≢ []) × (bytes ≢ 92 ∷ [])

-- At the beginning of `bytes` a string opens, and in it stands something that no string may hold. `left` counts the
-- bytes from there to the end of the script.
pub record IsBadInText (bytes : List ℕ) (left : ℕ) : Type 0 where
  pub quote : ℕ
  pub pieces : List TextPiece
  pub bad : List ℕ
  pub is_quote : IsQuote quote
  pub allowed : ArePieces quote pieces
  pub spelled : bytes ≡ quote ∷ flat_map written pieces ++ bad
  pub no_piece : BeginsNoPiece quote bad
  pub place : left ≡ length bad

-- the bytes are not at their end, and neither a token nor a string begins with them, so that the first byte is a fault
pub record BeginsNothing (bytes : List ℕ) : Type 0 where
  pub some : bytes ≢ []
  pub no_shape : (shape : Shape) (text rest : List ℕ) → bytes ≡ text ++ rest → SpellsShape shape text → ⊥
  pub no_quote : (quote : ℕ) (rest : List ℕ) → IsQuote quote → bytes ≢ quote ∷ rest

-- this fault of the lexer, of which `left` counts the bytes from its place to the end, is found where `bytes`, the rest
-- of the script, begin
abbrev pub FaultAt : LexStop → List ℕ → Type 0
FaultAt (Bad left) bytes = (BeginsNothing bytes × (left ≡ length bytes)) ⊎ IsBadInText bytes left
FaultAt (OpenText left) bytes = IsUnclosed bytes × (left ≡ length bytes)
FaultAt (Large left) bytes = IsTooLarge bytes × (left ≡ length bytes)
