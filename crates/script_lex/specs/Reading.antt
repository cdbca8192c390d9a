-- How one shape is read from the front of a list of bytes. Each reader mirrors a loop or a match of the program;
-- `proofs/` shows that they find the longest spelling, and nothing else.
use Rattle.std.specs.Prelude.{ℕ, ◌+◌, ◌-◌, ◌&&◌, ◌||◌, ◌==◌, List, [], ◌∷◌, length, take, Result, Ok, Err, Option, Some, None, if◌then◌else◌}
use Rattle.std.specs.Str.{is_utf8}
use Rattle.std.specs.Str.Lossy.{utf8_valid_len}
use Rattle.std.specs.Char.{is_ascii_digit}
use Rattle.script_lex.specs.Bytes.{is_letter, is_word, is_quote, is_unit, is_escapable, is_inner, starts_part, starts_digit}
use Rattle.script_lex.specs.Words.{keyword_of, symbol_of, symbol_with_equals}
use Rattle.script_lex.specs.Spelling.{Shape, AWord, AnOpen, AnInt, ANumber, ATime, AText, AWav, ASymbol, LexStop, Bad, OpenText}
use Rattle.script_lex.specs.declared.token.Keyword.{Keyword}
use Rattle.script_lex.specs.declared.token.Symbol.{Symbol}
use Rattle.script_lex.specs.declared.body.BodyEnd.{BodyEnd}
use Rattle.script_lex.specs.declared.body.BodyEnd.TheVariants as ends

-- what a function of the lexer finds at the beginning of some bytes: a token as it is written, and the bytes behind it
abbrev pub Found : Type 0
Found = Shape × List ℕ

-- what a function of the lexer finds at the beginning of some bytes: a token as it is written and the bytes behind it,
-- or a fault
abbrev pub Read : Type 0
Read = Result Found LexStop

-- the bytes of a list that stand before `rest`, where `rest` is the end of the list
abbrev pub front : List ℕ → List ℕ → List ℕ
front bytes rest = take (length bytes - length rest) bytes

-- the bytes behind the first one
abbrev pub tail : List ℕ → List ℕ
tail [] = []
tail (b ∷ bs) = bs

-- what is left of the bytes behind the digits at their beginning, of which there may be none
abbrev pub after_digits : List ℕ → List ℕ
after_digits [] = []
after_digits (b ∷ bs) = if is_ascii_digit b then after_digits bs else b ∷ bs

-- what is left of the bytes behind a name, from within the name on: letters, `_`, digits, and points before a further
-- part are passed over
abbrev pub after_name : List ℕ → List ℕ
after_name [] = []
after_name (b ∷ bs) = if is_word b || ((b == 46) && starts_part bs) then after_name bs else b ∷ bs

-- A keyword or a name as a written token, and the bytes behind it. `word` was read, a keyword may have been found for
-- it, and the last list comes next. A name takes a `(` that stands directly behind it.
abbrev pub word_or_open : List ℕ → Option Keyword → List ℕ → Found
word_or_open word (Some keyword) rest = (AWord word, rest)
word_or_open word None [] = (AWord word, [])
word_or_open word None (b ∷ bs) = if b == 40 then (AnOpen word, bs) else (AWord word, b ∷ bs)

-- the keyword or name, with a `(` directly behind it, at the beginning of the bytes, and the bytes behind it
unfoldable pub word_at : List ℕ → Found
word_at bytes =
    let rest = after_name bytes in
    let word = front bytes rest in
    word_or_open word (keyword_of word) rest

-- One part of a time of the week, such as `12h` with the unit `h`. `bytes` begin with its digits, and the last list is
-- what stands behind them. If the unit comes there: the digits, and the bytes behind the unit; else None and all
-- `bytes`.
abbrev pub part_before : ℕ → List ℕ → List ℕ → Option (List ℕ) × List ℕ
part_before unit bytes [] = (None, bytes)
part_before unit bytes (b ∷ bs) = if starts_digit bytes && (b == unit) then (Some (front bytes (b ∷ bs)), bs)
    else (None, bytes)

-- One part of a time of the week with this unit, such as `12h`, at the beginning of `bytes`: its digits, and the bytes
-- behind the unit. If there is no such part, None and all `bytes`.
unfoldable pub part_at : ℕ → List ℕ → Option (List ℕ) × List ℕ
part_at unit bytes = part_before unit bytes (after_digits bytes)

-- The time of the week whose parts with a unit were read, and the bytes behind it. If the hour is its last part, digits
-- that come next are its minutes without a unit, as in `7h30`.
abbrev pub minutes_after : (day hour minute second : Option (List ℕ)) → List ℕ → Found
minutes_after day (Some hour) None None bytes = if starts_digit bytes
    then (ATime day (Some hour) (Some (front bytes (after_digits bytes))) None, after_digits bytes)
    else (ATime day (Some hour) None None, bytes)
minutes_after day hour minute second bytes = (ATime day hour minute second, bytes)

-- the time of the week, such as `1w12h30m`, at the beginning of the bytes, and the bytes behind it
unfoldable pub time_at : List ℕ → Found
time_at bytes =
    let day = part_at 119 bytes in
    let hour = part_at 104 day.1 in
    let minute = part_at 109 hour.1 in
    let second = part_at 115 minute.1 in
    minutes_after day.0 hour.0 minute.0 second.0 second.1

-- The number or time of the week at the beginning of `bytes`, and the bytes behind it. It begins with `digits`, and the
-- last list is what comes next: a point makes a decimal number, a unit of time a time, anything else an int.
abbrev pub number_from : List ℕ → List ℕ → List ℕ → Found
number_from bytes digits [] = (AnInt digits, [])
number_from bytes digits (b ∷ bs) =
    if b == 46 then (ANumber digits (front bs (after_digits bs)), after_digits bs)
    else (if is_unit b then time_at bytes else (AnInt digits, b ∷ bs))

-- the number or time of the week at the beginning of the bytes, and the bytes behind it
unfoldable pub number_at : List ℕ → Found
number_at bytes = number_from bytes (front bytes (after_digits bytes)) (after_digits bytes)

-- Where the bytes of a quoted text stop, and why: at its closing quote, at a byte that may not stand in it, or cut off
-- by the end of the script. `escape_end` is the same right behind a backslash b.
abbrev mutual
  pub body_end : ℕ → List ℕ → BodyEnd × List ℕ
  body_end quote [] = (ends.Cut, [])
  body_end quote (b ∷ bs) =
      if b == quote then (ends.Closed, b ∷ bs)
      else (if b == 92 then escape_end quote b bs
      else (if is_inner b then body_end quote bs else (ends.Broken, b ∷ bs)))

  pub escape_end : ℕ → ℕ → List ℕ → BodyEnd × List ℕ
  escape_end quote b [] = (ends.Cut, b ∷ [])
  escape_end quote b (c ∷ bs) = if is_escapable c then body_end quote bs else (ends.Broken, b ∷ c ∷ bs)

-- the bytes that a quoted text stands for: each backslash is left out, and the byte behind it is kept;
-- `after_backslash` goes on right behind one
abbrev mutual
  pub unescaped : List ℕ → List ℕ
  unescaped [] = []
  unescaped (b ∷ bs) = if b == 92 then after_backslash bs else b ∷ unescaped bs

  pub after_backslash : List ℕ → List ℕ
  after_backslash [] = []
  after_backslash (c ∷ bs) = c ∷ unescaped bs

-- A quoted text as a written token with the bytes behind its quote, or the fault. `body` are the bytes in it, `rest`
-- those where it stopped, and then comes why. `left` counts the bytes from its opening quote to the end.
abbrev pub text_from : List ℕ → List ℕ → BodyEnd → ℕ → Read
text_from body rest ends.Closed left = Ok (AText (unescaped body), tail rest)
text_from body rest ends.Broken left = Err (Bad (length rest))
text_from body rest ends.Cut left = Err (OpenText left)

-- the quoted text whose opening quote stands before these bytes, and what is behind its closing quote, or the fault of
-- the lexer
unfoldable pub text_at : ℕ → List ℕ → Read
text_at quote bytes =
    let stop = body_end quote bytes in
    let body = front bytes stop.1 in
    if is_utf8 body then text_from body stop.1 stop.0 (length bytes + 1)
    else Err (Bad (length bytes - utf8_valid_len body))

-- a symbol, if one was found, as a written token with the bytes behind it; else None
abbrev pub symbol_before : Option Symbol → List ℕ → Option Found
symbol_before None rest = None
symbol_before (Some symbol) rest = Some (ASymbol symbol, rest)

-- what the first of two functions of the lexer found, or, if it found nothing, what the second found
abbrev pub first_of_two : Option Found → Option Found → Option Found
first_of_two None second = second
first_of_two (Some found) second = Some found

-- The operator, bracket or separator whose first byte is b, and the bytes behind it; the list is what comes after b. It
-- is that of two bytes, such as `<=`, if there is one, else that of one byte, and None if there is neither.
unfoldable pub symbol_at : ℕ → List ℕ → Option Found
symbol_at b [] = symbol_before (symbol_of b) []
symbol_at b (c ∷ bs) =
    if c == 61 then first_of_two (symbol_before (symbol_with_equals b) bs) (symbol_before (symbol_of b) (c ∷ bs))
    else symbol_before (symbol_of b) (c ∷ bs)

-- the format word `%wav`, if the bytes begin with it, and the bytes behind it; else None
unfoldable pub wav_at : List ℕ → Option Found
wav_at (a ∷ b ∷ c ∷ d ∷ bs) = if (a == 37) && ((b == 119) && ((c == 97) && (d == 118))) then Some (AWav, bs) else None
wav_at bs = None

-- The symbol or `%wav` that was found. Else the fault that a byte begins no token; `left` counts the bytes from it to
-- the end.
abbrev pub sign_or_bad : Option Found → ℕ → Read
sign_or_bad (Some found) left = Ok found
sign_or_bad None left = Err (Bad left)

-- the token that is written at the beginning of the bytes, chosen by the first byte, and the bytes behind it, or the
-- fault of the lexer
unfoldable pub shape_at : List ℕ → Read
shape_at [] = Err (Bad 0)
shape_at (b ∷ bs) =
    if is_letter b then Ok (word_at (b ∷ bs))
    else (if is_ascii_digit b then Ok (number_at (b ∷ bs))
    else (if is_quote b then text_at b bs
    else sign_or_bad (first_of_two (wav_at (b ∷ bs)) (symbol_at b bs)) (length (b ∷ bs))))
