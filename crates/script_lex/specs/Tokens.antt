-- The tokens of a text, and its fault.
use Rattle.std.specs.Prelude.{◌≡◌, ℕ, ◌-◌, ◌<◌, ◌≤◌, Bool, true, false, ◌==◌, List, [], ◌∷◌, length, Option, Some, None, if◌then◌else◌}
use Rattle.liq_base.specs.declared.limits.TheConstants.{MAX_SCRIPT_BYTES}
use Rattle.script_lex.specs.Bytes.{is_blank}
use Rattle.script_lex.specs.Spelling.{IsToken, LexStop, Bad, OpenText, Large, FaultAt}
use Rattle.script_lex.specs.declared.token.Token.{Token}
use Rattle.script_lex.specs.declared.token.LexFault.{LexFault}
use Rattle.script_lex.specs.declared.token.LexFault.TheVariants as faults

-- the bytes behind blanks and comments, from inside of a comment on or not; a comment ends before the next LF
abbrev pub between : Bool → List ℕ → List ℕ
between inside [] = []
between true (b ∷ bs) = if b == 10 then between false bs else between true bs
between false (b ∷ bs) = if is_blank b then between false bs else (if b == 35 then between true bs else b ∷ bs)

-- The bytes are these tokens in order, with blanks and comments before each, and then `rest`. Each token tells its kind
-- and at which byte it begins and ends, counted in the whole script of `total` bytes.
abbrev pub Leads : ℕ → List ℕ → List Token → List ℕ → Type 0
Leads total bytes [] rest = bytes ≡ rest
Leads total bytes (t ∷ ts) rest =
    (after : List ℕ) × IsToken (between false bytes) t.kind after × (t.start ≡ total - length (between false bytes))
    × (t.end ≡ total - length after) × Leads total after ts rest

-- How a script ends behind its last token and the blanks and comments there: nothing is left, or `bytes`, which are
-- left, begin with this fault of the lexer.
abbrev pub EndsBy : Option LexStop → List ℕ → Type 0
EndsBy None bytes = bytes ≡ []
EndsBy (Some fault) bytes = FaultAt fault bytes

-- a script is these tokens, with blanks and comments between them, up to its end or, if one is given, up to this fault
-- of the lexer
abbrev pub Runs : List ℕ → List Token → Option LexStop → Type 0
Runs text ts end = (rest : List ℕ) × Leads (length text) text ts rest × EndsBy end (between false rest)

-- a fault of the lexer with its place counted from the beginning of a script of `total` bytes, and no longer from the
-- end
abbrev pub placed_fault : ℕ → LexStop → LexFault
placed_fault total (Bad left) = faults.BadByte (total - left)
placed_fault total (OpenText left) = faults.UnclosedString (total - left)
placed_fault total (Large left) = faults.NumberTooLarge (total - left)

-- the script is not too long, and behind some tokens this fault of the lexer stands in it, at the byte that the fault
-- names
abbrev pub StandsIn : List ℕ → LexFault → Type 0
StandsIn text fault = (length text ≤ MAX_SCRIPT_BYTES)
    × ((ts : List Token) × (stop : LexStop) × Runs text ts (Some stop) × (fault ≡ placed_fault (length text) stop))

-- these are all tokens of a script, which is not too long and has no fault of the lexer
abbrev pub AreTokens : List ℕ → List Token → Type 0
AreTokens text ts = (length text ≤ MAX_SCRIPT_BYTES) × Runs text ts None

-- The lexer's fault of a script. It is too long, or it is tokens up to a byte where this fault stands. Want of memory
-- is no fault of a script.
abbrev pub HasFault : List ℕ → LexFault → Type 0
HasFault text faults.TextTooLong = MAX_SCRIPT_BYTES < length text
HasFault text faults.Memory = ⊥
HasFault text (faults.BadByte at) = StandsIn text (faults.BadByte at)
HasFault text (faults.UnclosedString at) = StandsIn text (faults.UnclosedString at)
HasFault text (faults.NumberTooLarge at) = StandsIn text (faults.NumberTooLarge at)

-- a script of allowed length begins with these tokens, and behind them stands this fault of the lexer
pub record StopsAt (text : List ℕ) (tokens : List Token) (fault : LexFault) : Type 0 where
  pub fits : length text ≤ MAX_SCRIPT_BYTES
  pub stop : LexStop
  pub runs : Runs text tokens (Some stop)
  pub placed : fault ≡ placed_fault (length text) stop

-- These are the tokens of a script up to its end or up to its fault of the lexer. A script that is too long has none,
-- and want of memory is no fault of it.
abbrev pub IsFront : (text : List ℕ) → List Token → Option LexFault → Type 0
IsFront text tokens None = AreTokens text tokens
IsFront text tokens (Some faults.TextTooLong) = (MAX_SCRIPT_BYTES < length text) × (tokens ≡ [])
IsFront text tokens (Some faults.Memory) = ⊥
IsFront text tokens (Some (faults.BadByte at)) = StopsAt text tokens (faults.BadByte at)
IsFront text tokens (Some (faults.UnclosedString at)) = StopsAt text tokens (faults.UnclosedString at)
IsFront text tokens (Some (faults.NumberTooLarge at)) = StopsAt text tokens (faults.NumberTooLarge at)
