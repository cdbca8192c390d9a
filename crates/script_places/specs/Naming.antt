-- What the line of a fault names.
use Rattle.std.specs.Prelude.{◌≡◌, ◌<◌, ℕ, ◌-◌, ◌^◌, Bool, not, ◌||◌, ◌==◌, List, ◌∷◌, ◌++◌, length, take, drop, codes, decimal, if◌then◌else◌}
use Rattle.std.specs.Str.{bytes_eq}
use Rattle.script_places.specs.declared.forms.Form.{Form}
use Rattle.script_places.specs.declared.forms.Form.TheVariants as form
use Rattle.script_places.specs.declared.named.Named.{Named}
use Rattle.script_places.specs.declared.named.Named.TheVariants.{Byte, Token, Statement, Source, Clash, Text, Fallible}

-- Whether a line of a fault begins with these words, told as bytes.
abbrev pub begins : (line words : List ℕ) → Bool
begins line words = bytes_eq words (take (length words) line)

-- Whether a line begins like those faults, E02 to E04, that name a byte of the script.
abbrev pub begins_byte : List ℕ → Bool
begins_byte line = begins line (codes "E02 ") || begins line (codes "E03 ") || begins line (codes "E04 ")

-- Whether a line begins like those faults, E06 to E11 and E14, that name a token of the script.
abbrev pub begins_token : List ℕ → Bool
begins_token line =
    begins line (codes "E06 ") || begins line (codes "E07 ") || begins line (codes "E08 ") || begins line (codes "E09 ")
    || begins line (codes "E10 ") || begins line (codes "E11 ") || begins line (codes "E14 ")

-- Whether a line begins like those faults, E13 and E15, that name a statement of the script.
abbrev pub begins_statement : List ℕ → Bool
begins_statement line = begins line (codes "E13 statement ") || begins line (codes "E15 statement ")

-- How a line of a fault names a text, such as a file's name, by the words that it begins with: from which byte of the
-- line on the text stands, and how many bytes stand behind it.
abbrev pub text_form : List ℕ → Form
text_form line =
    if begins line (codes "E18 two outputs ") then form.Text 16 0
    else if begins line (codes "E20 missing file ") then form.Text 17 0
    else if begins line (codes "E21 bad audio ") then form.Text 14 3
    else if begins line (codes "E23 file too large ") then form.Text 19 0
    else if begins line (codes "E25 fallible output ") then form.Fallible
    else if begins line (codes "E29 output too long ") then form.Text 20 0
    else form.Nothing

-- How a line of a fault, or of the week's plan, names a source or a text, by the words that it begins with.
abbrev pub source_form : List ℕ → Form
source_form line =
    if begins line (codes "E26 source ") then form.Source
    else if begins line (codes "E27 crossfade ") then form.Crossfade
    else if begins line (codes "switch ") then form.Switch
    else text_form line

-- How a line of a fault names its place in the script (by a byte, token, statement, source or text), by the words that
-- it begins with.
abbrev pub form_of : List ℕ → Form
form_of line =
    if begins_byte line then form.Byte
    else if begins_token line then form.Token
    else if begins line (codes "E12 statement ") then form.Clash
    else if begins_statement line then form.Statement
    else source_form line

-- Whether the byte is any but a blank.
abbrev pub is_no_blank : ℕ → Bool
is_no_blank b = not (b == 32)

-- A line of a fault ends in these words and, behind them, the number n in decimal digits, as in `.. at token 5`.
pub record EndsIn (words line : List ℕ) (n : ℕ) : Type 0 where
  pub front : List ℕ
  pub spelled : line ≡ front ++ (words ++ decimal n)

-- The text begins with the number n in decimal digits and then this byte, such as the colon (58) of `5: ..`.
pub record Leads (byte : ℕ) (text : List ℕ) (n : ℕ) : Type 0 where
  pub rest : List ℕ
  pub spelled : text ≡ decimal n ++ byte ∷ rest

-- A line of a fault names a place of the script by a number: `named` is what `place` makes of it, such as token 5. The
-- number is below 2^64, and `Holds` says that it stands in the line.
pub record IsNumbered (place : ℕ → Named) (Holds : ℕ → Type 0) (named : Named) : Type 0 where
  pub number : ℕ
  pub small : number < 2 ^ 64
  pub holds : Holds number
  pub is : named ≡ place number

-- A line of a fault that has this form names this place of the script: by a number at its end or behind its first
-- words, or by a text within it.
abbrev pub IsNamedBy : Form → List ℕ → Named → Type 0
IsNamedBy form.Byte line named = IsNumbered Byte (EndsIn (codes " at ") line) named
IsNamedBy form.Token line named = IsNumbered Token (EndsIn (codes " at token ") line) named
IsNamedBy form.Clash line named = IsNumbered Clash (Leads 58 (drop 14 line)) named
IsNamedBy form.Statement line named = IsNumbered Statement (Leads 58 (drop 14 line)) named
IsNamedBy form.Source line named = IsNumbered Source (Leads 32 (drop 11 line)) named
IsNamedBy form.Crossfade line named = IsNumbered Source (Leads 32 (drop 14 line)) named
IsNamedBy form.Switch line named = IsNumbered Source (Leads 58 (drop 7 line)) named
IsNamedBy (form.Text start after) line named = named ≡ Text start (length line - after)
IsNamedBy form.Fallible line named = named ≡ Fallible 20 (length line)
IsNamedBy form.Nothing line named = ⊥

-- A line of a fault names this place of the script: a byte, token, statement, source or text. The words that the line
-- begins with say how.
abbrev pub IsNamed : List ℕ → Named → Type 0
IsNamed line named = IsNamedBy (form_of line) line named
