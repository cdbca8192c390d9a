-- What is told of the tokens of a script.
use Rattle.std.specs.Prelude.{◌≡◌, ℕ, List, [], ◌∷◌, ◌++◌, codes, decimal, Option, Some, None}
use Rattle.json.specs.Token.{Token as JsonToken, begin_array, end_array, number, string}
use Rattle.json.specs.Print.{print}
use Rattle.script_lex.specs.Tokens.{IsFront}
use Rattle.script_lex.specs.declared.token.LexFault.{LexFault}
use Rattle.script_lex.specs.declared.token.LexFault.TheVariants as faults
use Rattle.script_lex.specs.declared.token.Token.{Token}
use Rattle.script_lex.specs.declared.token.TokenKind.{TokenKind}
use Rattle.script_lex.specs.declared.token.TokenKind.TheVariants as kind
use Rattle.station_facts.specs.Members.{list_member, number_member, object}

-- the word by which a kind of token of a script is told
abbrev pub kind_word : TokenKind → List ℕ
kind_word (kind.Name text) = codes "name"
kind_word (kind.NameOpen text) = codes "open"
kind_word (kind.Int n) = codes "int"
kind_word (kind.Number n) = codes "number"
kind_word (kind.Str text) = codes "text"
kind_word (kind.Time mark) = codes "time"
kind_word (kind.Keyword word) = codes "keyword"
kind_word kind.Wav = codes "wav"
kind_word (kind.Symbol symbol) = codes "sign"

-- the text that a token stands for: a name, or what stands between two quotes without its escapes
abbrev pub text_item : TokenKind → List JsonToken
text_item (kind.Name text) = string text ∷ []
text_item (kind.NameOpen text) = string text ∷ []
text_item (kind.Str text) = string text ∷ []
text_item _ = []

-- the JSON list of a token: its kind, the place of its first byte, the place behind its last one, and its text
abbrev pub token_array : Token → List JsonToken
token_array token = begin_array ∷ string (kind_word token.kind) ∷ number (decimal token.start)
    ∷ number (decimal token.end) ∷ (text_item token.kind ++ end_array ∷ [])

-- the members `fault` and `at`: the number of a fault, and the byte of the script at which it is, if it has one
abbrev pub fault_members : LexFault → List JsonToken
fault_members (faults.BadByte at) = number_member (codes "fault") 1 ++ number_member (codes "at") at
fault_members (faults.UnclosedString at) = number_member (codes "fault") 2 ++ number_member (codes "at") at
fault_members (faults.NumberTooLarge at) = number_member (codes "fault") 3 ++ number_member (codes "at") at
fault_members faults.TextTooLong = number_member (codes "fault") 4
fault_members faults.Memory = []

-- the members for the fault at which the tokens of a script end; none if there is no fault
abbrev pub stop_members : Option LexFault → List JsonToken
stop_members None = []
stop_members (Some fault) = fault_members fault

-- What is told of a script is its tokens as far as they go, and why they go no further, as one JSON object.
pub record AreTold (text told : List ℕ) : Type 0 where
  pub tokens : List Token
  pub stop : Option LexFault
  pub front : IsFront text tokens stop
  pub written : told ≡ print (object (list_member (codes "tokens") token_array tokens ++ stop_members stop))
