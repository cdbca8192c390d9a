-- The byte at which what a line names begins.
use Rattle.std.specs.Prelude.{◌≡◌, ◌≤◌, ℕ, List, Option, Some, None, length}
use Rattle.plan_core.specs.declared.plan.Plan.{Plan}
use Rattle.script_lex.specs.Tokens.{AreTokens}
use Rattle.script_lex.specs.declared.token.Token.{Token}
use Rattle.script_grammar.specs.Tree.{Script}
use Rattle.script_grammar.specs.Spelling.{spelling}
use Rattle.script_grammar.specs.Placed.{IsPlaced}
use Rattle.script_parse.specs.Answer.{IsShallow}
use Rattle.script_plan.specs.Plans.{IsPlan}
use Rattle.parse_base.specs.Gives.{kinds}
use Rattle.script_places.specs.Starts.{start, first_token}
use Rattle.script_places.specs.declared.named.Named.{Named}
use Rattle.script_places.specs.declared.named.Named.TheVariants.{Byte, Token as NamedToken, Statement, Source, Clash, Text, Fallible}
use Rattle.where_lines.specs.Calls.{part}
use Rattle.where_lines.specs.Causes.{IsCauseAt}
use Rattle.where_lines.specs.Nowhere.{HasNoOutput, HasNoStatement, HasNoText, HasNoTokens}
use Rattle.where_lines.specs.Sources.{IsSourceAt}
use Rattle.where_lines.specs.Statements.{IsInStatement}
use Rattle.where_lines.specs.Texts.{IsTextAt}
use Rattle.where_lines.specs.Tokens.{IsTokenAt}

-- the script `text` has a statement of this number, and it begins at byte `at`
pub record IsStatementAt (text : List ℕ) (number at : ℕ) : Type 0 where
  pub tokens : List Token
  pub are_tokens : AreTokens text tokens
  pub script : Script
  pub spelled : spelling script ≡ kinds tokens
  pub placed : IsPlaced 0 script
  pub shallow : IsShallow (kinds tokens)
  pub first : ℕ
  pub first_is : first_token script number ≡ Some first
  pub begins : at ≡ start (length text) tokens first

-- the byte at which a token begins, by its number, if one is given; `total` is the length of the text. This is for
-- `src/places.rt` alone.
abbrev pub beginning_of : ℕ → List Token → Option ℕ → Option ℕ
beginning_of total tokens (Some first) = Some (start total tokens first)
beginning_of total tokens None = None

-- The place in the script `text` that a line of output names begins at byte `at`. The line names a byte, a token, a
-- statement, a source, a clash of types, a string or an output; the last two stand in the line itself.
abbrev pub Begins : List ℕ → List ℕ → Named → ℕ → Type 0
Begins line text (Byte n) at = at ≡ n
Begins line text (NamedToken k) at = IsTokenAt text k at
Begins line text (Statement number) at = IsStatementAt text number at
Begins line text (Source k) at = IsSourceAt text k at
Begins line text (Clash number) at = IsInStatement text number at
Begins line text (Text from to) at = IsTextAt text (part line from to) at
Begins line text (Fallible from to) at = IsCauseAt text (part line from to) at

-- the script `text` has no such token, statement, source, string or output as a line of output names, so that no place
-- can be shown
abbrev pub IsNowhere : List ℕ → List ℕ → Named → Type 0
IsNowhere line text (Byte n) = ⊥
IsNowhere line text (NamedToken k) = HasNoTokens text
IsNowhere line text (Statement number) = HasNoStatement text number
IsNowhere line text (Source k) = (plan : Plan) → IsPlan text plan → length plan.nodes ≤ k
IsNowhere line text (Clash number) = HasNoStatement text number
IsNowhere line text (Text from to) = HasNoText text (part line from to)
IsNowhere line text (Fallible from to) = HasNoOutput text (part line from to)
