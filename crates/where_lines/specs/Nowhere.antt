-- What a script lacks where no place is shown.
use Rattle.std.specs.Prelude.{◌≡◌, ℕ, List, None}
use Rattle.plan_core.specs.declared.plan.Plan.{Plan}
use Rattle.script_lex.specs.Tokens.{AreTokens}
use Rattle.script_lex.specs.declared.token.Token.{Token}
use Rattle.script_grammar.specs.Tree.{Script}
use Rattle.script_grammar.specs.Spelling.{spelling}
use Rattle.script_grammar.specs.Placed.{IsPlaced}
use Rattle.parse_base.specs.Gives.{kinds}
use Rattle.script_parse.specs.Answer.{IsShallow}
use Rattle.script_places.specs.Starts.{first_token}
use Rattle.script_plan.specs.Plans.{IsPlan, Spells}
use Rattle.where_lines.specs.Causes.{output_named}
use Rattle.where_lines.specs.Texts.{text_among}

-- a script has no list of tokens, since it is too long or has a fault of the lexer
abbrev pub HasNoTokens : List ℕ → Type 0
HasNoTokens text = (tokens : List Token) → AreTokens text tokens → ⊥

-- the text spells no script that has a statement of this number
abbrev pub HasNoStatement : List ℕ → (number : ℕ) → Type 0
HasNoStatement text number = (script : Script) → Spells text script → first_token script number ≡ None

-- these tokens spell no script that has a statement of this number
abbrev pub HasNoStatementAmong : List Token → (number : ℕ) → Type 0
HasNoStatementAmong tokens number = (script : Script) → spelling script ≡ kinds tokens → IsPlaced 0 script
    → IsShallow (kinds tokens) → first_token script number ≡ None

-- the script `text` has tokens, if it has any, among which no quoted text has the bytes `name`
abbrev pub HasNoText : List ℕ → (name : List ℕ) → Type 0
HasNoText text name = (tokens : List Token) → AreTokens text tokens → text_among name tokens ≡ None

-- a script has no plan with an output of this name
abbrev pub HasNoOutput : List ℕ → (name : List ℕ) → Type 0
HasNoOutput text name = (plan : Plan) → IsPlan text plan → output_named name plan.sinks ≡ None
