-- A text with a fault has no plan, no tokens or no script.
use Rattle.std.proofs.Common.{◌≡◌, ◌≢◌, ◌∙◌, ℕ, List, Option, None, Result, Ok, Err, ap, sym, subst}
use Rattle.std.specs.Prelude.{IfOk}
use Rattle.plan_core.specs.declared.plan.Plan.{Plan}
use Rattle.script_lex.specs.declared.token.LexFault.{LexFault}
use Rattle.script_lex.specs.declared.token.LexFault.TheVariants as lex_fault
use Rattle.script_lex.specs.declared.token.Token.{Token}
use Rattle.script_lex.specs.Tokens.{AreTokens}
use Rattle.script_grammar.specs.Placed.{IsPlaced}
use Rattle.script_grammar.specs.Spelling.{spelling}
use Rattle.script_grammar.specs.Tree.{Script}
use Rattle.parse_base.specs.Gives.{kinds}
use Rattle.script_parse.specs.Answer.{IsShallow}
use Rattle.script_parse.specs.declared.fault.ParseFault.{ParseFault}
use Rattle.script_parse.specs.declared.fault.ParseFault.TheVariants as parse_fault
use Rattle.script_places.specs.Starts.{first_token}
use Rattle.script_plan.specs.declared.fault.ScriptFault.{ScriptFault}
use Rattle.script_plan.specs.declared.fault.ScriptFault.TheVariants as fault
use Rattle.script_plan.specs.Plans.{IsPlan, IsPlanFault}
use Rattle.where_lines.specs.Nowhere.{HasNoStatement, HasNoStatementAmong}

pub no_plan : {E : Type 0} (P : Plan → Type 0) (text : List ℕ) (told : ScriptFault) (r : Result (Option ℕ) E)
    → ((p : Plan) (f : ScriptFault) → IsPlan text p → IsPlanFault text f → ⊥)
    → (told ≢ fault.Memory → IsPlanFault text told) → IfOk r (λ at. told ≢ fault.Memory)
    → IfOk r (λ at. at ≡ None → (plan : Plan) → IsPlan text plan → P plan)
no_plan P text told (Ok at) apart is known = λ none plan has. absurd (apart plan told has (is known))
no_plan P text told (Err e) apart is known = tt

pub no_tokens : {E : Type 0} (P : List Token → Type 0) (text : List ℕ) (told : LexFault) (r : Result (Option ℕ) E)
    → ((ts : List Token) → AreTokens text ts → told ≡ lex_fault.Memory) → IfOk r (λ at. told ≢ lex_fault.Memory)
    → IfOk r (λ at. at ≡ None → (ts : List Token) → AreTokens text ts → P ts)
no_tokens P text told (Ok at) only known = λ none ts are. absurd (known (only ts are))
no_tokens P text told (Err e) only known = tt

pub no_statement : {E : Type 0} (text : List ℕ) (number : ℕ) (told : LexFault) (r : Result (Option ℕ) E)
    → ((ts : List Token) → AreTokens text ts → told ≡ lex_fault.Memory) → IfOk r (λ at. told ≢ lex_fault.Memory)
    → IfOk r (λ at. at ≡ None → HasNoStatement text number)
no_statement text number told (Ok at) only known = λ none script spells. absurd (known (only spells.tokens spells.lexed))
no_statement text number told (Err e) only known = tt

pub no_script : {E : Type 0} (tokens : List Token) (number : ℕ) (told : ParseFault) (r : Result (Option ℕ) E)
    → ((s : Script) → spelling s ≡ kinds tokens → IsPlaced 0 s → IsShallow (kinds tokens) → told ≡ parse_fault.Memory) → IfOk r (λ at. told ≢ parse_fault.Memory)
    → IfOk r (λ at. at ≡ None → HasNoStatementAmong tokens number)
no_script tokens number told (Ok at) only known = λ none s spelled placed shallow. absurd (known (only s spelled placed shallow))
no_script tokens number told (Err e) only known = tt

-- of the tokens that a text has alone
pub of_text : {E : Type 0} (text : List ℕ) (tokens : List Token) (number : ℕ) (r : Result (Option ℕ) E) → ((ts : List Token) → AreTokens text ts → tokens ≡ ts)
    → IfOk r (λ at. at ≡ None → HasNoStatementAmong tokens number) → IfOk r (λ at. at ≡ None → HasNoStatement text number)
of_text text tokens number (Ok at) only none = λ is script spells.
    let same : spells.tokens ≡ tokens = sym (only spells.tokens spells.lexed) in
    none is script (spells.spelled ∙ ap kinds same) spells.placed (subst (λ (ts : List Token). IsShallow (kinds ts)) same spells.shallow)
of_text text tokens number (Err e) only none = tt

-- of the script that tokens spell alone
pub of_tokens : (tokens : List Token) (own : Script) (number : ℕ)
    → ((s : Script) → spelling s ≡ kinds tokens → IsPlaced 0 s → IsShallow (kinds tokens) → own ≡ s)
    → first_token own number ≡ None → HasNoStatementAmong tokens number
of_tokens tokens own number only none = λ s spelled placed shallow. ap (λ (x : Script). first_token x number) (sym (only s spelled placed shallow)) ∙ none

pub of_tokens_if : {E : Type 0} (tokens : List Token) (own : Script) (number : ℕ) (r : Result (Option ℕ) E)
    → ((s : Script) → spelling s ≡ kinds tokens → IsPlaced 0 s → IsShallow (kinds tokens) → own ≡ s)
    → IfOk r (λ at. at ≡ None → first_token own number ≡ None) → IfOk r (λ at. at ≡ None → HasNoStatementAmong tokens number)
of_tokens_if tokens own number (Ok at) only none = λ is. of_tokens tokens own number only (none is)
of_tokens_if tokens own number (Err e) only none = tt
