-- Where a statement begins that is there.
use Rattle.std.proofs.Common.{◌≡◌, ℕ, List, Option, Some, None, Result, length, refl, sym, subst}
use Rattle.std.specs.Prelude.{IfOk, IfSome}
use Rattle.script_lex.specs.Tokens.{AreTokens}
use Rattle.script_lex.specs.declared.token.Token.{Token}
use Rattle.script_grammar.specs.Placed.{IsPlaced}
use Rattle.script_grammar.specs.Spelling.{spelling}
use Rattle.script_grammar.specs.Tree.{Script}
use Rattle.parse_base.specs.Gives.{kinds}
use Rattle.script_parse.specs.Answer.{IsShallow}
use Rattle.script_places.specs.Starts.{first_token}
use Rattle.script_places.specs.declared.named.Named.{Named}
use Rattle.script_places.specs.declared.named.Named.TheVariants.{Token as NamedToken}
use Rattle.where_lines.specs.Beginning.{IsNowhere, IsStatementAt, beginning_of}
use Rattle.where_lines.specs.Nowhere.{HasNoTokens}

pub statement_at : (text : List ℕ) (tokens : List Token) (script : Script) (number : ℕ) (first : Option ℕ) → AreTokens text tokens → spelling script ≡ kinds tokens
    → IsPlaced 0 script → IsShallow (kinds tokens) → first_token script number ≡ first → IfSome (beginning_of (length text) tokens first) (IsStatementAt text number)
statement_at text tokens script number (Some first) are spelled placed shallow is = record {
  tokens = tokens;
  are_tokens = are;
  script = script;
  spelled = spelled;
  placed = placed;
  shallow = shallow;
  first = first;
  first_is = is;
  begins = refl;
}
statement_at text tokens script number None are spelled placed shallow is = tt

pub none_first : (total : ℕ) (tokens : List Token) (first : Option ℕ) → beginning_of total tokens first ≡ None → first ≡ None
none_first total tokens (Some first) is = absurd cc
none_first total tokens None is = refl

-- a text without tokens has none of this number
pub no_token : {E : Type 0} (line text : List ℕ) (token : ℕ) (named : Named) (r : Result (Option ℕ) E) → named ≡ NamedToken token
    → IfOk r (λ at. at ≡ None → HasNoTokens text) → IfOk r (λ at. at ≡ None → IsNowhere line text named)
no_token line text token named r is none = subst (λ (n : Named). IfOk r (λ at. at ≡ None → IsNowhere line text n)) (sym is) none
