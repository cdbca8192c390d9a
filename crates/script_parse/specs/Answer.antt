-- What is answered of a list of tokens.
use Rattle.std.specs.Prelude.{◌≡◌, ℕ, ◌<◌, List, length, Result, Ok, Err}
use Rattle.script_lex.specs.declared.token.TokenKind.{TokenKind}
use Rattle.script_grammar.specs.declared.tree.Script as program
use Rattle.script_grammar.specs.Spelling.{spelling}
use Rattle.script_grammar.specs.Placed.{IsPlaced}
use Rattle.script_grammar.specs.View.{view_script}
use Rattle.script_grammar.specs.Whole.{IsWhole}
use Rattle.script_parse.specs.declared.fault.ParseFault.{ParseFault}
use Rattle.script_parse.specs.declared.fault.ParseFault.TheVariants as answers
use Rattle.script_parse.specs.declared.fault.Refusal.{Refusal}
use Rattle.script_parse.specs.declared.fault.Refusal.TheVariants as refusals
use Rattle.script_parse.specs.Places.{IsSyntaxPlace, IsDeepAt, IsDepthPlace}

-- these tokens spell this script of the program, each `at` in it is the index of its token, and its lists are as long
-- as the grammar wants
pub record IsParsed (tokens : List TokenKind) (script : program.Script) : Type 0 where
  pub spelled : spelling (view_script script) ≡ tokens
  pub placed : IsPlaced 0 (view_script script)
  pub whole : IsWhole script

-- at each token, brackets, `if` and `def` nest no deeper than is allowed
abbrev pub IsShallow : List TokenKind → Type 0
IsShallow tokens = (k : ℕ) → k < length tokens → IsDeepAt tokens k → ⊥

-- What the parser returned for these tokens, with no bound on the nesting, is right: the script that they spell, or the
-- token at which no script goes on. That memory ran out may be returned for all tokens.
abbrev pub Whole : List TokenKind → Result program.Script Refusal → Type 0
Whole tokens (Ok s) = IsParsed tokens s
Whole tokens (Err refusals.Memory) = Unit {0}
Whole tokens (Err (refusals.At k)) = IsSyntaxPlace tokens k

-- The fault that is told of these tokens is right: at token k no script goes on, or at token d brackets nest too deep.
-- Of the two the one that comes first is told, and at the same token that of syntax.
abbrev pub IsFault : List TokenKind → ParseFault → Type 0
IsFault tokens answers.Memory = ⊥
IsFault tokens (answers.Syntax k) = IsSyntaxPlace tokens k × ((d : ℕ) → d < k → IsDeepAt tokens d → ⊥)
IsFault tokens (answers.TooDeep d) = IsDepthPlace tokens d × ((k : ℕ) → IsSyntaxPlace tokens k → d < k)
