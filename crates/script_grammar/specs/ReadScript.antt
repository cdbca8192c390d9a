-- How statements and scripts are read.
use Rattle.std.specs.Prelude.{ℕ, suc, ◌∷◌, length, true, false, Ok, Err, Bool}
use Rattle.script_lex.specs.declared.token.TokenKind.TheVariants.{Name, NameOpen, Keyword, Symbol}
use Rattle.script_lex.specs.declared.token.Keyword.TheVariants as word
use Rattle.script_lex.specs.declared.token.Symbol.TheVariants as sign
use Rattle.script_grammar.specs.Tree.{Tree, AStmt, APart, ABind, ADef, AnInner, AParam, AFull, AnExpr, Stmt, BindPart, DefPart, CallPart, IfPart, Bind, Def, Inner, Param, Labelled, Optional, Script}
use Rattle.script_grammar.specs.Read.{Reader, ◌>>=◌, made, both, next, expect, perhaps, many, closed}
use Rattle.script_grammar.specs.Kinds.{is_assign, is_comma, is_close_round, is_end, is_semicolon, is_any}
use Rattle.script_grammar.specs.ReadValue.{binds, call, choice, expr, full_step, full_by}

-- a rule for the fields `at` of a tree that is read, which are places of tokens, where these do not matter: 0,
-- whatever number of tokens is left
abbrev pub no_place : ℕ → ℕ
no_place left = 0

-- a value, which is loose in the body of a def; stamp makes a field at of the number of tokens that are left
unfoldable pub value : Bool → (ℕ → ℕ) → Reader (Tree AFull)
value loose stamp w = full_step loose stamp (full_by (length w) stamp) w

-- the result of a def
unfoldable pub result : (ℕ → ℕ) → Reader (Tree AnExpr)
result stamp w = expr false stamp (full_by (length w) stamp) w

-- a binding, whose value is loose or not
unfoldable pub bind : Bool → (ℕ → ℕ) → Reader (Tree ABind)
bind loose stamp (Name n
    ∷ r) = both (expect is_assign) (value loose stamp) r >>= made (λ x. Bind (stamp (suc (length r))) n x.1)
bind loose stamp w = Err (length w)

-- a binding in the body of a def, and a `;` if one ends it
unfoldable pub inner : (ℕ → ℕ) → Reader (Tree AnInner)
inner stamp w = both (bind true stamp) (perhaps is_semicolon) w >>= made (λ x. Inner x.0 x.1)

-- a parameter of a def
unfoldable pub param : (ℕ → ℕ) → Reader (Tree AParam)
param stamp (Name n ∷ r) = Ok (Param (stamp (suc (length r))) n, r)
param stamp (Symbol sign.Tilde ∷ Name n ∷ Symbol sign.Assign
    ∷ r) = value false stamp r >>= made (Optional (stamp (suc (suc (length r)))) n)
param stamp (Symbol sign.Tilde ∷ Name n ∷ r) = Ok (Labelled (stamp (suc (length r))) n, r)
param stamp (Symbol sign.Tilde ∷ r) = Err (length r)
param stamp w = Err (length w)

-- a def, from its `def` to its `end`
unfoldable pub def : (ℕ → ℕ) → Reader (Tree ADef)
def stamp (Keyword word.Def ∷ NameOpen n
    ∷ r) = both (closed is_comma is_close_round (param stamp))
    (both (perhaps is_assign) (both (many binds (inner stamp)) (both (result stamp) (expect is_end)))) r >>= made
    (λ x. Def (stamp (suc (length r))) n x.0 x.1.0 x.1.1.0 x.1.1.1.0)
def stamp (Keyword word.Def ∷ r) = Err (length r)
def stamp w = Err (length w)

-- what a statement is, by its first token
unfoldable pub part : (ℕ → ℕ) → Reader (Tree APart)
part stamp (Name n ∷ r) = bind false stamp (Name n ∷ r) >>= made BindPart
part stamp (Keyword word.Def ∷ r) = def stamp (Keyword word.Def ∷ r) >>= made DefPart
part stamp (NameOpen n ∷ r) = call stamp (full_by (suc (length r)) stamp) (NameOpen n ∷ r) >>= made CallPart
part stamp (Keyword word.If ∷ r) = choice stamp (full_by (suc (length r)) stamp) (Keyword word.If ∷ r) >>= made IfPart
part stamp w = Err (length w)

-- a statement, and a `;` if one ends it
unfoldable pub stmt : (ℕ → ℕ) → Reader (Tree AStmt)
stmt stamp w = both (part stamp) (perhaps is_semicolon) w >>= made (λ x. Stmt x.0 x.1)

-- the statements of a script, to the end of the tokens
unfoldable pub script : (ℕ → ℕ) → Reader Script
script stamp w = many (next is_any) (stmt stamp) w
