-- Parts of what is read, as the functions read them. The number at is the index of a token that was read before.
use Rattle.std.specs.Prelude.{ℕ, List, [], ◌∷◌, ◌++◌, length, Bool, true, false, Ok, Err}
use Rattle.script_lex.specs.declared.token.TokenKind.TheVariants.{Name, NameOpen, Symbol}
use Rattle.script_lex.specs.declared.token.Symbol.TheVariants as sign
use Rattle.script_grammar.specs.Tree.{Sort, Tree, Many, ABind, ACall, AFull, AnIf, AParam, ADef, APart, AStmt, AnExpr, more, Bind, Labelled, Optional, Def, BindPart, DefPart, CallPart, IfPart, Stmt}
use Rattle.script_grammar.specs.Read.{Read, Reader, ◌>>=◌, made, both, expect, perhaps, many, chain, closed}
use Rattle.script_grammar.specs.Kinds.{is_assign, is_comma, is_close_round, is_end, is_semicolon}
use Rattle.script_grammar.specs.ReadValue.{binds, call, choice, full_by}
use Rattle.script_grammar.specs.ReadScript.{value, result, bind, inner, param, def}

-- reads a name token; otherwise fails with how many tokens are left
abbrev pub a_name : Reader (List ℕ)
a_name (Name n ∷ r) = Ok (n, r)
a_name w = Err (length w)

-- reads a name token with "(" right behind it; otherwise fails with how many tokens are left
abbrev pub an_open_name : Reader (List ℕ)
an_open_name (NameOpen n ∷ r) = Ok (n, r)
an_open_name w = Err (length w)

-- Reads `=` and a value behind the name of a binding, and gives the binding. `at` is the index of the name's token,
-- `stamp` makes such an index of the number of tokens left, and `loose` is for a binding in the body of a def.
abbrev pub bind_of : Bool → (ℕ → ℕ) → ℕ → List ℕ → Reader (Tree ABind)
bind_of loose stamp at name w = both (expect is_assign) (value loose stamp) w >>= made (λ x. Bind at name x.1)

-- reads a parameter whose "~" was read already, as if it stood there still; `stamp` makes token indexes
unfoldable pub behind_tilde : (ℕ → ℕ) → Reader (Tree AParam)
behind_tilde stamp w = param stamp (Symbol sign.Tilde ∷ w)

-- Reads a parameter's default value, from behind its `name` and "=" on, and gives the parameter. `at` is the index of
-- the name's token, and `stamp` makes such an index of the number of tokens left.
abbrev pub default_of : (ℕ → ℕ) → ℕ → List ℕ → Reader (Tree AParam)
default_of stamp at name w = value false stamp w >>= made (Optional at name)

-- Reads what may stand behind "~" and a parameter's `name`, "=" and a default, and gives the parameter. `at` is the
-- index of the name's token, and `stamp` makes such an index of the number of tokens left.
unfoldable pub label_of : (ℕ → ℕ) → ℕ → List ℕ → Reader (Tree AParam)
label_of stamp at name w = perhaps is_assign w >>= λ x. elim x.0 [
  | true ↦ default_of stamp at name x.1
  | false ↦ Ok (Labelled at name, x.1)
]

-- reads a def's parameters, one at least, with "," between them and ")" behind; `stamp` makes token indexes
abbrev pub some_params : (ℕ → ℕ) → Reader (Tree (Many AParam))
some_params stamp w = both (chain is_comma (param stamp)) (expect is_close_round) w >>= made (λ x. more x.0.0 x.0.1)

-- Reads the end of a def: the expression that is its result, and the word `end`. `stamp` makes a token's index of the
-- number of tokens left.
abbrev pub ended : (ℕ → ℕ) → Reader (Tree AnExpr × Unit {0})
ended stamp w = both (result stamp) (expect is_end) w

-- Reads a def from behind its `name` on: parameters, ")", maybe "=", the inner bindings, the result and `end`. `at` is
-- the index of the name's token, and `stamp` makes such an index of the number of tokens left.
abbrev pub def_of : (ℕ → ℕ) → ℕ → List ℕ → Reader (Tree ADef)
def_of stamp at name w = both (closed is_comma is_close_round (param stamp))
    (both (perhaps is_assign) (both (many binds (inner stamp)) (ended stamp))) w >>= made
    (λ x. Def at name x.0 x.1.0 x.1.1.0 x.1.1.1.0)

-- the outcome of reading a value, made a binding of this name as a part of a statement; `at` is the index of its name's
-- token
abbrev pub as_bind : ℕ → List ℕ → Read (Tree AFull) → Read (Tree APart)
as_bind at name read = read >>= made (λ v. BindPart (Bind at name v))

-- the outcome of reading a def, made a part of a statement
abbrev pub as_def : Read (Tree ADef) → Read (Tree APart)
as_def read = read >>= made DefPart

-- the outcome of reading a call, made a part of a statement
abbrev pub as_call : Read (Tree ACall) → Read (Tree APart)
as_call read = read >>= made CallPart

-- the outcome of reading an `if`, made a part of a statement
abbrev pub as_if : Read (Tree AnIf) → Read (Tree APart)
as_if read = read >>= made IfPart

-- reads a binding and gives it as a part of a statement; `stamp` makes token indexes
abbrev pub bind_part : (ℕ → ℕ) → Reader (Tree APart)
bind_part stamp w = bind false stamp w >>= made BindPart

-- reads a def and gives it as a part of a statement; `stamp` makes token indexes
abbrev pub def_part : (ℕ → ℕ) → Reader (Tree APart)
def_part stamp w = as_def (def stamp w)

-- Reads a call, whose values nest in fewer than `levels` levels, and gives it as a part of a statement. `stamp` makes
-- a token's index of the number of tokens left.
abbrev pub call_part : (ℕ → ℕ) → ℕ → Reader (Tree APart)
call_part stamp levels w = as_call (call stamp (full_by levels stamp) w)

-- Reads an `if`, whose values nest in fewer than `levels` levels, and gives it as a part of a statement. `stamp` makes
-- a token's index of the number of tokens left.
abbrev pub if_part : (ℕ → ℕ) → ℕ → Reader (Tree APart)
if_part stamp levels w = as_if (choice stamp (full_by levels stamp) w)

-- the outcome of reading a part of a statement, made a statement, with the ";" that may stand behind it
abbrev pub as_stmt : Read (Tree APart) → Read (Tree AStmt)
as_stmt read = read >>= λ x. perhaps is_semicolon x.1 >>= made (Stmt x.0)

-- reads a statement that is a binding, with the ";" that may stand behind it; `stamp` makes token indexes
abbrev pub bind_stmt : (ℕ → ℕ) → Reader (Tree AStmt)
bind_stmt stamp w = as_stmt (bind_part stamp w)

-- Reads a statement that is a binding, from behind its `name` on, with the ";" that may stand behind it. `at` is the
-- index of the name's token, and `stamp` makes such an index of the number of tokens left.
abbrev pub bind_stmt_of : (ℕ → ℕ) → ℕ → List ℕ → Reader (Tree AStmt)
bind_stmt_of stamp at name w = as_stmt (bind_of false stamp at name w >>= made BindPart)

-- the outcome of reading one more tree, made a list: the trees that were read before, and the new one at the end
abbrev pub pushed : {s : Sort} → List (Tree s) → Read (Tree s) → Read (List (Tree s))
pushed before read = read >>= made (λ x. before ++ x ∷ [])
