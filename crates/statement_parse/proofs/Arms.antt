-- Reading by the first token.
use Rattle.std.proofs.Common.{◌≡◌, ℕ, List, [], ◌∷◌, length, Bool, true, false, Ok, Err, refl, ap, ◌∙◌}
use Rattle.script_lex.specs.declared.token.TokenKind.{TokenKind}
use Rattle.script_lex.specs.declared.token.TokenKind.TheVariants.{Name, NameOpen, Keyword, Symbol}
use Rattle.script_lex.specs.declared.token.Keyword.TheVariants as word
use Rattle.script_lex.specs.declared.token.Symbol.TheVariants as sign
use Rattle.script_grammar.specs.Tree.{Tree, AFull, APart, Bind, BindPart, Stmt}
use Rattle.script_grammar.specs.Kinds.{is_assign, is_semicolon}
use Rattle.script_grammar.specs.Read.{Read, ◌>>=◌, made, next, expect, perhaps}
use Rattle.script_grammar.specs.ReadScript.{value, bind, param, def, part, stmt}
use Rattle.parse_base.specs.Classes.{is_name, is_open_name, is_def, is_if}
use Rattle.statement_parse.specs.Reads.{a_name, an_open_name, bind_of, behind_tilde, label_of, def_of, as_bind, as_stmt, bind_part, def_part, call_part, if_part}

pub bind_is : (loose : Bool) (stamp : ℕ → ℕ) (w : List TokenKind) → bind loose stamp w ≡ (a_name w >>= λ x. bind_of loose stamp (stamp (length w)) x.0 x.1)
unfolding bind
bind_is loose stamp [] = refl
bind_is loose stamp (Name n ∷ r) = refl
bind_is loose stamp (k ∷ r) = refl

pub tilde_is : (stamp : ℕ → ℕ) (w : List TokenKind) → behind_tilde stamp w ≡ (a_name w >>= λ x. label_of stamp (stamp (length w)) x.0 x.1)
unfolding behind_tilde label_of param
tilde_is stamp [] = refl
tilde_is stamp (Name n ∷ []) = refl
tilde_is stamp (Name n ∷ Symbol sign.Assign ∷ r) = refl
tilde_is stamp (Name n ∷ k ∷ r) = refl
tilde_is stamp (k ∷ r) = refl

pub def_is : (stamp : ℕ → ℕ) (w : List TokenKind) → def stamp w ≡ (expect is_def w >>= λ x. an_open_name x.1 >>= λ y. def_of stamp (stamp (length x.1)) y.0 y.1)
unfolding def
def_is stamp [] = refl
def_is stamp (Keyword word.Def ∷ []) = refl
def_is stamp (Keyword word.Def ∷ NameOpen n ∷ r) = refl
def_is stamp (Keyword word.Def ∷ k ∷ r) = refl
def_is stamp (k ∷ r) = refl

pub part_bind : (stamp : ℕ → ℕ) (w : List TokenKind) → next is_name w ≡ true → part stamp w ≡ bind_part stamp w
unfolding part
part_bind stamp [] e = absurd cc
part_bind stamp (Name n ∷ r) e = refl
part_bind stamp (k ∷ r) e = absurd cc

pub part_def : (stamp : ℕ → ℕ) (w : List TokenKind) → next is_def w ≡ true → part stamp w ≡ def_part stamp w
unfolding part
part_def stamp [] e = absurd cc
part_def stamp (Keyword word.Def ∷ r) e = refl
part_def stamp (k ∷ r) e = absurd cc

pub part_call : (stamp : ℕ → ℕ) (w : List TokenKind) (levels : ℕ) → length w ≡ levels → next is_open_name w ≡ true → part stamp w ≡ call_part stamp levels w
unfolding part
part_call stamp [] levels l e = absurd cc
part_call stamp (NameOpen n ∷ r) levels l e = ap (λ (i : ℕ). call_part stamp i (NameOpen n ∷ r)) l
part_call stamp (k ∷ r) levels l e = absurd cc

pub part_if : (stamp : ℕ → ℕ) (w : List TokenKind) (levels : ℕ) → length w ≡ levels → next is_if w ≡ true → part stamp w ≡ if_part stamp levels w
unfolding part
part_if stamp [] levels l e = absurd cc
part_if stamp (Keyword word.If ∷ r) levels l e = ap (λ (i : ℕ). if_part stamp i (Keyword word.If ∷ r)) l
part_if stamp (k ∷ r) levels l e = absurd cc

-- a token that begins no statement
pub part_other : (stamp : ℕ → ℕ) (w : List TokenKind) → next is_name w ≡ false → next is_def w ≡ false → next is_open_name w ≡ false → next is_if w ≡ false → part stamp w ≡ Err (length w)
unfolding part
part_other stamp [] a b c d = refl
part_other stamp (Name n ∷ r) a b c d = absurd cc
part_other stamp (Keyword word.Def ∷ r) a b c d = absurd cc
part_other stamp (NameOpen n ∷ r) a b c d = absurd cc
part_other stamp (Keyword word.If ∷ r) a b c d = absurd cc
part_other stamp (k ∷ r) a b c d = refl

-- a statement, by its part
semicolon_behind : (p : Tree APart) (read : Read Bool) → ((read >>= λ y. Ok ((p, y.0), y.1)) >>= made {A = Tree APart × Bool} (λ x. Stmt x.0 x.1)) ≡ (read >>= made (Stmt p))
semicolon_behind p (Ok y) = refl
semicolon_behind p (Err k) = refl

behind_part : (read : Read (Tree APart)) → ((read >>= λ x. perhaps is_semicolon x.1 >>= λ y. Ok ((x.0, y.0), y.1)) >>= made {A = Tree APart × Bool} (λ x. Stmt x.0 x.1)) ≡ as_stmt read
behind_part (Ok x) = semicolon_behind x.0 (perhaps is_semicolon x.1)
behind_part (Err k) = refl

pub stmt_is : (stamp : ℕ → ℕ) (w : List TokenKind) → stmt stamp w ≡ as_stmt (part stamp w)
unfolding stmt
stmt_is stamp w = behind_part (part stamp w)

-- a binding behind its name, by its value
of_value : (at : ℕ) (name : List ℕ) (read : Read (Tree AFull)) → (((read >>= λ y. Ok ((tt, y.0), y.1)) >>= made {A = Unit {0} × Tree AFull} (λ x. Bind at name x.1)) >>= made BindPart) ≡ as_bind at name read
of_value at name (Ok y) = refl
of_value at name (Err k) = refl

pub bind_goes : (stamp : ℕ → ℕ) (at : ℕ) (name : List ℕ) (w rest : List TokenKind) → expect is_assign w ≡ Ok (tt, rest) → (bind_of false stamp at name w >>= made BindPart) ≡ as_bind at name (value false stamp rest)
bind_goes stamp at name w rest assigned =
    ap (λ (r : Read (Unit {0})). ((r >>= λ x. value false stamp x.1 >>= λ y. Ok ((x.0, y.0), y.1)) >>= made {A = Unit {0} × Tree AFull} (λ x. Bind at name x.1)) >>= made BindPart) assigned
    ∙ of_value at name (value false stamp rest)
