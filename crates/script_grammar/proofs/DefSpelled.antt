-- What a def spells.
use Rattle.std.proofs.Common.{◌≡◌, List, [], ◌∷◌, ◌++◌, Result, OnOk, refl, sym, ap, ◌∙◌, append_assoc}
use Rattle.std.specs.Prelude.{map}
use Rattle.script_lex.specs.declared.token.TokenKind.{TokenKind}
use Rattle.script_lex.specs.declared.token.TokenKind.TheVariants.{NameOpen, Keyword, Symbol}
use Rattle.script_lex.specs.declared.token.Keyword.TheVariants as word
use Rattle.script_lex.specs.declared.token.Symbol.TheVariants as sign
use Rattle.script_grammar.specs.Spelling.{spell, token_if}
use Rattle.script_grammar.specs.View.{listed, view_expr, view_def, view_param, view_inner}
use Rattle.script_grammar.specs.declared.tree.Def as def
use Rattle.script_grammar.specs.declared.tree.Param as param
use Rattle.script_grammar.specs.declared.tree.Inner as inner
use Rattle.script_grammar.specs.Pieces.{between_commas}
use Rattle.script_grammar.proofs.Spelled.{each_listed, commas_listed, two_parts}
use Rattle.script_grammar.specs.DefPieces.{def_head, def_body}

def_spelled : (d : def.Def) → spell (view_def d) ≡ def_head d.name (map view_param d.params.items) ++ (token_if (Symbol sign.Assign) d.equals ++ def_body (map view_inner d.inner.items) (view_expr d.result))
def_spelled d =
    let ps = map view_param d.params.items in
    let mark = token_if (Symbol sign.Assign) d.equals in
    let rest = spell (view_expr d.result) ++ (Keyword word.End ∷ []) in
    ap (λ (z : List TokenKind). Keyword word.Def ∷ NameOpen d.name ∷ (z ++ (Symbol sign.CloseRound ∷ (mark ++ (spell (listed (map view_inner d.inner.items)) ++ rest))))) (commas_listed ps)
    ∙ ap (λ (z : List TokenKind). Keyword word.Def ∷ NameOpen d.name ∷ (between_commas ps ++ (Symbol sign.CloseRound ∷ (mark ++ (z ++ rest))))) (each_listed (map view_inner d.inner.items))
    ∙ ap (λ (z : List TokenKind). Keyword word.Def ∷ NameOpen d.name ∷ z) (sym (append_assoc (between_commas ps) (Symbol sign.CloseRound ∷ []) (mark ++ def_body (map view_inner d.inner.items) (view_expr d.result))))

pub def_parts : {E : Type 0} (r : Result (Unit {0}) E) (d : def.Def) (ps : List param.Param) (is : List inner.Inner) (old a b new : List TokenKind) → ps ≡ d.params.items → is ≡ d.inner.items → a ≡ old ++ def_head d.name (map view_param ps) → b ≡ a ++ token_if (Symbol sign.Assign) d.equals → OnOk r (new ≡ b ++ def_body (map view_inner is) (view_expr d.result)) → OnOk r (new ≡ old ++ spell (view_def d))
def_parts r d ps is old a b new pis iis ais bis nis =
    let head = def_head d.name (map view_param ps) in
    let mark = token_if (Symbol sign.Assign) d.equals in
    let body = def_body (map view_inner is) (view_expr d.result) in
    let whole : spell (view_def d) ≡ head ++ (mark ++ body) = def_spelled d ∙ ap (λ (z : List param.Param). def_head d.name (map view_param z) ++ (mark ++ def_body (map view_inner d.inner.items) (view_expr d.result))) (sym pis) ∙ ap (λ (z : List inner.Inner). head ++ (mark ++ def_body (map view_inner z) (view_expr d.result))) (sym iis) in
    two_parts r old a new head (mark ++ body) (spell (view_def d)) ais (two_parts r a b new mark body (mark ++ body) bis nis refl) whole
