-- Each script is read from its spelling, so no list of tokens has two.
use Rattle.std.proofs.Common.{◌≡◌, ℕ, suc, ◌<◌, List, [], ◌∷◌, ◌++◌, length, Bool, true, false, Ok, Err, refl, sym, ap, subst, ◌∙◌, append_assoc, arith}
use Rattle.std.proofs.lemmas.List.{append-nil}
use Rattle.script_lex.specs.declared.token.TokenKind.{TokenKind}
use Rattle.script_lex.specs.declared.token.TokenKind.TheVariants.{Name, NameOpen, Keyword, Symbol}
use Rattle.script_lex.specs.declared.token.Keyword.TheVariants as word
use Rattle.script_lex.specs.declared.token.Symbol.TheVariants as sign
use Rattle.script_grammar.specs.Tree.{Tree, Many, none, more, AStmt, APart, ABind, ADef, AnInner, AParam, AnExpr, Stmt, BindPart, DefPart, CallPart, IfPart, Bind, Def, Inner, Param, Labelled, Optional, NamedCall, If, Script}
use Rattle.script_grammar.specs.Spelling.{spell, with_commas, token_if, spelling}
use Rattle.script_grammar.specs.Bare.{bare}
use Rattle.script_grammar.specs.Read.{Read, both, next, expect, perhaps, many, closed}
use Rattle.script_grammar.specs.Kinds.{is_assign, is_comma, is_close_round, is_end, is_semicolon, is_any}
use Rattle.script_grammar.specs.ReadValue.{binds, full_by}
use Rattle.script_grammar.specs.ReadScript.{no_place, value, result, bind, inner, param, def, part, stmt, script}
use Rattle.script_grammar.proofs.Rules.{Reads, Anything, same, weaker, lift, pair_sp, pair_pl, both_reads, expect_reads, perhaps_reads, many_reads, closed_reads}
use Rattle.script_grammar.proofs.Firsts.{Ends, strength, no_option, expr_binds, expr_weak, expr_optional, expr_no_assign, expr_no_semicolon, stop_assign}
use Rattle.script_grammar.proofs.ValueRead.{by_reads, step_reads, expr_reads, call_reads, choice_reads}

-- what stands behind a part that a `;` may end
abbrev Behind : Bool → List TokenKind → Type 0
Behind loose u = Ends loose 1 u × (next is_semicolon u ≡ false)

ends_mark : (loose : Bool) (b : Bool) (u : List TokenKind) → Ends loose 1 u → Ends loose 1 (token_if (Symbol sign.Semicolon) b ++ u)
ends_mark loose true u e = (omega arith, no_option loose (Symbol sign.Semicolon ∷ u) refl)
ends_mark loose false u e = e

mark_reads : (loose : Bool) (n : ℕ) → Reads (perhaps is_semicolon) (token_if (Symbol sign.Semicolon)) same (Behind loose) n
mark_reads loose n = weaker (Behind loose) (λ u e. e.1) (perhaps_reads is_semicolon (Symbol sign.Semicolon) refl)

-- ---- bindings

pub value_reads : (loose : Bool) (n : ℕ) → Reads (value loose no_place) spell bare (Ends loose 1) n
unfolding value
value_reads loose n = record {
  again = λ t u e short.
      let m = length (spell t ++ u) in
      (step_reads (full_by m no_place) m (by_reads m) loose).again t u e (omega arith);
}

expr_result_reads : (n : ℕ) → Reads (result no_place) spell bare (Ends false 1) n
unfolding result
expr_result_reads n = record {
  again = λ t u e short.
      let m = length (spell t ++ u) in
      (expr_reads (full_by m no_place) m (by_reads m) false).again t u e (omega arith);
}

bind_again : (loose : Bool) (n : ℕ) (t : Tree ABind) (u : List TokenKind) → Ends loose 1 u → length (spell t ++ u) < n → bind loose no_place (spell t ++ u) ≡ Ok (bare t, u)
unfolding bind
bind_again loose n (Bind at x v) u e short = lift ((both_reads (expect_reads is_assign (Symbol sign.Assign) refl) (value_reads loose n) (λ b u e. tt)).again (tt, v) u e (omega arith)) (λ y. Bind 0 x y.1)

bind_reads : (loose : Bool) (n : ℕ) → Reads (bind loose no_place) spell bare (Ends loose 1) n
bind_reads loose n = record { again = bind_again loose n }

inner_again : (n : ℕ) (t : Tree AnInner) (u : List TokenKind) → Behind true u → length (spell t ++ u) < suc n → inner no_place (spell t ++ u) ≡ Ok (bare t, u)
unfolding inner
inner_again n (Inner b semicolon) u e short = lift ((both_reads (bind_reads true (suc n)) (mark_reads true (suc n)) (λ b u e. ends_mark true b u e.0)).again (b, semicolon) u e short) (λ x. Inner x.0 x.1)

inner_binds : (t : Tree AnInner) (u : List TokenKind) → binds (spell t ++ u) ≡ true
inner_binds (Inner (Bind at x v) b) u = refl

inner_follows : (t : Tree AnInner) (u : List TokenKind) → Behind true (spell t ++ u)
inner_follows (Inner (Bind at x v) b) u = ((omega arith, refl), refl)

inner_long : (t : Tree AnInner) → 0 < length (spell t)
inner_long (Inner (Bind at x v) b) = omega arith

inners_reads : (n : ℕ) → Reads (many binds (inner no_place)) (λ (ts : Tree (Many AnInner)). spell ts) bare (λ u. Behind true u × (binds u ≡ false)) (suc n)
inners_reads n = many_reads binds (inner no_place) spell (Behind true) (suc n) (record { again = inner_again n }) (λ (ts : Tree (Many AnInner)). spell ts) refl (λ t ts. refl) inner_binds inner_follows inner_long

-- ---- parameters

labelled_again : (x : List ℕ) (u : List TokenKind) → next is_assign u ≡ false → param no_place (Symbol sign.Tilde ∷ Name x ∷ u) ≡ Ok (Labelled 0 x, u)
unfolding param
labelled_again x [] e = refl
labelled_again x (Symbol sign.Assign ∷ u) e = absurd cc
labelled_again x (k ∷ u) e = refl

param_again : (n : ℕ) (t : Tree AParam) (u : List TokenKind) → Ends false 1 u → length (spell t ++ u) < suc n → param no_place (spell t ++ u) ≡ Ok (bare t, u)
unfolding param
param_again n (Param at x) u e short = refl
param_again n (Labelled at x) u e short = labelled_again x u (stop_assign u (omega (arith, e.0)))
param_again n (Optional at x f) u e short = lift ((value_reads false n).again f u e (omega arith)) (Optional 0 x)

param_no_round : (t : Tree AParam) (u : List TokenKind) → next is_assign u ≡ false → next is_close_round (spell t ++ u) ≡ false
param_no_round (Param at x) u e = refl
param_no_round (Labelled at x) u e = refl
param_no_round (Optional at x f) u e = refl

params_reads : (n : ℕ) → Reads (closed is_comma is_close_round (param no_place)) (λ (ts : Tree (Many AParam)). with_commas ts ++ (Symbol sign.CloseRound ∷ [])) bare Anything (suc n)
params_reads n = closed_reads is_close_round (Symbol sign.CloseRound) refl refl refl (param no_place) (Ends false 1) (suc n) (record { again = param_again n }) (λ u. (omega arith, refl)) (λ u. (omega arith, refl)) param_no_round

-- ---- defs

abbrev end_sp : Unit {0} → List TokenKind
end_sp x = Keyword word.End ∷ []

abbrev result_sp : Tree AnExpr × Unit {0} → List TokenKind
result_sp = pair_sp spell end_sp

result_reads : (n : ℕ) → Reads (both (result no_place) (expect is_end)) result_sp (pair_pl bare same) Anything (suc n)
result_reads n = both_reads (expr_result_reads (suc n)) (expect_reads is_end (Keyword word.End) refl) (λ b u e. (omega arith, refl))

-- a result ends the bindings before it
ends_inners : (e : Tree AnExpr) (u : List TokenKind) → Behind true (spell e ++ (Keyword word.End ∷ u)) × (binds (spell e ++ (Keyword word.End ∷ u)) ≡ false)
ends_inners e u =
    let w = Keyword word.End ∷ u in
    let weak : strength (spell e ++ w) ≡ 0 = expr_weak e w refl in
    (((omega arith, expr_optional e w refl), expr_no_semicolon e w refl), expr_binds e w refl)

result_behind : (b : Tree AnExpr × Unit {0}) (u : List TokenKind) → Behind true (result_sp b ++ u) × (binds (result_sp b ++ u) ≡ false)
result_behind b u = subst (λ (z : List TokenKind). Behind true z × (binds z ≡ false)) (sym (append_assoc (spell b.0) (Keyword word.End ∷ []) u)) (ends_inners b.0 u)

abbrev body_sp : Tree (Many AnInner) × (Tree AnExpr × Unit {0}) → List TokenKind
body_sp = pair_sp (λ (ts : Tree (Many AnInner)). spell ts) result_sp

body_reads : (n : ℕ) → Reads (both (many binds (inner no_place)) (both (result no_place) (expect is_end))) body_sp (pair_pl bare (pair_pl bare same)) Anything (suc n)
body_reads n = both_reads (inners_reads n) (result_reads n) (λ b u e. result_behind b u)

body_no_assign : (ts : Tree (Many AnInner)) (e : Tree AnExpr) (u : List TokenKind) → next is_assign (body_sp (ts, (e, tt)) ++ u) ≡ false
body_no_assign none e u = ap (next is_assign) (append_assoc (spell e) (Keyword word.End ∷ []) u) ∙ expr_no_assign e (Keyword word.End ∷ u) refl
body_no_assign (more (Inner (Bind at x v) b) ts) e u = refl

equals_reads : (n : ℕ) → Reads (both (perhaps is_assign) (both (many binds (inner no_place)) (both (result no_place) (expect is_end)))) (pair_sp (token_if (Symbol sign.Assign)) body_sp) (pair_pl same (pair_pl bare (pair_pl bare same))) Anything (suc n)
equals_reads n = both_reads (perhaps_reads is_assign (Symbol sign.Assign) refl) (body_reads n) (λ b u e. body_no_assign b.0 b.1.0 u)

abbrev params_sp : Tree (Many AParam) → List TokenKind
params_sp ts = with_commas ts ++ (Symbol sign.CloseRound ∷ [])

def_parts : (n : ℕ) → Reads (both (closed is_comma is_close_round (param no_place)) (both (perhaps is_assign) (both (many binds (inner no_place)) (both (result no_place) (expect is_end))))) (pair_sp params_sp (pair_sp (token_if (Symbol sign.Assign)) body_sp)) (pair_pl bare (pair_pl same (pair_pl bare (pair_pl bare same)))) Anything (suc n)
def_parts n = both_reads (params_reads n) (equals_reads n) (λ b u e. tt)

def_again : (n : ℕ) (t : Tree ADef) (u : List TokenKind) → Anything u → length (spell t ++ u) < suc n → def no_place (spell t ++ u) ≡ Ok (bare t, u)
unfolding def
def_again n (Def at x ps eq is e) u any short =
    let later = token_if (Symbol sign.Assign) eq ++ (spell is ++ (spell e ++ (Keyword word.End ∷ []))) in
    let regroup : (with_commas ps ++ (Symbol sign.CloseRound ∷ later)) ++ u ≡ (params_sp ps ++ later) ++ u = ap (λ (z : List TokenKind). z ++ u) (sym (append_assoc (with_commas ps) (Symbol sign.CloseRound ∷ []) later)) in
    let short' : length ((params_sp ps ++ later) ++ u) < suc n = omega (arith, ap length regroup) in
    ap (λ (z : List TokenKind). def no_place (Keyword word.Def ∷ NameOpen x ∷ z)) regroup ∙ lift ((def_parts n).again (ps, (eq, (is, (e, tt)))) u tt short') (λ y. Def 0 x y.0 y.1.0 y.1.1.0 y.1.1.1.0)

-- ---- statements

part_again : (n : ℕ) (t : Tree APart) (u : List TokenKind) → Ends false 1 u → length (spell t ++ u) < suc n → part no_place (spell t ++ u) ≡ Ok (bare t, u)
unfolding part
part_again n (BindPart (Bind at x v)) u e short = lift (bind_again false (suc n) (Bind at x v) u e short) BindPart
part_again n (DefPart (Def at x ps eq is v)) u e short = lift (def_again n (Def at x ps eq is v) u tt short) DefPart
part_again n (CallPart (NamedCall at x ts)) u e short =
    let m = suc (length ((with_commas ts ++ (Symbol sign.CloseRound ∷ [])) ++ u)) in
    lift ((call_reads (full_by m no_place) m (by_reads m)).again (NamedCall at x ts) u tt (omega arith)) CallPart
part_again n (IfPart (If at c t f)) u e short =
    let m = suc (length ((spell c ++ (Keyword word.Then ∷ (spell t ++ (Keyword word.Else ∷ (spell f ++ (Keyword word.End ∷ [])))))) ++ u)) in
    lift ((choice_reads (full_by m no_place) m (by_reads m)).again (If at c t f) u tt (omega arith)) IfPart

part_reads : (n : ℕ) → Reads (part no_place) spell bare (Ends false 1) (suc n)
part_reads n = record { again = part_again n }

stmt_again : (n : ℕ) (t : Tree AStmt) (u : List TokenKind) → Behind false u → length (spell t ++ u) < suc n → stmt no_place (spell t ++ u) ≡ Ok (bare t, u)
unfolding stmt
stmt_again n (Stmt p semicolon) u e short = lift ((both_reads (part_reads n) (mark_reads false (suc n)) (λ b u e. ends_mark false b u e.0)).again (p, semicolon) u e short) (λ x. Stmt x.0 x.1)

stmt_any : (t : Tree AStmt) (u : List TokenKind) → next is_any (spell t ++ u) ≡ true
stmt_any (Stmt (BindPart (Bind at x v)) b) u = refl
stmt_any (Stmt (DefPart (Def at x ps eq is v)) b) u = refl
stmt_any (Stmt (CallPart (NamedCall at x ts)) b) u = refl
stmt_any (Stmt (IfPart (If at c t f)) b) u = refl

stmt_follows : (t : Tree AStmt) (u : List TokenKind) → Behind false (spell t ++ u)
stmt_follows (Stmt (BindPart (Bind at x v)) b) u = ((omega arith, refl), refl)
stmt_follows (Stmt (DefPart (Def at x ps eq is v)) b) u = ((omega arith, refl), refl)
stmt_follows (Stmt (CallPart (NamedCall at x ts)) b) u = ((omega arith, refl), refl)
stmt_follows (Stmt (IfPart (If at c t f)) b) u = ((omega arith, refl), refl)

stmt_long : (t : Tree AStmt) → 0 < length (spell t)
stmt_long (Stmt (BindPart (Bind at x v)) b) = omega arith
stmt_long (Stmt (DefPart (Def at x ps eq is v)) b) = omega arith
stmt_long (Stmt (CallPart (NamedCall at x ts)) b) = omega arith
stmt_long (Stmt (IfPart (If at c t f)) b) = omega arith

stmts_reads : (n : ℕ) → Reads (many (next is_any) (stmt no_place)) (λ (ts : Script). spell ts) bare (λ u. Behind false u × (next is_any u ≡ false)) (suc n)
stmts_reads n = many_reads (next is_any) (stmt no_place) spell (Behind false) (suc n) (record { again = stmt_again n }) (λ (ts : Script). spell ts) refl (λ t ts. refl) stmt_any stmt_follows stmt_long

-- ---- scripts

-- a script's spelling is read as the script
pub script_again : (s : Script) → script no_place (spelling s) ≡ Ok (bare s, [])
unfolding script
script_again s =
    ap (script no_place) (sym (append-nil (spell s))) ∙ (stmts_reads (length (spell s ++ []))).again s [] (((omega arith, refl), refl), refl) (omega arith)

abbrev tree_of : Read Script → Script
tree_of (Ok x) = x.0
tree_of (Err k) = none

pub one_script : (a b : Script) → spelling a ≡ spelling b → bare a ≡ bare b
one_script a b e = sym (ap tree_of (script_again a)) ∙ ap (λ (w : List TokenKind). tree_of (script no_place w)) e ∙ ap tree_of (script_again b)
