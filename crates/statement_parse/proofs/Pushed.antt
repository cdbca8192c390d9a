-- A statement that is pushed behind others.
use Rattle.std.proofs.Common.{◌≡◌, ℕ, List, [], ◌∷◌, ◌++◌, map, false, Result, Ok, Err, Bor, subst, sym, ap, ◌∙◌}
use Rattle.script_lex.specs.declared.token.Token.{Token}
use Rattle.script_lex.specs.declared.token.TokenKind.{TokenKind}
use Rattle.script_grammar.specs.declared.tree.Stmt.{Stmt}
use Rattle.script_grammar.specs.Tree.{Sort, Tree, APart}
use Rattle.script_grammar.specs.Kinds.{is_assign}
use Rattle.script_grammar.specs.Read.{Read, expect}
use Rattle.script_grammar.specs.ReadScript.{value, part, stmt}
use Rattle.script_grammar.specs.View.{view_stmt}
use Rattle.parse_base.specs.declared.fault.Fault.{Fault}
use Rattle.parse_base.specs.declared.fault.Fault.TheVariants as faults
use Rattle.parse_base.specs.Gives.{kinds, Gives, Fails}
use Rattle.statement_parse.specs.Reads.{as_bind, as_stmt, bind_stmt_of, pushed}
use Rattle.statement_parse.proofs.Arms.{stmt_is, bind_goes}

-- what was pushed is what was read
pub pushed_goes : {s : Sort} (before after : List (Tree s)) (read : Read (Tree s)) (rest : List TokenKind) → pushed before read ≡ Ok (after, rest) → (x : Tree s) × (read ≡ Ok (x, rest)) × (after ≡ before ++ x ∷ [])
pushed_goes {s} before after (Ok x) rest e =
    let pair : (before ++ x.0 ∷ [], x.1) ≡ (after, rest) = cc in
    (x.0, ap (λ (r : List TokenKind). Ok (x.0, r)) (ap (λ (p : List (Tree s) × List TokenKind). p.1) pair), sym (ap (λ (p : List (Tree s) × List TokenKind). p.0) pair))
pushed_goes before after (Err k) rest e = absurd cc

pub pushed_fails : {s : Sort} (before : List (Tree s)) (read : Read (Tree s)) (e : Fault) → Fails e (pushed before read) → Fails e read
pushed_fails before read faults.Memory is = tt
pushed_fails before (Ok x) (faults.Syntax k) is = absurd cc
pushed_fails before (Err j) (faults.Syntax k) is = cc

-- a statement of its part, behind others that were lent
pub by_part : (result : Result (Bor (List Token)) Fault) (old lent new : List Stmt) (stamp : ℕ → ℕ) (w : List TokenKind) (read : Read (Tree APart)) → lent ≡ old → part stamp w ≡ read
    → Gives (λ rest. (map view_stmt new, kinds rest.now)) result (pushed (map view_stmt lent) (as_stmt read)) → Gives (λ rest. (map view_stmt new, kinds rest.now)) result (pushed (map view_stmt old) (stmt stamp w))
by_part result old lent new stamp w read same is gives =
    let e : pushed (map view_stmt lent) (as_stmt read) ≡ pushed (map view_stmt old) (stmt stamp w) =
    ap (λ (l : List Stmt). pushed (map view_stmt l) (as_stmt read)) same ∙ ap (pushed (map view_stmt old)) (sym (stmt_is stamp w ∙ ap as_stmt is)) in
    subst (Gives (λ (rest : Bor (List Token)). (map view_stmt new, kinds rest.now)) result) e gives

-- a binding of its value, with a copy of its name
pub by_value : (result : Result (Bor (List Token)) Fault) (old new : List Stmt) (stamp : ℕ → ℕ) (at : ℕ) (name copy : List ℕ) (w rest : List TokenKind) → copy ≡ name → expect is_assign w ≡ Ok (tt, rest)
    → Gives (λ rest. (map view_stmt new, kinds rest.now)) result (pushed (map view_stmt old) (as_stmt (as_bind at copy (value false stamp rest)))) → Gives (λ rest. (map view_stmt new, kinds rest.now)) result (pushed (map view_stmt old) (bind_stmt_of stamp at name w))
by_value result old new stamp at name copy w rest same assigned gives =
    let e : pushed (map view_stmt old) (as_stmt (as_bind at copy (value false stamp rest))) ≡ pushed (map view_stmt old) (bind_stmt_of stamp at name w) =
    ap (λ (n : List ℕ). pushed (map view_stmt old) (as_stmt (as_bind at n (value false stamp rest)))) same ∙ ap (λ (r : Read (Tree APart)). pushed (map view_stmt old) (as_stmt r)) (sym (bind_goes stamp at name w rest assigned)) in
    subst (Gives (λ (rest : Bor (List Token)). (map view_stmt new, kinds rest.now)) result) e gives
