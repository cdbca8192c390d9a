use Rattle.std.proofs.Common.{◌≡◌, List, [], Ok, map, refl, sym, ap, ◌∙◌, arith}
use Rattle.std.proofs.lemmas.List.{map-id}
use Rattle.std.proofs.lemmas.List.Elements.{All-nil}
use Rattle.std.proofs.lemmas.Result.{err_from_is_err_and}
use Rattle.script_grammar.specs.Kinds.{is_any}
use Rattle.script_grammar.specs.Read.{next}
use Rattle.script_grammar.specs.ReadScript.{stmt}
use Rattle.script_grammar.specs.Tree.{Tree, AStmt}
use Rattle.script_grammar.specs.View.{listed, view_stmt}
use Rattle.script_grammar.specs.Whole.{IsWholeStmt}
use Rattle.parse_base.specs.Gives.{kinds, places}
use Rattle.parse_base.proofs.Turns.{begins, goes_on, fails, ends}
use Rattle.statement_parse.proofs.Pushed.{pushed_goes, pushed_fails}
use Rattle.statement_parse.proofs.statement.statements.Goals as goal

pub turns-init : goal.turns-init
turns-init c =
    let none_yet : c.in_ok-items.items.items ≡ [] = c.in_ok-items.ensures.items in
    (omega arith, begins (λ (t : Tree AStmt). t) (next is_any) (stmt (places c.args.total)) c.args.tokens.now (map view_stmt c.in_ok-items.items.items) (ap (map view_stmt) none_yet), rw none_yet (All-nil IsWholeStmt))

pub returns-in_err-rest-clause-gives : goal.returns-in_err-rest-clause-gives
returns-in_err-rest-clause-gives c =
    let p = err_from_is_err_and c.from_residual-in_err-rest.result c.from_residual-in_err-rest.ensures.1 in
    let e = c.in_err-rest.field-0.0 in
    rw (p.1, p.2) (fails c.turns.invariant.1 e refl (sym c.next_is.ensures ∙ c.turns-test.true) (pushed_fails (map view_stmt c.turns.items.items) (stmt (places c.args.total) (kinds c.turns.rest.now)) e c.in_err-rest.ensures.gives))

pub turns-preserved : goal.turns-preserved
turns-preserved c =
    let after = c.in_ok-rest.rest.now in
    let one = pushed_goes (map view_stmt c.turns.items.items) (map view_stmt c.statement.new.items.items) (stmt (places c.args.total) (kinds c.turns.rest.now)) (kinds after) c.in_ok-rest.ensures.gives in (
      omega (arith, c.turns.invariant.0, c.in_ok-rest.ensures.shorter),
      goes_on c.turns.invariant.1 one.0 after (map view_stmt c.statement.new.items.items) (sym c.next_is.ensures ∙ c.turns-test.true) one.1 c.in_ok-rest.ensures.shorter one.2,
      c.in_ok-rest.ensures.whole c.turns.invariant.2,
    )

pub returns-clause-gives : goal.returns-clause-gives
returns-clause-gives c =
    ends c.turns.invariant.1 (sym c.next_is.ensures ∙ c.turns-test.false)
    ∙ ap (λ (ts : List (Tree AStmt)). Ok (listed ts, kinds c.turns.rest.now)) (map-id (map view_stmt c.turns.items.items))
