use Rattle.std.proofs.Common.{◌≡◌, ◌<◌, List, get_or, length, subst}
use Rattle.script_grammar.specs.declared.tree.Stmt.{Stmt}
use Rattle.eval_scope.specs.Places.{is_def}
use Rattle.eval_scope.proofs.Tables.{table_more}
use Rattle.eval_scope.proofs.defs.Defs.new.Goals as goal

pub loop-place-preserved : goal.loop-place-preserved
loop-place-preserved c =
    let place = c.loop-place.place in
    let inside = subst (λ (l : List Stmt). place < length l) c.deref-stmt-items.ensures.value c.loop-place-test.true in
    let is = subst (λ (l : List Stmt). c.stmt-item.result ≡ get_or l place c.stmt-item.result) c.deref-stmt-items.ensures.value c.stmt-item.is in
    table_more is_def c.loop-place.places c.note_def.new.places c.args.script.now.statements.items c.stmt-item.result place inside is c.loop-place.invariant c.in_ok-note_def.ensures
