use Rattle.std.proofs.Common.{◌≡◌, ◌∙◌, ◌+◌, ◌++◌, ap, map, subst, Some, option_map}
use Rattle.script_grammar.specs.View.{view_stmt}
use Rattle.name_scope.specs.Noted.{resolved}
use Rattle.name_scope.specs.Seen.{in_scope}
use Rattle.typing_rules.specs.NameFaults.{faults_in, name_fault_in, reported_fault}
use Rattle.type_infer.proofs.Fronting.{at_most_seen, below_seen, front_end, front_here, names_next, over_seen, scope_next, stmt_seen}
use Rattle.type_infer.proofs.front.resolve_each.Goals as goal

pub returns-in-Err : goal.returns-in-Err
returns-in-Err c =
    let xs = c.args.statements.now in
    let i = c.loop-stmt.stmt-index in
    let x = c.stmt-item.result in
    front_here (map view_stmt xs) i c.loop-stmt.number (map resolved c.loop-stmt.all.items) (view_stmt x) (in_scope c.loop-stmt.scope) c.in-Err.fault
    c.loop-stmt.invariant.number_is c.loop-stmt.invariant.names_are (below_seen xs i c.loop-stmt-test.true) (stmt_seen xs i x c.loop-stmt-test.true c.stmt-item.is) c.loop-stmt.invariant.scope_is
    (λ other. subst (λ n. option_map (name_fault_in (n + 1)) (reported_fault (faults_in (in_scope c.loop-stmt.scope) (view_stmt x))) ≡ Some c.in-Err.fault) c.loop-stmt.invariant.number_is (c.in-Err.ensures.told other))

pub loop-stmt-preserved : goal.loop-stmt-preserved
loop-stmt-preserved c =
    let xs = c.args.statements.now in
    let i = c.loop-stmt.stmt-index in
    let x = c.stmt-item.result in
    let more = c.in_ok-add_all-in-Ok.ensures ∙ ap (λ l. map resolved c.loop-stmt.all.items ++ map resolved l) c.deref.ensures.value in
    record {
      names_are = names_next (map view_stmt xs) i (map resolved c.loop-stmt.all.items) (map resolved c.add_all.new.all.items) (map resolved c.note_names.new.notes.found.items) (view_stmt x) (in_scope c.loop-stmt.scope)
          c.loop-stmt.invariant.names_are (below_seen xs i c.loop-stmt-test.true) (stmt_seen xs i x c.loop-stmt-test.true c.stmt-item.is) c.loop-stmt.invariant.scope_is c.in-Ok.ensures.names c.in-Ok.ensures.faultless more;
      clear = c.in-Ok.ensures.clear;
      number_is = ap (λ n. n + 1) c.loop-stmt.invariant.number_is;
      scope_is = scope_next (map view_stmt xs) i (view_stmt x) (in_scope c.loop-stmt.scope) (in_scope c.note_names.new.scope) (below_seen xs i c.loop-stmt-test.true) (stmt_seen xs i x c.loop-stmt-test.true c.stmt-item.is) c.loop-stmt.invariant.scope_is c.in-Ok.ensures.bound;
    }

pub returns : goal.returns
returns c =
    let xs = c.args.statements.now in
    front_end (map view_stmt xs) c.loop-stmt.stmt-index c.loop-stmt.number (map resolved c.loop-stmt.all.items) c.loop-stmt.invariant.number_is c.loop-stmt.invariant.names_are (at_most_seen xs c.loop-stmt.stmt-index c.loop-stmt.auto.stmt-index-end) (over_seen xs c.loop-stmt.stmt-index c.loop-stmt-test.false)
