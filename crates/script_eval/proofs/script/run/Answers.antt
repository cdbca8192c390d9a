use Rattle.std.proofs.Common.{◌+◌, [], Result, refl, sym, subst}
use Rattle.std.proofs.lemmas.Result.{err_from_is_err_and}
use Rattle.std.specs.Prelude.{map}
use Rattle.script_grammar.specs.View.{listed, view_script, view_stmt}
use Rattle.script_values.specs.declared.machine.Machine.{Machine}
use Rattle.script_values.specs.Views.{view_slot}
use Rattle.eval_meaning.specs.Scripts.{Answers, Ending, statements}
use Rattle.script_eval.proofs.Statements.{stmt_end, stmt_stop, stmt_turn, turn_not_stuck}
use Rattle.script_eval.proofs.script.run.Goals as goal

pub returns-in_err-turn : goal.returns-in_err-turn
returns-in_err-turn c =
    let p = err_from_is_err_and c.from_residual.result c.from_residual.ensures.1 in
    rw (p.1, p.2) (stmt_stop (view_script c.args.defs.now.script.now) c.args.uses.now.all.now c.args.stmts.now c.turns.stmt-index c.stmt-item.result c.turns.number (c.turns.number + 1) (map view_slot c.turns.globals.all.items) c.turns.machine (statements (view_script c.args.defs.now.script.now) c.args.uses.now.all.now (listed (map view_stmt c.args.stmts.now)) 0 [] c.args.machine.now) c.in_err-turn.field-0.0 c.turns.invariant c.turns-test.true c.stmt-item.is refl c.in_err-turn.ensures)

pub turns-preserved : goal.turns-preserved
turns-preserved c =
    stmt_turn (view_script c.args.defs.now.script.now) c.args.uses.now.all.now c.args.stmts.now c.turns.stmt-index c.stmt-item.result c.turns.number (c.turns.number + 1) (map view_slot c.turns.globals.all.items) (map view_slot c.turn.new.globals.all.items) c.turns.machine c.turn.new.machine (statements (view_script c.args.defs.now.script.now) c.args.uses.now.all.now (listed (map view_stmt c.args.stmts.now)) 0 [] c.args.machine.now) c.turns.invariant c.turns-test.true c.stmt-item.is refl c.in_ok-turn.ensures

pub returns : goal.returns
returns c =
    subst (λ (r : Result Machine Ending). Answers (λ _. c.settle.new.machine) c.settle.result r) (sym (stmt_end (view_script c.args.defs.now.script.now) c.args.uses.now.all.now c.args.stmts.now c.turns.stmt-index c.turns.number (map view_slot c.turns.globals.all.items) c.turns.machine (statements (view_script c.args.defs.now.script.now) c.args.uses.now.all.now (listed (map view_stmt c.args.stmts.now)) 0 [] c.args.machine.now) c.turns.invariant c.turns-test.false)) c.settle.ensures

pub turn-requires : goal.turn-requires
turn-requires c =
    turn_not_stuck (view_script c.args.defs.now.script.now) c.args.uses.now.all.now c.args.stmts.now c.turns.stmt-index c.stmt-item.result c.turns.number (c.turns.number + 1) (map view_slot c.turns.globals.all.items) c.turns.machine (statements (view_script c.args.defs.now.script.now) c.args.uses.now.all.now (listed (map view_stmt c.args.stmts.now)) 0 [] c.args.machine.now) c.turns.invariant c.turns-test.true c.stmt-item.is refl c.requires
