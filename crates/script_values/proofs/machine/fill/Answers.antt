use Rattle.std.proofs.Common.{arith, ◌∙◌, sym, ap, List, ℕ}
use Rattle.script_values.specs.Machines.{filled}
use Rattle.script_values.proofs.Noting.{filled_full, filled_more}
use Rattle.script_values.proofs.machine.fill.Goals as goal

pub turns-preserved : goal.turns-preserved
turns-preserved c =
    ap (filled c.args.at c.args.sources) c.in_ok-push.ensures.added
    ∙ filled_more c.args.at c.args.sources c.turns.calls (omega (arith, c.len.ensures, c.turns-test.true))
    ∙ c.turns.invariant

pub returns : goal.returns
returns c = sym (filled_full c.args.at c.args.sources c.turns.calls (omega (arith, c.len.ensures, c.turns-test.false))) ∙ c.turns.invariant
