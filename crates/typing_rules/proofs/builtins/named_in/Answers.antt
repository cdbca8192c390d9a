use Rattle.std.proofs.Common.{sym, ◌∙◌}
use Rattle.typing_rules.proofs.Searches.{row_there, row_next, row_none}
use Rattle.typing_rules.proofs.builtins.named_in.Goals as goal

pub returns-then-is_same_name : goal.returns-then-is_same_name
returns-then-is_same_name c = record { same = row_there c.args.name.now c.args.rows.now c.loop-row.row-index _ _ c.loop-row.invariant c.loop-row-test.true (sym c.is_same_name.ensures.same ∙ c.if-is_same_name.true) }

pub loop-row-preserved : goal.loop-row-preserved
loop-row-preserved c = row_next c.args.name.now c.args.rows.now c.loop-row.row-index _ _ c.loop-row.invariant c.loop-row-test.true (sym c.is_same_name.ensures.same ∙ c.if-is_same_name.false)

pub returns : goal.returns
returns c = record { same = row_none c.args.name.now c.args.rows.now c.loop-row.row-index _ c.loop-row.invariant c.loop-row-test.false }
