use Rattle.std.proofs.Common.{sym, ◌∙◌}
use Rattle.week_plan.proofs.Bits.{set_full}
use Rattle.week_plan.proofs.table.word_of.Goals as goal

pub returns-then-told-clause-same : goal.returns-then-told-clause-same
returns-then-told-clause-same c = λ second low. set_full second low ∙ sym c.if-told.true
