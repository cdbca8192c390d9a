use Rattle.std.proofs.Common.{sym, ◌∙◌}
use Rattle.script_places.proofs.Counts.{width_1, width_2, width_3, width_4, width_none}
use Rattle.script_places.proofs.counting.width.Goals as goal

pub returns-then-are_utf8-clause-width : goal.returns-then-are_utf8-clause-width
returns-then-are_utf8-clause-width c = width_1 c.args.bytes.now (sym c.are_utf8.ensures.same ∙ c.if-are_utf8.true)

pub returns-then-are_utf8-2-clause-width : goal.returns-then-are_utf8-2-clause-width
returns-then-are_utf8-2-clause-width c = width_2 c.args.bytes.now (sym c.are_utf8.ensures.same ∙ c.if-are_utf8.false) (sym c.are_utf8-else-are_utf8.ensures.same ∙ c.if-are_utf8-2.true)

pub returns-then-are_utf8-3-clause-width : goal.returns-then-are_utf8-3-clause-width
returns-then-are_utf8-3-clause-width c = width_3 c.args.bytes.now (sym c.are_utf8.ensures.same ∙ c.if-are_utf8.false) (sym c.are_utf8-else-are_utf8.ensures.same ∙ c.if-are_utf8-2.false) (sym c.are_utf8-else-are_utf8-2.ensures.same ∙ c.if-are_utf8-3.true)

pub returns-then-are_utf8-4-clause-width : goal.returns-then-are_utf8-4-clause-width
returns-then-are_utf8-4-clause-width c = width_4 c.args.bytes.now (sym c.are_utf8.ensures.same ∙ c.if-are_utf8.false) (sym c.are_utf8-else-are_utf8.ensures.same ∙ c.if-are_utf8-2.false) (sym c.are_utf8-else-are_utf8-2.ensures.same ∙ c.if-are_utf8-3.false) (sym c.are_utf8-else-are_utf8-3.ensures.same ∙ c.if-are_utf8-4.true)

pub returns-else-are_utf8-4-clause-width : goal.returns-else-are_utf8-4-clause-width
returns-else-are_utf8-4-clause-width c = width_none c.args.bytes.now (sym c.are_utf8.ensures.same ∙ c.if-are_utf8.false) (sym c.are_utf8-else-are_utf8.ensures.same ∙ c.if-are_utf8-2.false) (sym c.are_utf8-else-are_utf8-2.ensures.same ∙ c.if-are_utf8-3.false) (sym c.are_utf8-else-are_utf8-3.ensures.same ∙ c.if-are_utf8-4.false)
