use Rattle.std.proofs.Common.{◌∙◌, arith, sym}
use Rattle.cell_ring.proofs.MarkRuns.{joined_marks, joined_some, last_within, pushed, pushed_some}
use Rattle.cell_ring.proofs.mark_ring.push_run.Goals as goal

pub returns-in_default-clause-marks : goal.returns-in_default-clause-marks
returns-in_default-clause-marks c =
    pushed c.args.runs.now c.push_back.new.self c.args.run c.requires.some (omega (arith, c.if-run-eq0.false)) c.requires.there c.push_back.ensures.items

pub returns-in_default-clause-some : goal.returns-in_default-clause-some
returns-in_default-clause-some c =
    pushed_some c.args.runs.now c.push_back.new.self c.args.run c.requires.some (omega (arith, c.if-run-eq0.false)) c.requires.there c.push_back.ensures.items

pub overflow_add-last : goal.overflow_add-last
overflow_add-last c =
    let is = sym (c.copied.ensures ∙ c.back.ensures) ∙ c.in-Some.is in
    omega (arith, last_within c.args.runs.now.items c.in-Some.last is, c.requires.there, c.requires.room)

pub returns-then-joins-clause-marks : goal.returns-then-joins-clause-marks
returns-then-joins-clause-marks c =
    let is = sym (c.copied.ensures ∙ c.back.ensures) ∙ c.in-Some.is in
    joined_marks c.args.runs.now.items c.in-Some.last is c.args.run c.requires.some (sym c.joins.ensures ∙ c.if-joins.true) c.pop_back.new.self c.push_back-then-joins.new.self
    c.args.runs.now.capacity c.requires.there c.pop_back.ensures.items c.push_back-then-joins.ensures.items

pub returns-then-joins-clause-some : goal.returns-then-joins-clause-some
returns-then-joins-clause-some c =
    let is = sym (c.copied.ensures ∙ c.back.ensures) ∙ c.in-Some.is in
    joined_some c.args.runs.now.items c.in-Some.last is c.args.run c.requires.some (sym c.joins.ensures ∙ c.if-joins.true) c.pop_back.new.self c.push_back-then-joins.new.self
    c.args.runs.now.capacity c.requires.there c.pop_back.ensures.items c.push_back-then-joins.ensures.items

pub returns-else-joins-clause-marks : goal.returns-else-joins-clause-marks
returns-else-joins-clause-marks c =
    pushed c.args.runs.now c.push_back-else-joins.new.self c.args.run c.requires.some (omega (arith, c.if-run-eq0.false)) c.requires.there c.push_back-else-joins.ensures.items

pub returns-else-joins-clause-some : goal.returns-else-joins-clause-some
returns-else-joins-clause-some c =
    pushed_some c.args.runs.now c.push_back-else-joins.new.self c.args.run c.requires.some (omega (arith, c.if-run-eq0.false)) c.requires.there c.push_back-else-joins.ensures.items
