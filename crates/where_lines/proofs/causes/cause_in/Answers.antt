use Rattle.std.proofs.Common.{sym}
use Rattle.where_lines.proofs.Causing.{never_none, no_output, output_placed}
use Rattle.where_lines.proofs.causes.cause_in.Goals as goal

pub returns-in-Some-clause-place : goal.returns-in-Some-clause-place
returns-in-Some-clause-place c =
    output_placed c.args.text.now c.args.name.now c.args.plan.now c.in-Some.output c.cause_of.result c.requires.plan (sym c.in-Some.ensures.named) c.cause_of.ensures.place

pub returns-in-Some-clause-none : goal.returns-in-Some-clause-none
returns-in-Some-clause-none c = never_none c.args.text.now c.args.name.now c.cause_of.result c.cause_of.ensures.some

pub returns-in-None-clause-none : goal.returns-in-None-clause-none
returns-in-None-clause-none c = λ none. no_output c.args.text.now c.args.name.now c.args.plan.now (c.one_answer.ensures.plan c.args.text.now) c.requires.plan (sym c.in-None.ensures.named)
