use Rattle.std.proofs.Common.{◌≤◌, ◌∙◌, length, sym}
use Rattle.where_lines.proofs.Sourcing.{has_tokens, no_source, source_at}
use Rattle.where_lines.proofs.sources.call_place.Goals as goal

pub returns-in-Some-clause-place : goal.returns-in-Some-clause-place
returns-in-Some-clause-place c =
    let of = c.requires.call in
    source_at c.args.text.now of.plan of.calls c.args._source c.in-Some.token c.token_place.result of.are.sources (of.call_is ∙ c.in-Some.is) (rw (sym c.from.ensures) c.token_place.ensures.place)

pub returns-in-Some-clause-none : goal.returns-in-Some-clause-none
returns-in-Some-clause-none c =
    let of = c.requires.call in
    has_tokens (λ plan. length plan.nodes ≤ c.args._source) c.args.text.now of.plan of.calls c.token_place.result of.are.sources c.token_place.ensures.none

pub returns-in-None-clause-none : goal.returns-in-None-clause-none
returns-in-None-clause-none c = λ none.
    let of = c.requires.call in
    no_source c.args.text.now of.plan of.calls c.args._source (c.one_answer.ensures.plan c.args.text.now) of.are.is_plan of.are.each (of.call_is ∙ c.in-None.is)
