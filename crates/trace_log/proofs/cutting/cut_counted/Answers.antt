use Rattle.std.proofs.Common.{rules, ◌≡◌, ◌<◌, ◌^◌, ◌∙◌, ◌++◌, ◌∷◌, ap, decimal, List, ℕ}
use Rattle.trace_log.proofs.cutting.cut_counted.Goals as goal

pub returns-in_err-behind-clause-only : goal.returns-in_err-behind-clause-only
returns-in_err-behind-clause-only c = λ f e. absurd (c.in_err-behind.ensures.only _ e)

pub returns-in_err-found-clause-only : goal.returns-in_err-found-clause-only
returns-in_err-found-clause-only c = λ f e.
    let small : c.args.number < 2 ^ 64 = search rules in
    absurd (c.in_err-found.ensures.only c.args.number _ small (c.in_ok-behind.ensures.only _ e))

pub returns-then-found-number-clause-only : goal.returns-then-found-number-clause-only
returns-then-found-number-clause-only c = λ f e.
    let small : c.args.number < 2 ^ 64 = search rules in
    let r = c.in_ok-found.ensures.only c.args.number _ small (c.in_ok-behind.ensures.only _ e) in
    absurd (c.if-found-number.true r.0)

pub returns-clause-found : goal.returns-clause-found
returns-clause-found c =
    let same : c.in_ok-found.found ≡ c.args.number = search rules in
    c.in_ok-behind.ensures.found
    ∙ ap (λ (t : List ℕ). c.args.word.now ++ t) (c.in_ok-found.ensures.found ∙ ap (λ n. decimal n ++ 32 ∷ c.in_ok-found.rest.now) same)

pub returns-clause-only : goal.returns-clause-only
returns-clause-only c = λ f e.
    let small : c.args.number < 2 ^ 64 = search rules in
    (c.in_ok-found.ensures.only c.args.number _ small (c.in_ok-behind.ensures.only _ e)).1
