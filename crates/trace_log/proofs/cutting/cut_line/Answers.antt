use Rattle.std.proofs.Common.{◌∙◌, ◌++◌, ◌∷◌, ap, List, ℕ, codes}
use Rattle.buffer_ends.specs.Local.{Answers}
use Rattle.trace_log.proofs.Words.{line_parts, line_joins}
use Rattle.trace_log.proofs.cutting.cut_line.Goals as goal

pub returns-in_err-behind_window-clause-only : goal.returns-in_err-behind_window-clause-only
returns-in_err-behind_window-clause-only c = λ log f e.
    absurd (c.in_err-behind_window.ensures.only _ (e ∙ line_parts c.args.window c.args.buffer log f))

pub returns-in_err-behind_place-clause-only : goal.returns-in_err-behind_place-clause-only
returns-in_err-behind_place-clause-only c = λ log f e.
    let r1 = c.in_ok-behind_window.ensures.only _ (e ∙ line_parts c.args.window c.args.buffer log f) in
    absurd (c.in_err-behind_place.ensures.only _ r1)

pub returns-in_err-puts-clause-only : goal.returns-in_err-puts-clause-only
returns-in_err-puts-clause-only c = λ log f e.
    let r1 = c.in_ok-behind_window.ensures.only _ (e ∙ line_parts c.args.window c.args.buffer log f) in
    let r2 = c.in_ok-behind_place.ensures.only _ r1 in
    absurd (c.in_err-puts.ensures.only log.puts _ r2)

pub returns-in_err-takes-clause-only : goal.returns-in_err-takes-clause-only
returns-in_err-takes-clause-only c = λ log f e.
    let r1 = c.in_ok-behind_window.ensures.only _ (e ∙ line_parts c.args.window c.args.buffer log f) in
    let r2 = c.in_ok-behind_place.ensures.only _ r1 in
    let r3 = c.in_ok-puts.ensures.only log.puts _ r2 in
    absurd (c.in_err-takes.ensures.only log.takes _ r3.1)

pub returns-clause-only : goal.returns-clause-only
returns-clause-only c = λ log f e.
    let r1 = c.in_ok-behind_window.ensures.only _ (e ∙ line_parts c.args.window c.args.buffer log f) in
    let r2 = c.in_ok-behind_place.ensures.only _ r1 in
    let r3 = c.in_ok-puts.ensures.only log.puts _ r2 in
    let r4 = c.in_ok-takes.ensures.only log.takes _ r3.1 in
    (r3.0, r4.0, r4.1)

pub returns-clause-found : goal.returns-clause-found
returns-clause-found c =
    let puts = c.in_ok-puts.ensures.found in
    let takes = c.in_ok-takes.ensures.found in
    let log : Answers = record { puts = puts.0; takes = takes.0 } in (
      log,
      puts.1,
      takes.1,
      line_joins c.args.window c.args.buffer log c.args.text.now c.in_ok-behind_window.behind_window.now c.in_ok-behind_place.behind_place.now c.in_ok-puts.behind_puts.now c.in_ok-takes.rest.now
          c.in_ok-behind_window.ensures.found
          c.in_ok-behind_place.ensures.found
          (puts.2 ∙ ap (λ (t : List ℕ). codes "puts " ++ (t ++ 32 ∷ c.in_ok-puts.behind_puts.now)) puts.1)
          (takes.2 ∙ ap (λ (t : List ℕ). codes "takes " ++ (t ++ 10 ∷ c.in_ok-takes.rest.now)) takes.1),
    )
