use Rattle.std.proofs.Common.{◌≡◌, ◌++◌, ◌∙◌, ℕ, length, ap, arith}
use Rattle.std.proofs.lemmas.List.{with_items_is}
use Rattle.week_plan.specs.Tables.{IsTableOf, how_many, is_told}
use Rattle.week_lines.specs.Lines.{sum_line}
use Rattle.week_lines.specs.Weeks.{some_silent}
use Rattle.week_lines.proofs.Counting.{counted}
use Rattle.week_lines.proofs.push_plan.Goals as goal

pub returns : goal.returns
returns c =
    let silent = some_silent c.args.plan.now (length c.args.plan.now.nodes) in
    let same : c.deref.result.now ≡ c.push_lines.new.silent =
    c.deref.ensures.value ∙ with_items_is c.in_ok-silent.silent c.push_lines.new.silent (omega (arith, c.push_lines.auto.silent, c.deref_mut.ensures.len)) in
    let table : IsTableOf silent c.deref.result.now = rw same c.in_ok-push_lines.ensures.silent in
    let seconds : c.seconds_told.result ≡ how_many silent 604800 = c.seconds_told.ensures ∙ counted (is_told c.deref.result.now) silent 604800 table.same in
    record {
      lines = c.push_lines.new.into.items;
      of_sources = c.in_ok-push_lines.ensures.lines;
      told = c.in_ok-push_sum.ensures ∙ ap (λ (n : ℕ). c.push_lines.new.into.items ++ sum_line n) (c.from.ensures ∙ seconds);
    }
