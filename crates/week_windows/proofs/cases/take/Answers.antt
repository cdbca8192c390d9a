use Rattle.std.proofs.Common.{◌∙◌, Bool, ◌&&◌, not, ap}
use Rattle.week_plan.specs.Tables.{is_told}
use Rattle.week_windows.proofs.Seconds.{same_week}
use Rattle.week_windows.proofs.Takings.{freed}
use Rattle.week_windows.proofs.cases.take.Goals as goal

pub returns-clause-spans : goal.returns-clause-spans
returns-clause-spans c =
    c.in_ok-spans.ensures
    ∙ same_week (is_told c.join.new.into) (λ at. is_told c.args.table.now at && is_told c.args.free.now at) (λ at low. c.join.ensures.same at low)

pub returns-clause-free : goal.returns-clause-free
returns-clause-free c = record {
  table = c.join-2.ensures.table;
  same = λ at low.
      c.join-2.ensures.same at low ∙ ap (λ (b : Bool). is_told c.args.free.now at && not b) (c.join.ensures.same at low)
      ∙ freed (is_told c.args.table.now at) (is_told c.args.free.now at);
}
