use Rattle.std.proofs.Common.{refl}
use Rattle.week_plan.specs.Tables.{is_told}
use Rattle.week_windows.proofs.Takings.{found}
use Rattle.week_windows.proofs.cases.left_spans.Goals as goal

pub returns : goal.returns
returns c =
    found (is_told c.args.table.now) (is_told c.args.table.now) c.in_ok-spans.spans.items c.one_list.ensures (λ at low. refl) c.in_ok-spans.ensures
