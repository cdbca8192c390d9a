use Rattle.std.proofs.Common.{◌≤◌, length}
use Rattle.where_lines.proofs.Faults.{no_plan}
use Rattle.where_lines.proofs.sources.read_source.Goals as goal

pub returns-in-Err-clause-none : goal.returns-in-Err-clause-none
returns-in-Err-clause-none c =
    no_plan (λ plan. length plan.nodes ≤ c.args.source) c.args.text.now c.in-Err.fault c.nowhere.result (c.one_answer.ensures.apart c.args.text.now) c.in-Err.ensures.fault c.nowhere.ensures.fault
