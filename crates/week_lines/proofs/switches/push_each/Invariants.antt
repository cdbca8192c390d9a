use Rattle.std.specs.Prelude.{All}
use Rattle.fallible_infer.specs.Infallible.{mark_at}
use Rattle.week_plan.specs.Looked.{IsLooked}
use Rattle.week_plan.specs.Tables.{IsTableOf}
use Rattle.week_lines.specs.Weeks.{some_silent}
use Rattle.week_lines.proofs.Telling.{LinesTo}
use Rattle.week_lines.proofs.switches.push_each.Given as goal

abbrev pub invariant-loop-number : goal.invariant-loop-number
invariant-loop-number l = record {
  lines : LinesTo l.plan (mark_at l.marks) l.number l.into.items;
  silent : IsTableOf (some_silent l.plan l.number) l.silent;
  kept : All IsLooked l.kept.items;
}
