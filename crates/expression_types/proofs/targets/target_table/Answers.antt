use Rattle.std.proofs.Common.{◌≡◌, ◌-◌, ℕ, arith, drop, map, subst}
use Rattle.typing_rules.specs.Scoping.{target_in}
use Rattle.name_scope.specs.Noted.{resolved}
use Rattle.expression_types.specs.Tables.{targets_of}
use Rattle.expression_types.proofs.Lookups.{same_targets, table_more}
use Rattle.expression_types.proofs.targets.target_table.Goals as goal

pub loop-left-preserved : goal.loop-left-preserved
loop-left-preserved c = (
  omega (arith, c.loop-left-test.true, c.loop-left.invariant.0),
  table_more c.args.names.now (c.loop-left.left - 1) c.loop-left.left c.name_at-name.result (targets_of c.loop-left.table) (targets_of c.put.new.self)
      (omega (arith, c.loop-left-test.true)) (omega (arith, c.loop-left-test.true, c.loop-left.invariant.0)) c.name_at-name.ensures.at c.loop-left.invariant.1 c.in_ok-put.ensures.put,
)

pub returns : goal.returns
returns c =
    let e : c.loop-left.left ≡ 0 = omega (arith, c.loop-left-test.false) in
    same_targets (targets_of c.loop-left.table) (target_in (map resolved c.args.names.now))
    (subst (λ n. (t : ℕ) → targets_of c.loop-left.table t ≡ target_in (map resolved (drop n c.args.names.now)) t) e c.loop-left.invariant.1)
