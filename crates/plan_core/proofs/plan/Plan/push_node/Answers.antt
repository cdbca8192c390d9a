use Rattle.std.proofs.Common.{List, sym, subst, arith}
use Rattle.plan_core.specs.declared.node.Node.{Node}
use Rattle.plan_core.specs.Plans.{AreNodes, IsWellFormed}
use Rattle.plan_core.proofs.Grown.{node_keeps}
use Rattle.plan_core.proofs.Paths.{more_nodes}
use Rattle.plan_core.proofs.plan.Plan.push_node.Goals as goal

pub returns-clause-kept : goal.returns-clause-kept
returns-clause-kept c = λ are over. subst (λ (nodes : List Node). AreNodes nodes) (sym c.in_ok-push.ensures.added) (more_nodes c.args.self.now.nodes c.args.node are over)

pub returns-clause-well_formed : goal.returns-clause-well_formed
returns-clause-well_formed c = λ w over none. subst (λ (nodes : List Node). IsWellFormed (record c.args.self.now { nodes = nodes })) (sym c.in_ok-push.ensures.added) (node_keeps c.args.self.now w c.args.node none (omega (arith, c.if-number.false)) over)
