use Rattle.std.proofs.Common.{◌≡◌, ◌+◌, ◌<◌, ◌^◌, length, rules, subst, sym}
use Rattle.plan_core.specs.declared.plan.Plan.{Plan}
use Rattle.plan_core.specs.Plans.{IsWellFormed, with_output}
use Rattle.plan_core.proofs.Grown.{output_keeps}
use Rattle.plan_core.proofs.draft.Draft.push_output.Goals as goal

pub returns-clause-well_formed : goal.returns-clause-well_formed
returns-clause-well_formed c = λ w there.
    let room : length c.args.self.now.sinks + 1 < 2 ^ 32 = search rules in
    let after : Plan = record { rate = c.self.inside.plan.rate; frame = c.self.inside.plan.frame; nodes = c.self.inside.plan.nodes; sinks = c.push.new.self; buffers = c.self.inside.plan.buffers } in
    let grown : after ≡ with_output c.args.self.now c.args.name c.args.node c.args.fallible c.args.wide = search rules in
    subst (λ (plan : Plan). IsWellFormed plan) (sym grown) (output_keeps c.args.self.now w c.args.name c.args.node c.args.fallible c.args.wide room there)
