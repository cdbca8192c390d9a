use Rattle.std.proofs.Common.{◌≡◌, ◌+◌, ◌<◌, ◌^◌, length, rules, subst, sym}
use Rattle.liq_base.specs.declared.limits.TheConstants.{MAX_NODES}
use Rattle.liq_base.specs.declared.memory.Kind.{Kind}
use Rattle.plan_core.specs.declared.plan.Plan.{Plan}
use Rattle.plan_core.specs.Plans.{IsWellFormed, with_buffer}
use Rattle.plan_core.proofs.Grown.{buffer_keeps}
use Rattle.plan_core.proofs.draft.Draft.push_buffer.Goals as goal

pub returns-in-Ok-clause-well_formed : goal.returns-in-Ok-clause-well_formed
returns-in-Ok-clause-well_formed c = λ from w is stands of_kind.
    let room : length c.args.self.now.nodes < MAX_NODES = search rules in
    let room_of_sinks : length c.args.self.now.sinks + 1 < 2 ^ 32 = search rules in
    let grown : c.push_node.new.self ≡ with_buffer c.args.self.now c.args.source c.args.kind c.args.buffer = search rules in
    let P : Kind → Type 0 = λ kind. IsWellFormed (with_buffer c.args.self.now c.args.source kind c.args.buffer) in
    subst (λ (plan : Plan). IsWellFormed plan) (sym grown) (subst P (sym of_kind) (buffer_keeps c.args.self.now w c.args.source from stands c.args.buffer room room_of_sinks is))
