use Rattle.std.proofs.Common.{◌≡◌, ℕ, ◌<◌, ◌≤◌, List, [], ◌∷◌, ◌++◌, length, take, rules, subst, sym, ◌∙◌}
use Rattle.liq_base.specs.declared.limits.TheConstants.{MAX_NODES, MAX_CROSSFADES}
use Rattle.plan_core.specs.declared.node.Node.{Node}
use Rattle.plan_core.specs.declared.plan.Plan.{Plan}
use Rattle.plan_core.specs.Plans.{IsWellFormed, with_node, crossfades_from}
use Rattle.plan_core.proofs.Drafts.{Keeps, more_kept, back}
use Rattle.plan_core.proofs.Grown.{node_keeps}
use Rattle.plan_core.proofs.draft.Draft.push_node.Goals as goal

pub invariant_of-self-in-Ok : goal.invariant_of-self-in-Ok
invariant_of-self-in-Ok c =
    let kept : Keeps c.self.inside.crossfades c.self.inside.plan.nodes = c.self.invariant in
    let counts : c.push.new.self ≡ c.self.inside.crossfades ++ c.crossfades_from-count.result ∷ [] = search rules in
    let nodes : c.push_node.new.self.nodes ≡ c.self.inside.plan.nodes ++ c.args.node ∷ [] = search rules in
    let count : c.crossfades_from-count.result ≡ crossfades_from c.self.inside.plan.nodes c.args.node = search rules in
    let few : crossfades_from c.self.inside.plan.nodes c.args.node ≤ MAX_CROSSFADES = search rules in
    let more = more_kept c.self.inside.crossfades c.self.inside.plan.nodes c.crossfades_from-count.result c.args.node kept count few in
    subst (λ (ns : List Node). Keeps c.push.new.self ns) (sym nodes) (subst (λ (cs : List ℕ). Keeps cs (c.self.inside.plan.nodes ++ c.args.node ∷ [])) (sym counts) more)

pub invariant_of-self-in-Err : goal.invariant_of-self-in-Err
invariant_of-self-in-Err c =
    let kept : Keeps c.self.inside.crossfades c.self.inside.plan.nodes = c.self.invariant in
    let counts : c.truncate.new.self ≡ take c.len-nodes.result (c.self.inside.crossfades ++ c.crossfades_from-count.result ∷ []) = search rules in
    let nodes : c.push_node.new.self.nodes ≡ c.self.inside.plan.nodes = search rules in
    let long : c.len-nodes.result ≡ length c.self.inside.plan.nodes = search rules in
    let again : c.truncate.new.self ≡ c.self.inside.crossfades = counts ∙ back c.self.inside.crossfades c.self.inside.plan.nodes c.crossfades_from-count.result c.len-nodes.result kept long in
    subst (λ (ns : List Node). Keeps c.truncate.new.self ns) (sym nodes) (subst (λ (cs : List ℕ). Keeps cs c.self.inside.plan.nodes) (sym again) kept)

pub returns-in-Ok-clause-well_formed : goal.returns-in-Ok-clause-well_formed
returns-in-Ok-clause-well_formed c = λ w over none.
    let room : length c.args.self.now.nodes < MAX_NODES = search rules in
    let grown : c.push_node.new.self ≡ with_node c.args.self.now c.args.node = search rules in
    subst (λ (plan : Plan). IsWellFormed plan) (sym grown) (node_keeps c.args.self.now w c.args.node none room over)
