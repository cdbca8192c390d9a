use Rattle.std.proofs.Common.{ℕ, List, Bool, ◌++◌, slice_index, take, sym, ap, ◌∙◌, append_assoc}
use Rattle.plan_core.specs.declared.node.Node.{Node}
use Rattle.plan_blames.specs.Faults.{red_member, shares}
use Rattle.plan_blames.specs.Texts.{numbered}
use Rattle.plan_blames.proofs.Numbering.{more}
use Rattle.plan_blames.proofs.faults.push_red_members.Goals as goal

pub loop-k-preserved : goal.loop-k-preserved
loop-k-preserved c =
    let text : ℕ → Node → List ℕ = (λ k node. red_member (shares (λ (source : ℕ). slice_index c.args.groups.now source) c.args.these.now k) k) in
    let xs : List Node = c.args.nodes.now in
    let i : ℕ = c.loop-k.k in
    c.in_ok-push_red_member.ensures
    ∙ ap (λ (b : Bool). c.loop-k.into.items ++ red_member b i) c.shares.ensures
    ∙ ap (λ (t : List ℕ). t ++ text i c.index-nodes-k.result) c.loop-k.invariant
    ∙ append_assoc c.args.into.now.items (numbered text 0 (take i xs)) (text i c.index-nodes-k.result)
    ∙ ap (λ (t : List ℕ). c.args.into.now.items ++ t) (sym (more text xs i c.index-nodes-k.result c.loop-k-test.true c.index-nodes-k.is))
