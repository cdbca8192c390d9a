use Rattle.std.proofs.Common.{◌≡◌, ℕ, ◌-◌, ◌+◌, List, Bool, drop, ap, ◌∙◌, arith}
use Rattle.std.proofs.lemmas.List.{length-set}
use Rattle.fallible_infer.specs.Infallible.{mark_at}
use Rattle.plan_core.specs.declared.node.Node.{Node}
use Rattle.plan_blames.specs.Blames.{is_to_blame}
use Rattle.plan_blames.proofs.Blaming.{one_more_red}
use Rattle.plan_blames.proofs.red_nodes.reds.Goals as goal

pub loop-k-preserved : goal.loop-k-preserved
loop-k-preserved c =
    let nodes : List Node = c.args.nodes.now in
    let reds : List Bool = c.loop-k.reds.items in
    let k : ℕ = c.loop-k.k - 1 in
    let here : c.loop-k.k ≡ k + 1 = omega arith in (
      omega arith,
      length-set reds k c.is_to_blame-red.result ∙ c.loop-k.invariant.1,
      one_more_red (mark_at c.args.marks.now) c.args.refused nodes reds c.loop-k.k k c.is_to_blame-red.result here (omega arith) c.loop-k.invariant.1 c.loop-k.invariant.2
          (c.is_to_blame-red.ensures ∙ ap (λ (rs : List Bool). is_to_blame (mark_at c.args.marks.now) c.args.refused k (drop (k + 1) nodes) (drop (k + 1) rs)) c.deref.ensures.value),
    )
