use Rattle.std.proofs.Common.{◌-◌, ℕ, List, ◌++◌, codes, decimal, sym, ap, ◌∙◌, append_assoc, arith}
use Rattle.clock_infer.specs.declared.clock_map.NodeClock.{NodeClock}
use Rattle.plan_picture.specs.Regions.{clock_of, opening}
use Rattle.plan_picture.proofs.Opened.{open_more}
use Rattle.plan_picture.proofs.regions.+push_opening.Goals as goal

pub returns-in_ok-push_between-in-Sub : goal.returns-in_ok-push_between-in-Sub
returns-in_ok-push_between-in-Sub t c =
    let of : List NodeClock = c.args.of.now in
    let into : List ℕ = c.args.into.now.items in
    let k : ℕ = c.in-Sub.k in
    let less : ℕ = c.args.levels - 1 in
    let here : List ℕ = codes "subgraph cluster_sub" ++ decimal k ++ codes " { " in
    c.in_ok-push_between-in-Sub.ensures
    ∙ ap (λ (t : List ℕ). t ++ here) c.in_ok-push_opening-in-Sub.ensures
    ∙ ap (λ (clock : NodeClock). (into ++ opening of less clock) ++ here) c.clock_of.ensures
    ∙ append_assoc into (opening of less (clock_of of k)) here
    ∙ ap (λ (t : List ℕ). into ++ t) (sym (open_more of c.args.levels less k (omega arith)))
    ∙ ap (λ (clock : NodeClock). into ++ opening of c.args.levels clock) (sym c.in-Sub.is)
