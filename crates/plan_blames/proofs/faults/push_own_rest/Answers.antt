use Rattle.std.proofs.Common.{◌≡◌, ℕ, List, ◌++◌, OnOk, slice_index, subst, ◌∙◌}
use Rattle.plan_blames.specs.Faults.{red_rest}
use Rattle.plan_blames.proofs.Children.{children_there, no_children}
use Rattle.plan_blames.proofs.faults.push_own_rest.Goals as goal

pub returns-in-Some : goal.returns-in-Some
returns-in-Some c =
    let P : List ℕ → Type 0 =
    λ these. OnOk c.push_red_rest.result (c.push_red_rest.new.into.items ≡ c.args.into.now.items ++ red_rest (λ (k : ℕ). slice_index c.args.groups.now k) these c.args.nodes.now) in
    subst P (c.as_slice.ensures ∙ children_there c.args.nodes.now c.args.node c.in-Some.crossfade.now c.in-Some.ensures.lookup.1 c.in-Some.ensures.lookup.3.0) c.push_red_rest.ensures

pub returns-in-None : goal.returns-in-None
returns-in-None c =
    let P : List ℕ → Type 0 =
    λ these. OnOk c.push_red_rest-in-None.result (c.push_red_rest-in-None.new.into.items ≡ c.args.into.now.items ++ red_rest (λ (k : ℕ). slice_index c.args.groups.now k) these c.args.nodes.now) in
    subst P (no_children c.args.nodes.now c.args.node c.in-None.ensures.lookup.3) c.push_red_rest-in-None.ensures
