use Rattle.std.proofs.Common.{ℕ, ◌≤◌, List, Bool, ◌++◌, length, slice_index, sym, ap, subst, ◌∙◌}
use Rattle.std.specs.Option.{is_some}
use Rattle.liq_base.specs.declared.limits.TheConstants.{MAX_NODES}
use Rattle.plan_core.specs.declared.node.Node.{Node}
use Rattle.plan_core.specs.Plans.{AreNodes}
use Rattle.clock_infer.specs.Ties.{IsGrouping}
use Rattle.fallible_infer.specs.Infallible.{mark_at}
use Rattle.plan_picture.specs.Pictures.{picture_with}
use Rattle.plan_picture.proofs.drawing.picture.Goals as goal

pub groups_of-requires-clause-nodes : goal.groups_of-requires-clause-nodes
groups_of-requires-clause-nodes c = let P : List Node → Type 0 = λ ns. AreNodes ns in subst P (sym c.as_slice.ensures) c.requires.nodes

pub groups_of-requires-clause-few : goal.groups_of-requires-clause-few
groups_of-requires-clause-few c = let P : List Node → Type 0 = λ ns. length ns ≤ MAX_NODES in subst P (sym c.as_slice.ensures) c.requires.few_nodes

pub returns : goal.returns
returns c =
    let groups : List ℕ = c.in_ok-groups.groups.items in
    let P : List Node → Type 0 = λ ns. IsGrouping ns (λ (k : ℕ). slice_index groups k) in
    let drawn : List ℕ → List Bool → List ℕ =
    (λ gs. picture_with c.args.plan.now (mark_at c.args.marks.now) c.args.refused c.args.clocks.now (λ (k : ℕ). slice_index gs k) (is_some c.args.refused)) in
    record {
      group = λ k. slice_index groups k;
      grouping = subst P c.as_slice.ensures c.in_ok-groups.ensures.groups;
      is = c.in_ok-push_picture.ensures
          ∙ ap (λ (t : List ℕ). t ++ drawn c.deref.result.now c.deref-2.result.now) c.new-text.ensures.items
          ∙ ap (λ (gs : List ℕ). drawn gs c.deref-2.result.now) c.deref.ensures.value
          ∙ ap (drawn groups) (c.deref-2.ensures.value ∙ c.in_ok-red.ensures);
    }
