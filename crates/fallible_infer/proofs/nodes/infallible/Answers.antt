use Rattle.std.proofs.Common.{◌≡◌, ◌+◌, ℕ, List, Bool, sym, ap, ◌∙◌, subst, arith, length, Some, slice_get, refl}
use Rattle.std.proofs.lemmas.Option.{slice_get_read}
use Rattle.plan_core.specs.declared.node.Node.{Node}
use Rattle.plan_core.specs.Plans.{AreNodes}
use Rattle.fallible_infer.specs.Infallible.{mark_at, infallible_by, IsMarking}
use Rattle.fallible_infer.proofs.Marking.{AreMarked, marked_none, marked_more, marked_all, number_at, children_within}
use Rattle.fallible_infer.proofs.nodes.infallible.Goals as goal

pub loop-node-init : goal.loop-node-init
loop-node-init c = let P : List Bool → Type 0 = λ xs. AreMarked c.as_slice-nodes.result.now xs 0 in subst P (sym c.in_ok-marks.ensures.items) (marked_none c.as_slice-nodes.result.now)

pub follows-mark-requires-clause-number : goal.follows-mark-requires-clause-number
follows-mark-requires-clause-number c =
    let nodes : List Node = c.as_slice-nodes.result.now in
    let node : Node = c.node-item.result in
    let Q : List Node → Type 0 = λ ns. AreNodes ns in
    number_at nodes c.loop-node.node-index node (subst Q (sym c.as_slice-nodes.ensures) c.requires.nodes)
    (slice_get_read nodes (length nodes) c.loop-node.node-index node refl c.loop-node-test.true c.node-item.is)

pub follows-mark-requires-clause-children : goal.follows-mark-requires-clause-children
follows-mark-requires-clause-children c =
    let nodes : List Node = c.as_slice-nodes.result.now in
    let node : Node = c.node-item.result in
    let Q : List Node → Type 0 = λ ns. AreNodes ns in
    let size : length c.deref.result.now ≡ c.loop-node.node-index = ap length c.deref.ensures.value ∙ c.loop-node.invariant.size in
    children_within nodes c.loop-node.node-index (length c.deref.result.now) node (subst Q (sym c.as_slice-nodes.ensures) c.requires.nodes)
    (slice_get_read nodes (length nodes) c.loop-node.node-index node refl c.loop-node-test.true c.node-item.is) size

pub loop-node-preserved : goal.loop-node-preserved
loop-node-preserved c =
    let nodes : List Node = c.as_slice-nodes.result.now in
    let node : Node = c.node-item.result in
    let k : ℕ = c.loop-node.node-index in
    let there : slice_get nodes k ≡ Some node = slice_get_read nodes (length nodes) k node refl c.loop-node-test.true c.node-item.is in
    let Q : List Node → Type 0 = λ ns. AreNodes ns in
    let P : List Bool → Type 0 = λ xs. AreMarked nodes xs (k + 1) in
    subst P (sym c.in_ok-push.ensures.items)
    (marked_more nodes c.loop-node.marks.items k node c.follows-mark.result (subst Q (sym c.as_slice-nodes.ensures) c.requires.nodes) c.loop-node.invariant there
    (c.follows-mark.ensures ∙ ap (λ (xs : List Bool). infallible_by (mark_at xs) node.op node.children) c.deref.ensures.value))

pub returns-clause-exact : goal.returns-clause-exact
returns-clause-exact c =
    let Q : List Node → Type 0 = λ ns. IsMarking ns (mark_at c.loop-node.marks.items) in
    subst Q c.as_slice-nodes.ensures (marked_all c.as_slice-nodes.result.now c.loop-node.marks.items c.loop-node.node-index c.loop-node-test.false c.loop-node.invariant)

pub returns-clause-size : goal.returns-clause-size
returns-clause-size c =
    let all : length c.as_slice-nodes.result.now ≡ length c.args.plan.now.nodes = ap length c.as_slice-nodes.ensures in
    omega (arith, c.loop-node.invariant.size, c.loop-node.auto.node-index-end)
