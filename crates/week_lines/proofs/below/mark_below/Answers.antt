use Rattle.std.proofs.Common.{◌≡◌, ◌+◌, ◌-◌, ◌∙◌, ℕ, Some, length, sym, subst, refl, arith}
use Rattle.std.specs.Prelude.{slice_get}
use Rattle.std.proofs.lemmas.Option.{slice_get_read}
use Rattle.week_lines.proofs.Marking.{AreMarked, complete, marked_all, marked_none}
use Rattle.week_lines.proofs.below.mark_below.Goals as goal

pub loop-k-preserved-then-not-is_over : goal.loop-k-preserved-then-not-is_over
loop-k-preserved-then-not-is_over c =
    let nodes = c.args.nodes.now in
    let n = length (nodes) - 1 - c.loop-k.k in
    let here : slice_get nodes n ≡ Some c.index-nodes-n.result = slice_get_read nodes (length nodes) n c.index-nodes-n.result refl (omega (arith, c.loop-k-test.true)) c.index-nodes-n.is in
    let from : length nodes - c.loop-k.k ≡ n + 1 = omega (arith, c.loop-k-test.true) in
    let next : n ≡ length nodes - (c.loop-k.k + 1) = omega (arith, c.loop-k-test.true) in
    subst (λ (at : ℕ). AreMarked nodes c.loop-k.below at) next
    (marked_none nodes c.loop-k.below n (length nodes - c.loop-k.k) c.index-nodes-n.result from here c.loop-k.invariant (sym c.is_over.ensures ∙ c.if-not-is_over.true))

pub loop-k-preserved : goal.loop-k-preserved
loop-k-preserved c =
    let nodes = c.args.nodes.now in
    let n = length (nodes) - 1 - c.loop-k.k in
    let here : slice_get nodes n ≡ Some c.index-nodes-n.result = slice_get_read nodes (length nodes) n c.index-nodes-n.result refl (omega (arith, c.loop-k-test.true)) c.index-nodes-n.is in
    let from : length nodes - c.loop-k.k ≡ n + 1 = omega (arith, c.loop-k-test.true) in
    let next : n ≡ length nodes - (c.loop-k.k + 1) = omega (arith, c.loop-k-test.true) in
    subst (λ (at : ℕ). AreMarked nodes c.mark_all.new.below at) next
    (marked_all nodes c.loop-k.below c.mark_all.new.below n (length nodes - c.loop-k.k) c.index-nodes-n.result c.requires.nodes from here c.loop-k.invariant
    (sym c.is_over.ensures ∙ c.if-not-is_over.false) c.mark_all.ensures.size
    (rw c.as_slice.ensures at c.mark_all.ensures.marked))

pub returns : goal.returns
returns c =
    let none : length (c.args.nodes.now) - c.loop-k.k ≡ 0 = omega (arith, c.loop-k-test.false) in
    let all : AreMarked c.args.nodes.now c.loop-k.below 0 = subst (λ (at : ℕ). AreMarked c.args.nodes.now c.loop-k.below at) none c.loop-k.invariant in
    λ number. (all.sound number, complete c.args.nodes.now c.loop-k.below all number)
