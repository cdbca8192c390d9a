use Rattle.std.proofs.Common.{◌≡◌, ◌+◌, ◌∙◌, ◌++◌, Some, map, take, length, arith, ap, subst}
use Rattle.std.proofs.lemmas.Option.{get_or_from_slice_get}
use Rattle.cell_ring.specs.Rings.{inner_cells}
use Rattle.op_cross.specs.Crossfade.{cross}
use Rattle.op_mix.specs.Stretches.{samples_of}
use Rattle.node_states.proofs.passing.pass_child.Goals as goal

pub returns-clause-least : goal.returns-clause-least
returns-clause-least c = λ child p m slots there stands few.
    let same : c.in-Some.child.now ≡ child = c.in-Some.ensures.lookup.1 ∙ get_or_from_slice_get c.args.children.now 0 child c.in-Some.child.now there in
    let lefts : c.samples_of.result.now ≡ samples_of c.args.before.now.left.now child (length c.args.left.now) =
    c.samples_of.ensures.is ∙ ap (λ n. samples_of c.args.before.now.left.now n (length c.args.left.now)) same in
    let rights : c.samples_of-2.result.now ≡ samples_of c.args.before.now.right.now child (length c.args.left.now) =
    c.samples_of-2.ensures.is ∙ ap (λ n. samples_of c.args.before.now.right.now n (length c.args.left.now)) same in
    subst (λ l. length (cross c.args.state.now.overlap (slots ++ map Some (take m (inner_cells c.args.title l (samples_of c.args.before.now.right.now child (length c.args.left.now)))))) ≡ p + m) lefts
    (subst (λ r. length (cross c.args.state.now.overlap (slots ++ map Some (take m (inner_cells c.args.title c.samples_of.result.now r)))) ≡ p + m) rights
    (c.pass.ensures.least slots p m stands (omega (arith, few, c.samples_of.ensures.long))))
