use Rattle.expression_types.specs.Seen.{founds}
use Rattle.expression_types.proofs.Seeing.{seen_later}
use Rattle.type_infer.proofs.Answered.{outside_over}
use Rattle.type_infer.proofs.Loops.{inners_so_next, inners_so_stop}
use Rattle.type_infer.proofs.parts.type_inners.Goals as goal

pub type_behind-requires-clause-seen : goal.type_behind-requires-clause-seen
type_behind-requires-clause-seen c =
    let f = c.loop-inner.invariant.typed in
    seen_later c.args.subst.now c.loop-inner.subst c.args.seen c.args.uses.now.items c.loop-inner.uses.items c.requires.seen f.follows f.uses

pub returns-in-None-clause-typed : goal.returns-in-None-clause-typed
returns-in-None-clause-typed c =
    inners_so_stop c.args.inners.now c.loop-inner.inner-index c.inner-item.result c.loop-inner-test.true c.inner-item.is c.args.subst.now c.loop-inner.subst c.args.seen c.args.bindings.now.items c.loop-inner.bindings.items (founds c.args.uses.now.items) (founds c.loop-inner.uses.items)
    (outside_over c.args.subst.now c.args.seen c.requires.seen.over) c.loop-inner.invariant (rw (c.in-None.is, c.as_slice.ensures.value) at c.in_ok-type_behind.ensures.typed)

pub loop-inner-preserved : goal.loop-inner-preserved
loop-inner-preserved c =
    inners_so_next c.args.inners.now c.loop-inner.inner-index c.inner-item.result c.loop-inner-test.true c.inner-item.is c.args.subst.now c.loop-inner.subst c.type_behind.new.subst c.args.seen c.args.bindings.now.items c.loop-inner.bindings.items c.push.new.self.items c.in-Some.var
    (founds c.args.uses.now.items) (founds c.loop-inner.uses.items) (founds c.type_behind.new.uses.items) (outside_over c.args.subst.now c.args.seen c.requires.seen.over) c.in_ok-push-in-Some.ensures.items c.loop-inner.invariant
    (rw (c.in-Some.is, c.as_slice.ensures.value) at c.in_ok-type_behind.ensures.typed) (rw c.in-Some.is at c.in_ok-type_behind.ensures.order)
