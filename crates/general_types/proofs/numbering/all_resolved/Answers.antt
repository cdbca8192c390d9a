use Rattle.std.proofs.Common.{sym, subst}
use Rattle.type_terms.specs.Table.{IsOver}
use Rattle.type_terms.specs.Term.{term_of}
use Rattle.type_terms.proofs.Parts.{InTerms-at}
use Rattle.general_types.proofs.Steps.{settled_next, settled_all}
use Rattle.general_types.proofs.numbering.all_resolved.Goals as goal

pub resolved-requires : goal.resolved-requires
resolved-requires c = subst (λ q. IsOver c.args.subst.now (term_of q)) (sym c.ty-item.is) (InTerms-at _ _ c.args.tys.now c.loop-ty.ty-index _ c.loop-ty-test.true c.requires.over)

pub loop-ty-preserved : goal.loop-ty-preserved
loop-ty-preserved c = settled_next c.args.subst.now c.args.tys.now c.loop-ty.settled.items _ c.loop-ty.ty-index _ _ c.loop-ty-test.true c.ty-item.is c.in_ok-push.ensures.items c.loop-ty.invariant c.in_ok-next.ensures.unbound c.in_ok-next.ensures.same

pub returns : goal.returns
returns c = settled_all c.args.subst.now c.args.tys.now _ c.loop-ty.ty-index c.loop-ty-test.false c.loop-ty.invariant
