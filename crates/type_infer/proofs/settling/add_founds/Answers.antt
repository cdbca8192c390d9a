use Rattle.std.proofs.Common.{◌≡◌, ◌∙◌, ◌∷◌, ◌++◌, subst, sym}
use Rattle.std.specs.Vec.Iter.{into_iter_items}
use Rattle.expression_types.specs.Seen.{founds}
use Rattle.type_steps.specs.Environment.{AreKindsOver, AreUsesOver}
use Rattle.type_infer.specs.Settling.{AddsFounds, AreSettledKinds}
use Rattle.type_infer.proofs.Overs.{use_over_next}
use Rattle.type_infer.proofs.Settled.{founds_more}
use Rattle.type_infer.proofs.Taken.{all_taken, next_taken}
use Rattle.type_infer.proofs.settling.add_founds.Goals as goal

pub settled_kinds-requires : goal.settled_kinds-requires
settled_kinds-requires c =
    let at = c.loop-one in
    let all : c.args.found.items ≡ at.yielded ++ c.in-Some.one ∷ into_iter_items c.next.new.self = next_taken c.args.found.items at.yielded c.in-Some.one _ _ c.next.new.self c.into_iter-one-iterator.ensures.into_iter_gives.0 at.yielded_by c.in-Some.ensures.steps.0 in
    let over = subst (λ l. AreUsesOver c.args.subst.now (founds l)) all c.requires.over in
    record {
      over = subst (AreKindsOver c.args.subst.now) (sym c.deref.ensures.value) (use_over_next c.args.subst.now at.yielded c.in-Some.one (into_iter_items c.next.new.self) over);
    }

pub loop-one-preserved : goal.loop-one-preserved
loop-one-preserved c =
    let kinds = subst (λ l. AreSettledKinds c.args.subst.now l c.in_ok-kinds.kinds) c.deref.ensures.value c.in_ok-kinds.ensures in
    founds_more c.args.subst.now c.loop-one.yielded c.in-Some.one c.in_ok-kinds.kinds c.args.uses.now.items c.loop-one.uses.items c.push.new.self.items c.loop-one.invariant kinds c.in_ok-push.ensures.items

pub returns : goal.returns
returns c =
    let all = all_taken c.args.found.items c.loop-one.yielded _ c.loop-one.one-iterator c.next.new.self c.into_iter-one-iterator.ensures.into_iter_gives.0 (c.into_iter-one-iterator.ensures.into_iter_gives.1 ∙ c.args.found.ok.0) c.loop-one.yielded_by c.in-None.ensures.steps in
    subst (λ l. AddsFounds c.args.subst.now (founds l) c.args.uses.now.items c.loop-one.uses.items) all c.loop-one.invariant
