use Rattle.expression_types.specs.Seen.{founds}
use Rattle.expression_types.proofs.Seeing.{seen_later}
use Rattle.type_infer.proofs.Answered.{parts_body_none, parts_infer, parts_params_none, vars_typed}
use Rattle.type_infer.proofs.parts.type_parts.Goals as goal

pub type_body-requires-clause-seen : goal.type_body-requires-clause-seen
type_body-requires-clause-seen c =
    let f = rw c.in-Some.is at c.in_ok-type_params.ensures.typed in
    seen_later c.args.subst.now c.type_params.new.subst c.args.seen c.args.uses.now.items c.type_params.new.uses.items c.requires.seen f.typed.follows f.typed.uses

pub type_body-requires-clause-over : goal.type_body-requires-clause-over
type_body-requires-clause-over c =
    let f = rw c.in-Some.is at c.in_ok-type_params.ensures.typed in
    vars_typed c.type_params.new.subst c.in-Some.typed.items f.typed.inside

pub returns-in-None-clause-typed : goal.returns-in-None-clause-typed
returns-in-None-clause-typed c =
    parts_params_none c.args.subst.now c.args.subst.now c.args.seen c.args.def.now c.args.uses.now.items c.requires.seen c.requires.outside c.requires.first (rw (c.in-None.is, c.deref.ensures.value) at c.in_ok-type_params.ensures.typed)

pub returns-in-None-2-clause-typed : goal.returns-in-None-2-clause-typed
returns-in-None-2-clause-typed c =
    parts_body_none c.args.subst.now c.type_params.new.subst c.args.seen c.args.def.now c.args.uses.now.items c.requires.seen c.requires.outside c.requires.first c.in-Some.typed.items (founds c.type_params.new.uses.items) (rw (c.in-Some.is, c.deref.ensures.value) at c.in_ok-type_params.ensures.typed) (rw c.in-None-2.is at c.in_ok-type_body-in-Some.ensures.typed)

pub returns-in-Some-2-clause-typed : goal.returns-in-Some-2-clause-typed
returns-in-Some-2-clause-typed c =
    parts_infer c.args.subst.now c.type_params.new.subst c.args.seen c.args.def.now c.args.uses.now.items c.requires.seen c.requires.outside c.requires.first c.in-Some.typed.items (founds c.type_params.new.uses.items) (rw (c.in-Some.is, c.deref.ensures.value) at c.in_ok-type_params.ensures.typed)
    c.type_body.new.subst c.in-Some-2.result (founds c.type_body.new.uses.items) c.in_ok-params-in-Some.params.items (rw c.deref-in-Some.ensures.value at c.in_ok-params-in-Some.ensures) (rw c.in-Some-2.is at c.in_ok-type_body-in-Some.ensures.typed)
