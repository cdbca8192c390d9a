use Rattle.std.proofs.Common.{map}
use Rattle.script_grammar.specs.View.{listed, view_expr, view_inner}
use Rattle.expression_types.specs.Seen.{env_of, founds, types_seen}
use Rattle.expression_types.proofs.Seeing.{seen_later}
use Rattle.type_infer.proofs.Answered.{body_answered, outside_over}
use Rattle.type_infer.proofs.Whole.{body_inners_none}
use Rattle.type_infer.proofs.parts.type_body.Goals as goal

pub type_result-requires-clause-seen : goal.type_result-requires-clause-seen
type_result-requires-clause-seen c =
    let f = rw c.if-not-typed.false at c.in_ok-typed.ensures.typed in
    seen_later c.args.subst.now c.type_inners.new.subst c.args.seen c.args.uses.now.items c.type_inners.new.uses.items c.requires.seen f.follows f.uses

pub returns-then-not-typed-clause-typed : goal.returns-then-not-typed-clause-typed
returns-then-not-typed-clause-typed c =
    body_inners_none c.args.subst.now (env_of c.args.seen).targets (env_of c.args.seen).before (listed (map view_inner c.args.def.now.inner.items)) (view_expr c.args.def.now.result) (types_seen c.args.params.items) (founds c.args.uses.now.items) (rw (c.if-not-typed.true, c.deref.ensures.value) at c.in_ok-typed.ensures.typed)

pub returns-clause-typed : goal.returns-clause-typed
returns-clause-typed c =
    body_answered c.args.subst.now c.type_inners.new.subst c.type_result.new.subst (env_of c.args.seen).targets (env_of c.args.seen).before (listed (map view_inner c.args.def.now.inner.items)) (view_expr c.args.def.now.result) (types_seen c.args.params.items) (types_seen c.type_inners.new.bindings.items) (founds c.args.uses.now.items) (founds c.type_inners.new.uses.items) (founds c.type_result.new.uses.items)
    (outside_over c.args.subst.now c.args.seen c.requires.seen.over) (rw (c.if-not-typed.false, c.deref.ensures.value) at c.in_ok-typed.ensures.typed) c.type_result.result (rw c.as_slice.ensures.value at c.type_result.ensures.typed)
