use Rattle.std.proofs.Common.{ap}
use Rattle.script_grammar.specs.View.{view_def}
use Rattle.expression_types.specs.Seen.{env_of, founds}
use Rattle.expression_types.specs.Order.{tokens_used}
use Rattle.type_infer.proofs.Typings.{is_numbered, is_said, is_typed, no_typing}
use Rattle.type_infer.proofs.defs.type_def_with.Goals as goal

pub returns-in-None-clause-typed : goal.returns-in-None-clause-typed
returns-in-None-clause-typed c = no_typing c.args.subst.now (env_of c.args.seen).targets (env_of c.args.seen).before c.args.def.now (rw c.in-None.is at c.in_ok-type_parts.ensures.typed)

pub returns-in_ok-spend-in-Some-clause-typed : goal.returns-in_ok-spend-in-Some-clause-typed
returns-in_ok-spend-in-Some-clause-typed c =
    rw c.spend.ensures.same (is_typed c.args.subst.now c.type_parts.new.subst (env_of c.args.seen).targets (env_of c.args.seen).before c.args.def.now c.in-Some.parts (founds c.type_parts.new.uses.items) c.args.held.now c.general_def.new.held c.in_ok-typed-in-Some.typed c.requires.seen.over.before c.requires.held
    (rw c.in-Some.is at c.in_ok-type_parts.ensures.typed) (rw c.deref.ensures.value at c.in_ok-typed-in-Some.ensures.general))

pub returns-in_ok-spend-in-Some-clause-order : goal.returns-in_ok-spend-in-Some-clause-order
returns-in_ok-spend-in-Some-clause-order c =
    is_said c.args.subst.now c.type_parts.new.subst (env_of c.args.seen).targets (env_of c.args.seen).before c.args.seen c.args.def.now c.in-Some.parts (founds c.type_parts.new.uses.items) c.args.held.now c.general_def.new.held c.in_ok-typed-in-Some.typed (tokens_used (view_def c.args.def.now)) (founds c.args.uses.now.items) (ap founds c.requires.first) c.requires.held
    (rw c.in-Some.is at c.in_ok-type_parts.ensures.typed) (rw c.deref.ensures.value at c.in_ok-typed-in-Some.ensures.general) (rw c.in-Some.is at c.in_ok-type_parts.ensures.order)

pub returns-in_ok-spend-in-Some-clause-numbered : goal.returns-in_ok-spend-in-Some-clause-numbered
returns-in_ok-spend-in-Some-clause-numbered c =
    rw c.spend.ensures.same (is_numbered c.args.subst.now c.type_parts.new.subst (env_of c.args.seen).targets (env_of c.args.seen).before c.args.def.now c.in-Some.parts (founds c.type_parts.new.uses.items) c.args.held.now c.general_def.new.held c.in_ok-typed-in-Some.typed c.requires.held
    (rw c.in-Some.is at c.in_ok-type_parts.ensures.typed) (rw c.deref.ensures.value at c.in_ok-typed-in-Some.ensures.general))
