use Rattle.std.proofs.Common.{ap, refl}
use Rattle.script_grammar.specs.View.{view_def}
use Rattle.expression_types.specs.Tables.{targets_of}
use Rattle.type_infer.proofs.After.{def_more, def_no_more, env_is, held_then, holds_outside, seen_outside}
use Rattle.type_infer.proofs.statements.type_function.Goals as goal

pub catch_up-requires-clause-there : goal.catch_up-requires-clause-there
catch_up-requires-clause-there c = held_then (targets_of c.args.targets.now) c.args.typing.now c.requires.ready

pub catch_up-requires-clause-values : goal.catch_up-requires-clause-values
catch_up-requires-clause-values c = c.requires.ready.holds.there

pub type_def-requires-clause-seen : goal.type_def-requires-clause-seen
type_def-requires-clause-seen c = seen_outside (targets_of c.args.targets.now) c.args.typing.now c.outside-seen.result c.requires.ready
    (env_is c.outside-seen.result (targets_of c.args.targets.now) c.args.typing.now.before c.args.typing.now.defs (ap (λ x. targets_of x) c.outside-seen.ensures.targets) c.outside-seen.ensures.inner c.outside-seen.ensures.before c.outside-seen.ensures.defs)
    c.outside-seen.ensures.defs

pub type_def-requires-clause-held : goal.type_def-requires-clause-held
type_def-requires-clause-held c = holds_outside (targets_of c.args.targets.now) c.args.typing.now c.outside-seen.result c.catch_up.new.held c.requires.ready
    (env_is c.outside-seen.result (targets_of c.args.targets.now) c.args.typing.now.before c.args.typing.now.defs (ap (λ x. targets_of x) c.outside-seen.ensures.targets) c.outside-seen.ensures.inner c.outside-seen.ensures.before c.outside-seen.ensures.defs)
    c.in_ok-catch_up.ensures.held

pub returns-in-None : goal.returns-in-None
returns-in-None c = def_no_more (targets_of c.args.targets.now) (view_def c.args.def.now) c.args.typing.now c.outside-seen.result c.requires.ready
    (env_is c.outside-seen.result (targets_of c.args.targets.now) c.args.typing.now.before c.args.typing.now.defs (ap (λ x. targets_of x) c.outside-seen.ensures.targets) c.outside-seen.ensures.inner c.outside-seen.ensures.before c.outside-seen.ensures.defs)
    (rw c.in-None.is at c.in_ok-type_def.ensures.typed)

pub returns-in_ok-keep_def-in-Some : goal.returns-in_ok-keep_def-in-Some
returns-in_ok-keep_def-in-Some c =
    def_more (targets_of c.args.targets.now) c.args.def.now c.args.typing.now _ c.keep_def.new.typing c.outside-seen.result c.in-Some.typed c.requires.ready (record { before = refl; defs = refl; steps = refl }) c.in_ok-catch_up.ensures.pending
    (env_is c.outside-seen.result (targets_of c.args.targets.now) c.args.typing.now.before c.args.typing.now.defs (ap (λ x. targets_of x) c.outside-seen.ensures.targets) c.outside-seen.ensures.inner c.outside-seen.ensures.before c.outside-seen.ensures.defs)
    c.outside-seen.ensures.defs
    (rw c.in-Some.is at c.in_ok-type_def.ensures.typed) (rw c.in-Some.is at c.in_ok-type_def.ensures.numbered) (rw c.in-Some.is at c.in_ok-type_def.ensures.order) c.in_ok-keep_def-in-Some.ensures
