use Rattle.std.proofs.Common.{ap, refl}
use Rattle.script_grammar.specs.View.{view_call}
use Rattle.expression_types.specs.Tables.{targets_of}
use Rattle.type_infer.proofs.After.{env_is, call_more, call_no_more, seen_outside}
use Rattle.type_infer.proofs.statements.type_run.Goals as goal

pub run_type-requires : goal.run_type-requires
run_type-requires c = record {
  seen = seen_outside (targets_of c.args.targets.now) c.args.typing.now c.outside-seen.result c.requires.ready
      (env_is c.outside-seen.result (targets_of c.args.targets.now) c.args.typing.now.before c.args.typing.now.defs (ap (λ x. targets_of x) c.outside-seen.ensures.targets) c.outside-seen.ensures.inner c.outside-seen.ensures.before c.outside-seen.ensures.defs)
      c.outside-seen.ensures.defs;
}

pub returns-in-None : goal.returns-in-None
returns-in-None c = call_no_more (targets_of c.args.targets.now) (view_call c.args.call.now) c.args.typing.now c.outside-seen.result c.requires.ready
    (env_is c.outside-seen.result (targets_of c.args.targets.now) c.args.typing.now.before c.args.typing.now.defs (ap (λ x. targets_of x) c.outside-seen.ensures.targets) c.outside-seen.ensures.inner c.outside-seen.ensures.before c.outside-seen.ensures.defs)
    (rw c.in-None.is at c.in_ok-run_type.ensures)

pub returns-in_ok-keep_run-in-Some : goal.returns-in_ok-keep_run-in-Some
returns-in_ok-keep_run-in-Some c =
    call_more (targets_of c.args.targets.now) (view_call c.args.call.now) c.args.typing.now _ c.keep_run.new.typing c.outside-seen.result c.in-Some.typed c.requires.ready (record { before = refl; defs = refl; steps = refl }) refl refl
    (env_is c.outside-seen.result (targets_of c.args.targets.now) c.args.typing.now.before c.args.typing.now.defs (ap (λ x. targets_of x) c.outside-seen.ensures.targets) c.outside-seen.ensures.inner c.outside-seen.ensures.before c.outside-seen.ensures.defs)
    c.outside-seen.ensures.defs
    (rw c.in-Some.is at c.in_ok-run_type.ensures) c.in_ok-keep_run-in-Some.ensures
