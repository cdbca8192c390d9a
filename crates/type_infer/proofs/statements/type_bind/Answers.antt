use Rattle.std.proofs.Common.{ap, refl}
use Rattle.expression_types.specs.Tables.{targets_of}
use Rattle.type_infer.proofs.After.{env_is, seen_outside, value_more, value_no_more}
use Rattle.type_infer.proofs.statements.type_bind.Goals as goal

pub value_type-requires : goal.value_type-requires
value_type-requires c = record {
  seen = seen_outside (targets_of c.args.targets.now) c.args.typing.now c.outside-seen.result c.requires.ready
      (env_is c.outside-seen.result (targets_of c.args.targets.now) c.args.typing.now.before c.args.typing.now.defs (ap (λ x. targets_of x) c.outside-seen.ensures.targets) c.outside-seen.ensures.inner c.outside-seen.ensures.before c.outside-seen.ensures.defs)
      c.outside-seen.ensures.defs;
}

pub returns-in-None : goal.returns-in-None
returns-in-None c = value_no_more (targets_of c.args.targets.now) c.args.bind.now c.args.typing.now c.outside-seen.result c.requires.ready
    (env_is c.outside-seen.result (targets_of c.args.targets.now) c.args.typing.now.before c.args.typing.now.defs (ap (λ x. targets_of x) c.outside-seen.ensures.targets) c.outside-seen.ensures.inner c.outside-seen.ensures.before c.outside-seen.ensures.defs)
    (rw c.in-None.is at c.in_ok-value_type.ensures)

pub returns-in_ok-keep_value-in-Some : goal.returns-in_ok-keep_value-in-Some
returns-in_ok-keep_value-in-Some c =
    value_more (targets_of c.args.targets.now) c.args.bind.now c.args.typing.now _ c.keep_value.new.typing c.outside-seen.result c.in-Some.typed c.requires.ready (record { before = refl; defs = refl; steps = refl }) refl refl
    (env_is c.outside-seen.result (targets_of c.args.targets.now) c.args.typing.now.before c.args.typing.now.defs (ap (λ x. targets_of x) c.outside-seen.ensures.targets) c.outside-seen.ensures.inner c.outside-seen.ensures.before c.outside-seen.ensures.defs)
    c.outside-seen.ensures.defs
    (rw c.in-Some.is at c.in_ok-value_type.ensures) c.in_ok-keep_value-in-Some.ensures
