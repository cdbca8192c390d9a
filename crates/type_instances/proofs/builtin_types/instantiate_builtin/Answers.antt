use Rattle.type_instances.proofs.Builtins.{row_counted, row_instantiates}
use Rattle.type_instances.proofs.NewTypes.{grows_both}
use Rattle.type_instances.proofs.builtin_types.instantiate_builtin.Goals as goal

pub returns-in_err-kind-clause-grows : goal.returns-in_err-kind-clause-grows
returns-in_err-kind-clause-grows c = grows_both c.args.subst.now c.new_row_type.new.subst _ c.new_row_type.ensures.grows c.new_row_kind.ensures.grows

pub returns-in_err-call-clause-grows : goal.returns-in_err-call-clause-grows
returns-in_err-call-clause-grows c = grows_both c.args.subst.now c.new_row_type.new.subst _ c.new_row_type.ensures.grows c.new_row_kind.ensures.grows

pub returns-clause-grows : goal.returns-clause-grows
returns-clause-grows c = grows_both c.args.subst.now c.new_row_type.new.subst _ c.new_row_type.ensures.grows c.new_row_kind.ensures.grows

pub returns-clause-instance : goal.returns-clause-instance
returns-clause-instance c =
    row_instantiates c.args.subst.now c.new_row_type.new.subst c.new_row_kind.new.subst c.args.builtin c.in_ok-any.any c.in_ok-kind.kind c.in_ok-any.ensures.new c.in_ok-kind.ensures.new
    _ _ _ c.in_ok-call.ensures.params c.in_ok-call.ensures.call c.in_ok-call.ensures.kinds

pub returns-clause-counted : goal.returns-clause-counted
returns-clause-counted c =
    row_counted c.args.subst.now c.new_row_type.new.subst c.new_row_kind.new.subst c.args.builtin c.in_ok-any.any c.in_ok-kind.kind c.in_ok-any.ensures.new c.in_ok-kind.ensures.new
    _ c.in_ok-call.ensures.kinds
