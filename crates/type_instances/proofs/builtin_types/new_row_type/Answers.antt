use Rattle.std.proofs.Common.{◌∙◌, ap, cond, Bool}
use Rattle.type_instances.proofs.NewTypes.{row_types_one}
use Rattle.type_instances.proofs.builtin_types.new_row_type.Goals as goal

pub returns-clause-new : goal.returns-clause-new
returns-clause-new c = row_types_one _ _ _ c.in_ok-number.number (c.has_type_variable.ensures ∙ ap (λ (b : Bool). cond b 1 0) c.if-not-has_type_variable.false) c.in_ok-number.ensures.free
