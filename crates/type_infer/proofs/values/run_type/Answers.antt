use Rattle.script_grammar.specs.View.{view_call}
use Rattle.expression_types.specs.Seen.{env_of}
use Rattle.type_infer.proofs.After.{not_typed, typed_with}
use Rattle.type_infer.proofs.values.run_type.Goals as goal

pub returns-in-None : goal.returns-in-None
returns-in-None c = not_typed c.args.subst.now c.type_call.new.subst (env_of c.args.seen) (view_call c.args.call.now) c.in_ok-uses.uses.items c.type_call.new.uses.items c.in_ok-uses.ensures.items (rw c.in-None.is at c.in_ok-type_call.ensures.typed)

pub returns-in-Some : goal.returns-in-Some
returns-in-Some c =
    typed_with c.args.subst.now c.type_call.new.subst c.args.seen (view_call c.args.call.now) c.in_ok-uses.uses.items c.type_call.new.uses.items c.in-Some.var c.noted.result c.in_ok-uses.ensures.items (rw c.in-Some.is at c.in_ok-type_call.ensures.typed) (rw c.in-Some.is at c.in_ok-type_call.ensures.order) c.noted.ensures
