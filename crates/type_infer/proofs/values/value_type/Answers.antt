use Rattle.script_grammar.specs.View.{view_full}
use Rattle.expression_types.specs.Seen.{env_of}
use Rattle.type_infer.proofs.After.{not_typed, typed_with}
use Rattle.type_infer.proofs.values.value_type.Goals as goal

pub returns-in-None : goal.returns-in-None
returns-in-None c = not_typed c.args.subst.now c.type_full.new.subst (env_of c.args.seen) (view_full c.args.full.now) c.in_ok-uses.uses.items c.type_full.new.uses.items c.in_ok-uses.ensures.items (rw c.in-None.is at c.in_ok-type_full.ensures.typed)

pub returns-in-Some : goal.returns-in-Some
returns-in-Some c =
    typed_with c.args.subst.now c.type_full.new.subst c.args.seen (view_full c.args.full.now) c.in_ok-uses.uses.items c.type_full.new.uses.items c.in-Some.var c.noted.result c.in_ok-uses.ensures.items (rw c.in-Some.is at c.in_ok-type_full.ensures.typed) (rw c.in-Some.is at c.in_ok-type_full.ensures.order) c.noted.ensures
