use Rattle.std.proofs.Common.{◌∙◌, sym, ap, subst, List, Some}
use Rattle.std.specs.Prelude.{option_map}
use Rattle.type_terms.specs.Term.{variable}
use Rattle.type_terms.specs.declared.ty.KindTerm.{KindTerm}
use Rattle.typing_rules.specs.declared.uses.Target.TheVariants as target
use Rattle.script_grammar.specs.Tree.{Named}
use Rattle.type_steps.specs.Environment.{Found, with_use}
use Rattle.type_steps.specs.Flow.{Infers}
use Rattle.type_steps.proofs.Calls.{name_infers, name_unbound}
use Rattle.expression_types.specs.Seen.{env_of, founds}
use Rattle.expression_types.proofs.leaves.type_name.Goals as goal

pub returns-in-None-value-clause-typed : goal.returns-in-None-value-clause-typed
returns-in-None-value-clause-typed c =
    name_unbound c.args.subst.now (env_of c.args.names) c.args.at c.args.name.now c.in-Slot.binding (founds c.args.uses.now.items)
    (sym c.target.ensures ∙ c.in-Some.is ∙ ap Some c.in-Slot.is) (sym c.value.ensures ∙ ap (option_map variable) c.in-None-value.is)

pub returns-in_ok-push_use-in-Some-value-clause-typed : goal.returns-in_ok-push_use-in-Some-value-clause-typed
returns-in_ok-push_use-in-Some-value-clause-typed c =
    let env = env_of c.args.names in
    let old = founds c.args.uses.now.items in
    subst (λ (fs : List Found). Infers c.args.subst.now c.args.subst.now env (Named c.args.at c.args.name.now) (variable c.in-Some-value.n) old fs)
    (sym (c.in_ok-push_use-in-Some-value.ensures ∙ ap (λ (ks : List KindTerm). with_use old c.args.at (target.Slot c.in-Slot.binding) ks) c.new.ensures.items))
    (name_infers c.args.subst.now env c.args.at c.args.name.now c.in-Slot.binding (variable c.in-Some-value.n) old c.requires.seen.over c.requires.seen.uses_over
    (sym c.target.ensures ∙ c.in-Some.is ∙ ap Some c.in-Slot.is) (sym c.value.ensures ∙ ap (option_map variable) c.in-Some-value.is))

pub returns-in_ok-push_use-in-Some-value-clause-named : goal.returns-in_ok-push_use-in-Some-value-clause-named
returns-in_ok-push_use-in-Some-value-clause-named c = (
  c.in-Slot.binding,
  sym c.target.ensures ∙ c.in-Some.is ∙ ap Some c.in-Slot.is,
  c.in_ok-push_use-in-Some-value.ensures ∙ ap (λ (ks : List KindTerm). with_use (founds c.args.uses.now.items) c.args.at (target.Slot c.in-Slot.binding) ks) c.new.ensures.items,
)
